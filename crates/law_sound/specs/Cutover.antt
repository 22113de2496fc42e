-- A cutover leaves an accepted state: the pending epoch is current, the old one drained with no ladder
-- or retired, and nothing is in progress.
use Rattle.std.specs.Prelude.{ℕ, ◌≤◌, Bool, true, false, ◌≡◌, refl, eqb, ℤ}
use Rattle.std.proofs.lemmas.Bool.{false≢true, eqb-false}
use Rattle.std.proofs.Common.{sym, arith, ne_eqb}
use Rattle.time.specs.Pick.{pick}
use Rattle.ladder.specs.Ladder.{next_at_of, anew}
use Rattle.settings.specs.declared.Config.{Config}
use Rattle.params.specs.Params.{elicit_made}
use Rattle.epoch.specs.declared.Final.{Final}
use Rattle.epoch.specs.declared.MayLadder.{MayLadder}
use Rattle.epoch.specs.declared.Epoch.{Epoch}
use Rattle.candidates.specs.declared.Candidates.{Candidates}
use Rattle.candidates.specs.Held.{cleared_of, firsts}
use Rattle.candidates.proofs.Laws.{cleared_len, cleared_once}
use Rattle.candidates.specs.Repeats.{repeated}
use Rattle.state.specs.declared.State.{State}
use Rattle.state.specs.declared.Given.{Given}
use Rattle.time.specs.Pick.{and, and_left}
use Rattle.refusal.specs.Refusal.{seqs_of}
use Rattle.law_refusal.specs.Sound.{Within, EpochSound, Sound}
use Rattle.cutover.specs.declared.Pend.{Pend}
use Rattle.cutover.specs.Cutover.{is_delay, prunes, pruned, demoted, kept_fin, heard_now, adopted, cutover_of}
use Rattle.law_sound.specs.Ladders.{elicit-within}

pub apart : (x y : ℕ) → eqb x y ≡ false → eqb y x ≡ false
apart x y e = ne_eqb y x (λ q. eqb-false x y e (sym q))

-- ---- the candidates: all stay or none

pruned-count : (v : Candidates) (evidence : ℕ) (smaller : Bool) → v.len ≤ 32 → (pruned v evidence smaller).len ≤ 32
unfolding pruned
pruned-count v evidence smaller h = under (prunes evidence smaller)
  where
    under : (q : Bool) → (pick q (cleared_of v) v).len ≤ 32
    under true = omega (arith, cleared_len v)
    under false = h

pruned-once : (v : Candidates) (evidence : ℕ) (smaller : Bool) → repeated (firsts v.len v.seq) ≡ false → repeated (firsts (pruned v evidence smaller).len (pruned v evidence smaller).seq) ≡ false
unfolding pruned
pruned-once v evidence smaller h = under (prunes evidence smaller)
  where
    under : (q : Bool) → repeated (firsts (pick q (cleared_of v) v).len (pick q (cleared_of v) v).seq) ≡ false
    under true = cleared_once v h
    under false = h

-- ---- the new epoch's ladders: the retained final message's, and prompt repeats made anew

elicit-sound : (b : Bool) (m : MayLadder) (cfg : Config) (now : ℕ) → (m.some ≡ true → Within m.ladder.sched.len m.ladder.next) → (pick b m (record { some = true; ladder = anew now (elicit_made cfg).sched })).some ≡ true → Within (pick b m (record { some = true; ladder = anew now (elicit_made cfg).sched })).ladder.sched.len (pick b m (record { some = true; ladder = anew now (elicit_made cfg).sched })).ladder.next
elicit-sound true m cfg now h e = h e
elicit-sound false m cfg now h e = elicit-within cfg

adopted-sound : (e : Epoch) (fin : Final) (evidence : ℕ) (cfg : Config) (now : ℕ) → EpochSound e → (fin.some ≡ true → Within fin.ladder.sched.len fin.ladder.next) → EpochSound (adopted e fin evidence cfg now)
unfolding adopted kept_fin
adopted-sound e fin evidence cfg now o f =
    record {
      fin = λ q. f (and_left fin.some (and (is_delay evidence) (next_at_of fin.ladder).some) q);
      elicit = elicit-sound (heard_now e.moved evidence now).some e.elicit cfg now o.elicit;
    }

-- ---- the old epoch has none

demoted-sound : (old : Epoch) (restart : Bool) (evidence : ℕ) (cfg : Config) (now : ℕ) → EpochSound (demoted old restart evidence cfg now).ep
unfolding demoted
demoted-sound old restart evidence cfg now =
    record { fin = λ e. absurd (false≢true e); elicit = λ e. absurd (false≢true e) }

-- ---- the whole: the pending epoch's ladders stand, and its tag is not the current one's

pub cut-sound :
    (s : State) (g : Given) (spread : ℤ) (p : Pend) (evidence : ℕ) (k : Bool)
    → s.cands.len ≤ 32 → repeated (seqs_of s) ≡ false
    → EpochSound p.ep → (p.fin.some ≡ true → Within p.fin.ladder.sched.len p.fin.ladder.next)
    → eqb s.cur.ep.tag p.ep.tag ≡ false
    → Sound (cutover_of s g spread p evidence k).state
unfolding cutover_of adopted demoted
cut-sound s g spread p evidence k n q l f h =
    record {
      count = pruned-count s.cands evidence g.profile.smaller n;
      pendi-led = λ e. absurd (false≢true e);
      pendr-led = λ e. absurd (false≢true e);
      drain-led = λ e. refl;
      cur-pendi = λ e. absurd (false≢true e);
      cur-pendr = λ e. absurd (false≢true e);
      cur-drain = λ e. apart s.cur.ep.tag p.ep.tag h;
      pendi-drain = λ e. absurd (false≢true e);
      pendr-drain = λ e. absurd (false≢true e);
      seqs = pruned-once s.cands evidence g.profile.smaller q;
      init-ladder = λ e. absurd (false≢true e);
      pendi-fin = λ e. absurd (false≢true e);
      pendi-probes = λ e. absurd (false≢true e);
      cur-ladders = λ e. adopted-sound p.ep p.fin evidence g.cfg g.now l f;
      pendi-ladders = λ e. absurd (false≢true e);
      pendr-ladders = λ e. absurd (false≢true e);
      drain-ladders = λ e. demoted-sound s.cur.ep p.restart evidence g.cfg g.now;
    }
