-- The cutover: what it leaves and tells is decided by what stands, where a current epoch is held.
use Rattle.std.specs.Prelude.{ℕ, Bool, true, false, not, ◌≡◌, refl, ◌++◌, ℤ}
use Rattle.std.proofs.Common.{ap, ap₂}
use Rattle.time.specs.declared.When.{When}
use Rattle.time.specs.Pick.{pick}
use Rattle.time.specs.Time.{at}
use Rattle.ladder.specs.Ladder.{next_at_of}
use Rattle.settings.specs.declared.Config.{Config}
use Rattle.epoch.specs.declared.Epoch.{Epoch}
use Rattle.epoch.specs.declared.Final.{Final}
use Rattle.epoch.specs.declared.Drain.{Drain}
use Rattle.epoch.specs.Put.{put_fin, put_elicit, drop_fin, drop_ladder}
use Rattle.candidates.specs.declared.Candidates.{Candidates}
use Rattle.state.specs.declared.Memory.{Memory}
use Rattle.state.specs.declared.State.{State}
use Rattle.state.specs.declared.Given.{Given}
use Rattle.state.specs.Stands.{when_view, final_view, may_ladder_view, epoch_view, drain_view, candidates_view, memory_view}
use Rattle.events.specs.Events.{Event, PeerRestarted}
use Rattle.retire.specs.Retire.{only}
use Rattle.time.specs.Pick.{and}
use Rattle.cutover.specs.declared.Pend.{Pend}
use Rattle.cutover.specs.Cutover.{is_frame, is_delay, prunes, pruned, demoted, given_up, spent, kept_fin, heard_now, adopted, heard_frame, cut_memory, remembered, announced, CutStep, cutover_of}
use Rattle.law_alike.specs.Optional.{Same, when, picked, related, some-when}
use Rattle.law_alike.specs.Parts.{AlikeEpoch, epoch_fields, epoch-whole, AlikeMemory, memory_fields}
use Rattle.law_alike.specs.Ladders.{next-alike, fin-some, fin-msg, fin-ladder}
use Rattle.law_alike.specs.Whole.{Alike, cur-ep, cur-whole, drain-some, drain_fields, drain-whole}
use Rattle.law_alike.specs.Candidates.{cleared_alike}
use Rattle.law_agree.specs.Told.{retire_out_lem, delegate_out_lem}
use Rattle.law_agree.specs.Rows.{anded, fin-whole, same-idle}

pub record AlikePend (p q : Pend) : Type 0 where
  pub ep : Same epoch_view p.ep q.ep
  pub restart : p.restart ≡ q.restart
  pub fin : Same final_view p.fin q.fin

pruned-alike : {v w : Candidates} → Same candidates_view v w → (evidence : ℕ) (smaller : Bool) → Same candidates_view (pruned v evidence smaller) (pruned w evidence smaller)
unfolding pruned
pruned-alike e evidence smaller =
    related (Same candidates_view) {p = prunes evidence smaller} {q = prunes evidence smaller} refl (λ _. cleared_alike e) (λ _. e)

-- an epoch without final message and prompt repeats
pub shed : {x y : Epoch} → AlikeEpoch x y → Same epoch_view (put_elicit (put_fin x (drop_fin x.fin)) (drop_ladder x.elicit) x.prompted) (put_elicit (put_fin y (drop_fin y.fin)) (drop_ladder y.elicit) y.prompted)
unfolding epoch_view
shed h = record { eq = cc }

demoted-alike : {x y : Epoch} → AlikeEpoch x y → {b c : Bool} → b ≡ c → (evidence : ℕ) (cfg : Config) (now : ℕ) → Same drain_view (demoted x b evidence cfg now) (demoted y c evidence cfg now)
unfolding demoted
demoted-alike h e evidence cfg now =
    drain-whole (ap not e) (λ _. record { view = shed h; ep = epoch_fields (shed h); deadline = refl; evidenced = refl })

given-up : {d e : Drain} {x y : Epoch} → Same drain_view d e → AlikeEpoch x y → {b c : Bool} → b ≡ c → given_up d x b ≡ given_up e y c
unfolding given_up
given-up h k e =
    ap₂ (λ l m. l ++ m) (picked (drain-some h) (λ q. retire_out_lem (drain_fields h q).ep) (λ _. refl)) (picked e (λ _. retire_out_lem k) (λ _. refl))

spent-alike : {f g : Final} → Same final_view f g → (evidence : ℕ) → spent f evidence ≡ spent g evidence
unfolding spent
spent-alike e evidence = anded (fin-some e) (λ q. ap (λ (w : When). and (is_delay evidence) (not w.some)) (next-alike (fin-ladder e q)))

and_first : (a b : Bool) → and a b ≡ true → a ≡ true
and_first true b e = refl
and_first false b e = e

kept-fin : {f g : Final} → Same final_view f g → (evidence : ℕ) → Same final_view (kept_fin f evidence) (kept_fin g evidence)
unfolding kept_fin
kept-fin {f} {g} e evidence =
    let first : and f.some (and (is_delay evidence) (next_at_of f.ladder).some) ≡ true → f.some ≡ true = λ q. and_first f.some (and (is_delay evidence) (next_at_of f.ladder).some) q in
    fin-whole (anded (fin-some e) (λ q. ap (λ (w : When). and (is_delay evidence) w.some) (next-alike (fin-ladder e q))))
    (λ q. fin-msg e (first q)) (λ q. fin-ladder e (first q))

heard_now_lem : {w z : When} → Same when_view w z → (evidence now : ℕ) → Same when_view (heard_now w evidence now) (heard_now z evidence now)
unfolding heard_now
heard_now_lem e evidence now =
    related (Same when_view) {p = is_frame evidence} {q = is_frame evidence} refl (λ _. record { eq = refl }) (λ _. e)

adopted-alike : {x y : Epoch} {f g : Final} → AlikeEpoch x y → Same final_view f g → (evidence : ℕ) (cfg : Config) (now : ℕ) → Same epoch_view (adopted x f evidence cfg now) (adopted y g evidence cfg now)
unfolding adopted
adopted-alike h e evidence cfg now =
    epoch-whole (record {
      tag = h.tag;
      session = h.session;
      sent = h.sent;
      lease = h.lease;
      theirs = h.theirs;
      transport = h.transport;
      k = h.k;
      responder = h.responder;
      base = record { eq = when (λ b t. when_view (pick b (record { some = b; at = t }) (at now))) (λ u v. refl) h.base };
      started = refl;
      route = h.route;
      ext = h.ext;
      delegated = h.delegated;
      floor = h.floor;
      heard = heard_now_lem h.heard evidence now;
      moved = heard_now_lem h.moved evidence now;
      assumed = h.assumed;
      fin = kept-fin e evidence;
      elicit = related (Same may_ladder_view) (some-when (heard_now_lem h.moved evidence now)) (λ _. h.elicit) (λ _. record { eq = refl });
      prompted = record { eq = refl };
    })

pub heard-frame : {m n : Memory} → AlikeMemory m n → (k : Bool) (now : ℕ) → Same memory_view (heard_frame m k now) (heard_frame n k now)
unfolding memory_view heard_frame
heard-frame h k now = record { eq = cc }

cut_memory_lem : {m n : Memory} → AlikeMemory m n → {b c b' c' : Bool} → b ≡ c → b' ≡ c' → (spread : ℤ) (now : ℕ) → Same memory_view (cut_memory m b b' spread now) (cut_memory n c c' spread now)
unfolding memory_view cut_memory
cut_memory_lem h e f spread now = record { eq = cc }

remembered-alike : {m n : Memory} → AlikeMemory m n → {b c b' c' : Bool} → b ≡ c → b' ≡ c' → (evidence : ℕ) (k : Bool) (spread : ℤ) (now : ℕ) → Same memory_view (remembered m b b' evidence k spread now) (remembered n c c' evidence k spread now)
unfolding remembered
remembered-alike h e f evidence k spread now =
    let m = cut_memory_lem h e f spread now in
    related (Same memory_view) {p = is_frame evidence} {q = is_frame evidence} refl (λ _. heard-frame (memory_fields m) k now) (λ _. m)

no-restart : (b : Bool) (x y : Event) → only (and b false) x ≡ only (and b false) y
no-restart true x y = refl
no-restart false x y = refl

announced-alike : {x y : Epoch} → AlikeEpoch x y → {b c : Bool} → b ≡ c → {w z : When} → Same when_view w z → (evidence : ℕ) (workers : Bool) → announced x b w evidence workers ≡ announced y c z evidence workers
unfolding announced
announced-alike h {c = c} e p evidence workers =
    cc (delegate_out_lem h workers, h.tag, h.responder, e, when (λ b n. only (and c b) (PeerRestarted n)) (λ u v. no-restart c _ _) p)

pub record CutSteps (a b : CutStep) : Type 0 where
  pub state : Alike a.state b.state
  pub out : a.out ≡ b.out

pub cutover-alike :
    {s t : State} → Alike s t → s.cur.some ≡ true → (g : Given) (spread : ℤ) {p q : Pend} → AlikePend p q → (evidence : ℕ) (k : Bool)
    → CutSteps (cutover_of s g spread p evidence k) (cutover_of t g spread q evidence k)
unfolding cutover_of
cutover-alike {s} {t} a c g spread {p} {q} h evidence k =
    let m = memory_fields a.mem in
    let old = cur-ep a.cur c in
    let new = adopted-alike (epoch_fields h.ep) h.fin evidence g.cfg g.now in
    record {
      state = record {
        mem = remembered-alike m h.restart (spent-alike h.fin evidence) evidence k spread g.now;
        cur = cur-whole refl (λ _. new);
        drain = demoted-alike old h.restart evidence g.cfg g.now;
        cycle = same-idle s.cycle t.cycle;
        cands = pruned-alike a.cands evidence g.profile.smaller;
      };
      out = ap₂ (λ l n. l ++ n) (given-up a.drain old h.restart) (announced-alike (epoch_fields new) h.restart m.peer_epoch evidence g.workers);
    }
