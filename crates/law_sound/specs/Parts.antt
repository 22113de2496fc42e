-- A part of an accepted state put in place of another: what the new part must be, by the conditions
-- 3 to 6.
use Rattle.std.specs.Prelude.{◌≤◌, true, false, ◌≡◌, eqb}
use Rattle.std.proofs.lemmas.Bool.{false≢true}
use Rattle.std.proofs.Common.{sym, ◌∙◌, ap, subst}
use Rattle.epoch.specs.declared.MayEpoch.{MayEpoch}
use Rattle.epoch.specs.declared.Drain.{Drain}
use Rattle.cycle.specs.declared.Attempt.{Attempt}
use Rattle.cycle.specs.declared.PendI.{PendI}
use Rattle.cycle.specs.Kind.{is_init, is_pend_i, idled}
use Rattle.cycle.specs.Put.{put_init, put_pend_i}
use Rattle.candidates.specs.declared.Candidates.{Candidates}
use Rattle.candidates.specs.Held.{firsts}
use Rattle.candidates.specs.Repeats.{repeated}
use Rattle.state.specs.declared.Memory.{Memory}
use Rattle.state.specs.declared.State.{State}
use Rattle.state.specs.Parts.{put_mem, put_cur, put_drain, put_cycle, put_cands}
use Rattle.law_refusal.specs.Sound.{Within, EpochSound, Sound}

module _ (s : State) (o : Sound s) where
  -- no condition reads the memory
  pub on-mem : (m : Memory) → Sound (put_mem s m)
  on-mem m =
      record {
        count = o.count;
        pendi-led = o.pendi-led;
        pendr-led = o.pendr-led;
        drain-led = o.drain-led;
        cur-pendi = o.cur-pendi;
        cur-pendr = o.cur-pendr;
        cur-drain = o.cur-drain;
        pendi-drain = o.pendi-drain;
        pendr-drain = o.pendr-drain;
        seqs = o.seqs;
        init-ladder = o.init-ladder;
        pendi-fin = o.pendi-fin;
        pendi-probes = o.pendi-probes;
        cur-ladders = o.cur-ladders;
        pendi-ladders = o.pendi-ladders;
        pendr-ladders = o.pendr-ladders;
        drain-ladders = o.drain-ladders;
      }

  -- nothing is drained any more
  pub no-drain : (d : Drain) → d.some ≡ false → Sound (put_drain s d)
  no-drain d h =
      record {
        count = o.count;
        pendi-led = o.pendi-led;
        pendr-led = o.pendr-led;
        drain-led = λ e. absurd (false≢true (sym h ∙ e));
        cur-pendi = o.cur-pendi;
        cur-pendr = o.cur-pendr;
        cur-drain = λ e. absurd (false≢true (sym h ∙ e));
        pendi-drain = λ k e. absurd (false≢true (sym h ∙ e));
        pendr-drain = λ k e. absurd (false≢true (sym h ∙ e));
        seqs = o.seqs;
        init-ladder = o.init-ladder;
        pendi-fin = o.pendi-fin;
        pendi-probes = o.pendi-probes;
        cur-ladders = o.cur-ladders;
        pendi-ladders = o.pendi-ladders;
        pendr-ladders = o.pendr-ladders;
        drain-ladders = λ e. absurd (false≢true (sym h ∙ e));
      }

  -- the same epoch is drained, or none
  pub keep-drain : (d : Drain) → d.some ≡ s.drain.some → d.ep ≡ s.drain.ep → Sound (put_drain s d)
  keep-drain d h q =
      record {
        count = o.count;
        pendi-led = o.pendi-led;
        pendr-led = o.pendr-led;
        drain-led = λ e. o.drain-led (sym h ∙ e);
        cur-pendi = o.cur-pendi;
        cur-pendr = o.cur-pendr;
        cur-drain = λ e. ap (λ x. eqb s.cur.ep.tag x.tag) q ∙ o.cur-drain (sym h ∙ e);
        pendi-drain = λ k e. ap (λ x. eqb s.cycle.pendi.ep.tag x.tag) q ∙ o.pendi-drain k (sym h ∙ e);
        pendr-drain = λ k e. ap (λ x. eqb s.cycle.pendr.ep.tag x.tag) q ∙ o.pendr-drain k (sym h ∙ e);
        seqs = o.seqs;
        init-ladder = o.init-ladder;
        pendi-fin = o.pendi-fin;
        pendi-probes = o.pendi-probes;
        cur-ladders = o.cur-ladders;
        pendi-ladders = o.pendi-ladders;
        pendr-ladders = o.pendr-ladders;
        drain-ladders = λ e. subst EpochSound (sym q) (o.drain-ladders (sym h ∙ e));
      }

  -- the cycle ends
  pub to-idle : Sound (put_cycle s (idled s.cycle))
  to-idle =
      record {
        count = o.count;
        pendi-led = λ e. absurd (false≢true e);
        pendr-led = λ e. absurd (false≢true e);
        drain-led = o.drain-led;
        cur-pendi = λ e. absurd (false≢true e);
        cur-pendr = λ e. absurd (false≢true e);
        cur-drain = o.cur-drain;
        pendi-drain = λ e. absurd (false≢true e);
        pendr-drain = λ e. absurd (false≢true e);
        seqs = o.seqs;
        init-ladder = λ e. absurd (false≢true e);
        pendi-fin = λ e. absurd (false≢true e);
        pendi-probes = λ e. absurd (false≢true e);
        cur-ladders = o.cur-ladders;
        pendi-ladders = λ e. absurd (false≢true e);
        pendr-ladders = λ e. absurd (false≢true e);
        drain-ladders = o.drain-ladders;
      }

  -- the own attempt's ladder is another
  pub keep-init : (a : Attempt) → (is_init s.cycle.kind ≡ true → Within a.ladder.sched.len a.ladder.next) → Sound (put_cycle s (put_init s.cycle a))
  keep-init a h =
      record {
        count = o.count;
        pendi-led = o.pendi-led;
        pendr-led = o.pendr-led;
        drain-led = o.drain-led;
        cur-pendi = o.cur-pendi;
        cur-pendr = o.cur-pendr;
        cur-drain = o.cur-drain;
        pendi-drain = o.pendi-drain;
        pendr-drain = o.pendr-drain;
        seqs = o.seqs;
        init-ladder = h;
        pendi-fin = o.pendi-fin;
        pendi-probes = o.pendi-probes;
        cur-ladders = o.cur-ladders;
        pendi-ladders = o.pendi-ladders;
        pendr-ladders = o.pendr-ladders;
        drain-ladders = o.drain-ladders;
      }

  -- an own completed attempt with the same epoch and other ladders
  pub keep-pendi :
      (p : PendI) → p.ep ≡ s.cycle.pendi.ep
      → (is_pend_i s.cycle.kind ≡ true → p.fin.some ≡ true → Within p.fin.ladder.sched.len p.fin.ladder.next)
      → (is_pend_i s.cycle.kind ≡ true → p.probes.some ≡ true → Within p.probes.ladder.sched.len p.probes.ladder.next)
      → Sound (put_cycle s (put_pend_i s.cycle p))
  keep-pendi p q f b =
      record {
        count = o.count;
        pendi-led = o.pendi-led;
        pendr-led = o.pendr-led;
        drain-led = o.drain-led;
        cur-pendi = λ e. ap (λ x. eqb s.cur.ep.tag x.tag) q ∙ o.cur-pendi e;
        cur-pendr = o.cur-pendr;
        cur-drain = o.cur-drain;
        pendi-drain = λ e k. ap (λ x. eqb x.tag s.drain.ep.tag) q ∙ o.pendi-drain e k;
        pendr-drain = o.pendr-drain;
        seqs = o.seqs;
        init-ladder = o.init-ladder;
        pendi-fin = f;
        pendi-probes = b;
        cur-ladders = o.cur-ladders;
        pendi-ladders = λ e. subst EpochSound (sym q) (o.pendi-ladders e);
        pendr-ladders = o.pendr-ladders;
        drain-ladders = o.drain-ladders;
      }

  -- the current epoch with the same tag and other ladders
  pub keep-cur : (e : MayEpoch) → e.some ≡ s.cur.some → e.ep.tag ≡ s.cur.ep.tag → (e.some ≡ true → EpochSound e.ep) → Sound (put_cur s e)
  keep-cur e h q l =
      record {
        count = o.count;
        pendi-led = λ k. h ∙ o.pendi-led k;
        pendr-led = λ k. h ∙ o.pendr-led k;
        drain-led = λ k. h ∙ o.drain-led k;
        cur-pendi = λ k. ap (λ x. eqb x s.cycle.pendi.ep.tag) q ∙ o.cur-pendi k;
        cur-pendr = λ k. ap (λ x. eqb x s.cycle.pendr.ep.tag) q ∙ o.cur-pendr k;
        cur-drain = λ k. ap (λ x. eqb x s.drain.ep.tag) q ∙ o.cur-drain k;
        pendi-drain = o.pendi-drain;
        pendr-drain = o.pendr-drain;
        seqs = o.seqs;
        init-ladder = o.init-ladder;
        pendi-fin = o.pendi-fin;
        pendi-probes = o.pendi-probes;
        cur-ladders = l;
        pendi-ladders = o.pendi-ladders;
        pendr-ladders = o.pendr-ladders;
        drain-ladders = o.drain-ladders;
      }

  -- other candidates
  pub new-cands : (v : Candidates) → v.len ≤ 32 → repeated (firsts v.len v.seq) ≡ false → Sound (put_cands s v)
  new-cands v n q =
      record {
        count = n;
        pendi-led = o.pendi-led;
        pendr-led = o.pendr-led;
        drain-led = o.drain-led;
        cur-pendi = o.cur-pendi;
        cur-pendr = o.cur-pendr;
        cur-drain = o.cur-drain;
        pendi-drain = o.pendi-drain;
        pendr-drain = o.pendr-drain;
        seqs = q;
        init-ladder = o.init-ladder;
        pendi-fin = o.pendi-fin;
        pendi-probes = o.pendi-probes;
        cur-ladders = o.cur-ladders;
        pendi-ladders = o.pendi-ladders;
        pendr-ladders = o.pendr-ladders;
        drain-ladders = o.drain-ladders;
      }
