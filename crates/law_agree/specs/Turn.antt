-- One item of a pass: what it leaves and tells is decided by what stands in an accepted state.
use Rattle.std.specs.Prelude.{ℕ, Bool, ◌≡◌, [], ◌∷◌, ◌++◌, ℤ}
use Rattle.std.proofs.Math.Bool.{true, false}
use Rattle.std.proofs.Math.Path.{refl, ap, ap₂}
use Rattle.std.proofs.Math.Dec.{leb, ltb, eqb}
use Rattle.time.specs.Pick.{pick}
use Rattle.epoch.specs.declared.Epoch.{Epoch}
use Rattle.epoch.specs.declared.MayEpoch.{MayEpoch}
use Rattle.epoch.specs.declared.Drain.{Drain}
use Rattle.epoch.specs.Put.{put_assumed}
use Rattle.cycle.specs.declared.Cycle.{Cycle}
use Rattle.cycle.specs.Kind.{is_pend_i}
use Rattle.candidates.specs.declared.Candidates.{Candidates}
use Rattle.state.specs.declared.Memory.{Memory}
use Rattle.state.specs.declared.State.{State}
use Rattle.state.specs.declared.Given.{Given}
use Rattle.state.specs.Parts.{put_mem, put_cur, put_drain, put_cycle, put_cands}
use Rattle.state.specs.Stands.{epoch_view, drain_view, cycle_view, candidates_view, memory_view}
use Rattle.law_refusal.specs.Sound.{Sound}
use Rattle.events.specs.Events.{Abandoned, Reject}
use Rattle.retire.specs.Retire.{only}
use Rattle.poll_epoch.specs.EpochRows.{DrainStep, CurStep}
use Rattle.poll_cycle.specs.CycleRows.{CycleStep, FailStep}
use Rattle.poll_cut.specs.Cut.{Step, stay, due_mem, candidate_due, pend_of, cut_by, held_due, delay_end, unconfirmed, assumed, confirm_due}
use Rattle.poll_item.specs.Item.{on_drain, on_cycle, on_cur, on_fail, holds, alone, low_step, high_step, other_step, item_step}
use Rattle.law_alike.specs.Optional.{Same, related}
use Rattle.law_alike.specs.Parts.{AlikeEpoch, epoch_fields, AlikeMemory, memory_fields}
use Rattle.law_alike.specs.Cycle.{AlikeCycle, cycle_fields, wait-held, wait-evidence, wait-delay}
use Rattle.law_alike.specs.Whole.{Alike, cur_view, cur-some, cur-ep, cur-whole}
use Rattle.law_alike.specs.Due.{count-alike}
use Rattle.law_alike.specs.Candidates.{expire_alike, gone-alike}
use Rattle.law_agree.specs.Told.{retire_out_lem}
use Rattle.law_agree.specs.Rows.{DrainSteps, CycleSteps, CurSteps, FailSteps, related2, anded, own-alike, own_is, grace-alike, same-idle, drain-due, unadopted_due_lem, probe-due, delayed-due, resend_due_lem, expire_due_lem, fin-due, elicit-due}
use Rattle.law_agree.specs.Cutover.{cutover-alike}

pub record Steps (a b : Step) : Type 0 where
  pub state : Alike a.state b.state
  pub out : a.out ≡ b.out
  pub ends : a.ends ≡ b.ends

-- ---- a part put in place

module _ {s t : State} (a : Alike s t) where
  pub with_mem : {m n : Memory} → Same memory_view m n → Alike (put_mem s m) (put_mem t n)
  with_mem e = record { mem = e; cur = a.cur; drain = a.drain; cycle = a.cycle; cands = a.cands }

  pub with_cur : {c d : MayEpoch} → Same cur_view c d → Alike (put_cur s c) (put_cur t d)
  with_cur e = record { mem = a.mem; cur = e; drain = a.drain; cycle = a.cycle; cands = a.cands }

  pub with_drain : {c d : Drain} → Same drain_view c d → Alike (put_drain s c) (put_drain t d)
  with_drain e = record { mem = a.mem; cur = a.cur; drain = e; cycle = a.cycle; cands = a.cands }

  pub with_cycle : {c d : Cycle} → Same cycle_view c d → Alike (put_cycle s c) (put_cycle t d)
  with_cycle e = record { mem = a.mem; cur = a.cur; drain = a.drain; cycle = e; cands = a.cands }

  with_cands : {v w : Candidates} → Same candidates_view v w → Alike (put_cands s v) (put_cands t w)
  with_cands e = record { mem = a.mem; cur = a.cur; drain = a.drain; cycle = a.cycle; cands = e }

due-mem : {m n : Memory} → AlikeMemory m n → {b c : Bool} → b ≡ c → Same memory_view (due_mem m b) (due_mem n c)
unfolding memory_view
due-mem h e = record { eq = cc }

put-assumed : {x y : Epoch} → AlikeEpoch x y → (b : Bool) → Same epoch_view (put_assumed x b) (put_assumed y b)
unfolding epoch_view
put-assumed h b = record { eq = cc }

module _ {s t : State} (a : Alike s t) where
  stays : Steps (stay s) (stay t)
  stays = record { state = a; out = refl; ends = refl }

  on-drain : {x y : DrainStep} → DrainSteps x y → Steps (on_drain s x) (on_drain t y)
  on-drain h = record { state = with_drain a h.drain; out = h.out; ends = refl }

  on-cycle : {x y : CycleStep} → CycleSteps x y → Steps (on_cycle s x) (on_cycle t y)
  on-cycle h = record { state = with_cycle a h.cycle; out = h.out; ends = refl }

  on-cur : {x y : CurStep} → CurSteps x y → Steps (on_cur s x) (on_cur t y)
  on-cur h =
      let m = memory_fields a.mem in
      record { state = with_mem (with_cur a h.cur) (due-mem m (ap₂ (λ p q. pick p true q) h.due m.due)); out = h.out; ends = refl }

  on_fail_lem : {x y : FailStep} → FailSteps x y → Steps (on_fail s x) (on_fail t y)
  on_fail_lem h = record { state = with_mem (with_cycle a h.cycle) h.mem; out = h.out; ends = h.ends }

  candidate_due_lem : (seq now : ℕ) → Steps (candidate_due s seq now) (candidate_due t seq now)
  unfolding candidate_due
  candidate_due_lem seq now =
      record { state = with_cands a (expire_alike a.cands seq now); out = ap (λ b. only b (Reject 29)) (gone-alike a.cands seq now); ends = refl }

  holds-alike : (smaller : Bool) → holds s smaller ≡ holds t smaller
  unfolding holds
  holds-alike smaller = cc (cur-some a.cur, count-alike a.cands)

  alone-alike : alone s ≡ alone t
  unfolding alone
  alone-alike = cc (cur-some a.cur, count-alike a.cands)

module _ {s t : State} (a : Alike s t) (o : Sound s) (g : Given) (spread : ℤ) where
  c : AlikeCycle s.cycle t.cycle
  c = cycle_fields a.cycle

  cut_by_lem : is_pend_i s.cycle.kind ≡ true → (evidence : ℕ) → Steps (cut_by s g spread evidence) (cut_by t g spread evidence)
  unfolding cut_by
  cut_by_lem q evidence =
      let p = c.pendi q in
      let r = cutover-alike a (o.pendi-led q) g spread {p = pend_of s.cycle} {q = pend_of t.cycle} (record { ep = p.ep; restart = p.restart; fin = p.fin }) evidence false in
      record { state = r.state; out = r.out; ends = refl }

  held-due : (tag : ℕ) → Steps (held_due s g spread tag) (held_due t g spread tag)
  unfolding held_due
  held-due tag =
      related2 Steps (own-alike c tag) (λ q. wait-held (c.pendi (own_is s.cycle tag q)).wait) (λ q _. cut_by_lem (own_is s.cycle tag q) 0) (stays a)

  delay-end : (tag : ℕ) → Steps (delay_end s g spread tag) (delay_end t g spread tag)
  unfolding delay_end
  delay-end tag =
      related2 Steps (own-alike c tag) (λ q. wait-delay (c.pendi (own_is s.cycle tag q)).wait) (λ q _. cut_by_lem (own_is s.cycle tag q) 4) (stays a)

  unconfirmed-alike : is_pend_i s.cycle.kind ≡ true → Steps (unconfirmed s) (unconfirmed t)
  unfolding unconfirmed
  unconfirmed-alike q =
      let p = c.pendi q in
      record {
        state = with_mem (with_cycle a (same-idle s.cycle t.cycle)) (due-mem (memory_fields a.mem) refl);
        out = ap₂ (λ l b. l ++ (Abandoned (pick b 3 2) ∷ [])) (retire_out_lem (epoch_fields p.ep)) p.reverted;
        ends = refl;
      }

  assumed-alike : is_pend_i s.cycle.kind ≡ true → Steps (assumed s g spread) (assumed t g spread)
  unfolding assumed
  assumed-alike q =
      let r = cut_by_lem q 3 in
      record { state = with_cur r.state (cur-whole (cur-some r.state.cur) (λ k. put-assumed (cur-ep r.state.cur k) true)); out = r.out; ends = refl }

  confirm-due : (tag : ℕ) → Steps (confirm_due s g spread tag) (confirm_due t g spread tag)
  unfolding confirm_due
  confirm-due tag =
      related2 Steps (own-alike c tag)
      (λ q. let p = c.pendi (own_is s.cycle tag q) in anded (wait-evidence p.wait) (λ _. ap (λ n. leb n g.now) p.deadline))
      (λ q _. let i = own_is s.cycle tag q in
      let p = c.pendi i in
      related Steps (ap₂ (λ x y. pick x true y) p.stayed p.reverted) (λ _. unconfirmed-alike i) (λ _. assumed-alike i))
      (stays a)

  low_step_lem : (kind key : ℕ) → Steps (low_step s g spread kind key) (low_step t g spread kind key)
  unfolding low_step
  low_step_lem kind key =
      related Steps {p = eqb kind 0} {q = eqb kind 0} refl (λ _. on-drain a (drain-due a.drain key))
      (λ _. related Steps {p = eqb kind 2} {q = eqb kind 2} refl (λ _. on-cycle a (unadopted_due_lem c key))
      (λ _. related Steps {p = eqb kind 3} {q = eqb kind 3} refl (λ _. held-due key)
      (λ _. related Steps {p = eqb kind 4} {q = eqb kind 4} refl
      (λ _. on-cycle a (probe-due c (cur-some a.cur) (λ q. (cur-ep a.cur q).tag) (grace-alike (memory_fields a.mem) g.cfg) key g.now))
      (λ _. on-cycle a (delayed-due c key g.now)))))

  high-step : (kind key : ℕ) → Steps (high_step s g spread kind key) (high_step t g spread kind key)
  unfolding high_step
  high-step kind key =
      related Steps {p = eqb kind 6} {q = eqb kind 6} refl (λ _. on-cur a (fin-due a.cur key g.now))
      (λ _. related Steps {p = eqb kind 7} {q = eqb kind 7} refl (λ _. on-cur a (elicit-due a.cur key g.now))
      (λ _. related Steps {p = eqb kind 8} {q = eqb kind 8} refl (λ _. confirm-due key)
      (λ _. related Steps {p = eqb kind 9} {q = eqb kind 9} refl (λ _. delay-end key)
      (λ _. related Steps {p = eqb kind 10} {q = eqb kind 10} refl
      (λ _. on-cycle a (resend_due_lem c (holds-alike a g.profile.smaller) g.cfg.young g.profile.messages g.now))
      (λ _. on_fail_lem a (expire_due_lem c (memory_fields a.mem) g.cfg (alone-alike a) g.now g.extra))))))

  pub item-step : (kind key : ℕ) → Steps (item_step s g spread kind key) (item_step t g spread kind key)
  unfolding item_step other_step
  item-step kind key =
      related Steps {p = eqb kind 1} {q = eqb kind 1} refl (λ _. candidate_due_lem a key g.now)
      (λ _. related Steps {p = ltb kind 6} {q = ltb kind 6} refl (λ _. low_step_lem kind key) (λ _. high-step kind key))
