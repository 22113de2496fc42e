-- What a poll does to what the quiet time counts from: it hears nothing, and an epoch that it makes current starts
-- at its instant.
use Rattle.std.specs.Prelude.{ℕ, false, not, ◌⊎◌, ◌≡◌, [], leb, ltb, eqb, ℤ}
use Rattle.std.proofs.Math.Bool.{true}
use Rattle.std.proofs.Math.Logic.{inl, inr}
use Rattle.std.proofs.Common.{⊎_elim, sym}
use Rattle.std.proofs.Math.Path.{refl}
use Rattle.time.specs.Pick.{pick, and, of_choice}
use Rattle.ladder.specs.Ladder.{take_of}
use Rattle.epoch.specs.Held.{is_tag}
use Rattle.cycle.specs.Kind.{is_init, waits_held, waits_evidence, waits_delay}
use Rattle.cycle.specs.Held.{is_own}
use Rattle.state.specs.declared.State.{State}
use Rattle.state.specs.declared.Given.{Given}
use Rattle.cutover.specs.Cutover.{adopted, cut_memory, remembered, cutover_of}
use Rattle.poll_epoch.specs.EpochRows.{CurStep, fin_taken, fin_due, elicit_taken, elicit_due}
use Rattle.poll_cycle.specs.CycleRows.{FailStep, abandoned_mem, expire_due}
use Rattle.poll_cut.specs.Cut.{Step, stay, candidate_due, cut_by, held_due, delay_end, unconfirmed, assumed, confirm_due}
use Rattle.poll_item.specs.Item.{on_cur, on_fail, alone, low_step, high_step, other_step, item_step}
use Rattle.poll_pass.specs.Pass.{work_of}
use Rattle.poll_loop.specs.Passes.{three_passes}
use Rattle.law_poll.specs.Kept.{passes-keep}
use Rattle.law_status.specs.Counts.{Same, Began}
use Rattle.law_status.proofs.Counts.{same_self, same_then, began_then, began_after}
use Rattle.law_status.specs.Polls.{CutBy, Polled}

polled-then : {t : ℕ} {s x y : State} → Polled t s x → Polled t x y → Polled t s y
polled-then a b =
    ⊎_elim (λ p. ⊎_elim (λ q. inl (same_then p q)) (λ q. inr (began_after (sym p.heard) q)) b)
    (λ p. ⊎_elim (λ q. inr (began_then p q)) (λ q. inr (began_after (sym p.heard) q)) b) a

module _ (s : State) (g : Given) (spread : ℤ) where
  abbrev After : Step → Type 0
  After x = Polled g.now s x.state

  -- ---- the rows that leave the memory's `rx_cur` and the current epoch

  same : Same s s
  same = same_self s

  -- a row of the current epoch leaves its start
  abbrev Kept : CurStep → Type 0
  Kept t = (t.cur.some ≡ s.cur.some) × (t.cur.ep.started ≡ s.cur.ep.started)

  on-cur : (t : CurStep) → Kept t → After (on_cur s t)
  on-cur t k = inl (record { held = k.0; heard = refl; started = k.1 })

  fin-kept : (key now : ℕ) → Kept (fin_due s.cur key now)
  unfolding fin_due fin_taken
  fin-kept key now =
      of_choice Kept (and (and (is_tag s.cur.some s.cur.ep.tag key) s.cur.ep.fin.some) (take_of s.cur.ep.fin.ladder now).any) _ _ (refl, refl) (refl, refl)

  elicit-kept : (key now : ℕ) → Kept (elicit_due s.cur key now)
  unfolding elicit_due elicit_taken
  elicit-kept key now =
      of_choice Kept (and (and (is_tag s.cur.some s.cur.ep.tag key) (and (not s.cur.ep.moved.some) s.cur.ep.elicit.some)) (take_of s.cur.ep.elicit.ladder now).any) _ _ (refl, refl) (refl, refl)

  expired : After (on_fail s (expire_due s.cycle s.mem g.cfg (alone s) g.now g.extra))
  unfolding expire_due abandoned_mem
  expired =
      of_choice (λ (t : FailStep). After (on_fail s t)) (and (is_init s.cycle.kind) (leb s.cycle.init.deadline g.now)) _ _
      (inl (record { held = refl; heard = refl; started = refl })) (inl same)

  -- ---- the rows that may cut over: by no frame

  cut_by_lem : (evidence : ℕ) → eqb evidence 1 ≡ false → Began s (cut_by s g spread evidence).state g.now
  unfolding cut_by cutover_of remembered cut_memory adopted
  cut_by_lem evidence e = record { held = refl; heard = rw e; started = refl }

  pub cuts : CutBy s g spread
  cuts = record { cut_by_lem = cut_by_lem }

  held_after : (key : ℕ) → After (held_due s g spread key)
  unfolding held_due
  held_after key = of_choice After (and (is_own s.cycle key) (waits_held s.cycle.pendi.wait)) (cut_by s g spread 0) (stay s) (inr (cut_by_lem 0 refl)) (inl same)

  delay-after : (key : ℕ) → After (delay_end s g spread key)
  unfolding delay_end
  delay-after key = of_choice After (and (is_own s.cycle key) (waits_delay s.cycle.pendi.wait)) (cut_by s g spread 4) (stay s) (inr (cut_by_lem 4 refl)) (inl same)

  unconfirmed-after : After (unconfirmed s)
  unfolding unconfirmed
  unconfirmed-after = inl (record { held = refl; heard = refl; started = refl })

  assumed-after : After (assumed s g spread)
  unfolding assumed
  assumed-after =
      let c = cut_by_lem 3 refl in
      inr (record { held = c.held; heard = c.heard; started = c.started })

  confirm-after : (key : ℕ) → After (confirm_due s g spread key)
  unfolding confirm_due
  confirm-after key =
      of_choice After (and (is_own s.cycle key) (and (waits_evidence s.cycle.pendi.wait) (leb s.cycle.pendi.deadline g.now))) _ (stay s)
      (of_choice After (pick s.cycle.pendi.stayed true s.cycle.pendi.reverted) (unconfirmed s) (assumed s g spread) unconfirmed-after assumed-after)
      (inl same)

  -- ---- an item, by its kind

  low-after : (kind key : ℕ) → After (low_step s g spread kind key)
  unfolding low_step
  low-after kind key =
      of_choice After (eqb kind 0) _ _ (inl (record { held = refl; heard = refl; started = refl }))
      (of_choice After (eqb kind 2) _ _ (inl (record { held = refl; heard = refl; started = refl }))
      (of_choice After (eqb kind 3) (held_due s g spread key) _ (held_after key)
      (of_choice After (eqb kind 4) _ _ (inl (record { held = refl; heard = refl; started = refl }))
      (inl (record { held = refl; heard = refl; started = refl })))))

  high_after : (kind key : ℕ) → After (high_step s g spread kind key)
  unfolding high_step
  high_after kind key =
      of_choice After (eqb kind 6) _ _ (on-cur (fin_due s.cur key g.now) (fin-kept key g.now))
      (of_choice After (eqb kind 7) _ _ (on-cur (elicit_due s.cur key g.now) (elicit-kept key g.now))
      (of_choice After (eqb kind 8) (confirm_due s g spread key) _ (confirm-after key)
      (of_choice After (eqb kind 9) (delay_end s g spread key) _ (delay-after key)
      (of_choice After (eqb kind 10) _ _ (inl (record { held = refl; heard = refl; started = refl })) expired))))

  item-after : (kind key : ℕ) → After (item_step s g spread kind key)
  unfolding item_step other_step candidate_due
  item-after kind key =
      of_choice After (eqb kind 1) _ (other_step s g spread kind key) (inl (record { held = refl; heard = refl; started = refl }))
      (of_choice After (ltb kind 6) (low_step s g spread kind key) (high_step s g spread kind key) (low-after kind key) (high_after kind key))

pub passes-after : (s : State) (g : Given) (spread : ℤ) → Polled g.now s (three_passes s g spread).work.state
unfolding three_passes
passes-after s g spread =
    passes-keep g spread (Polled g.now s) (λ r kind key p. polled-then p (item-after r g spread kind key)) 3 [] 0 (work_of s [] false) (inl (same_self s))
