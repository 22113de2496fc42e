-- "Each send and prompt that comes from a ladder carries that number, any other 0" (request 2): the number
-- on every event of a frame, a notice and an open, and of a poll by the kind of the item.
use Rattle.std.specs.Prelude.{ℕ, ◌<◌, Bool, false, not, ◌&&◌, ◌≡◌, List, eqb, ltb, leb, ℤ, get_or}
use Rattle.std.proofs.Math.Bool.{true}
use Rattle.std.proofs.Common.{true≢false, sym, ◌∙◌, eq-eqb, ltb-true}
use Rattle.std.proofs.Math.Path.{refl}
use Rattle.time.specs.declared.When.{When}
use Rattle.time.specs.Pick.{pick, and, of_choice}
use Rattle.ladder.specs.declared.Ladder.{Ladder}
use Rattle.ladder.specs.Took.{Took}
use Rattle.ladder.specs.Ladder.{take_of}
use Rattle.ladder.proofs.Counted.{counted}
use Rattle.settings.specs.declared.Config.{Config}
use Rattle.numbers.specs.Numbers.{event_send, event_prompt, evidence_proof, evidence_assumed, evidence_delay, teardown_opening_idle, teardown_counter_exhausted}
use Rattle.epoch.specs.declared.Epoch.{Epoch}
use Rattle.epoch.specs.declared.Index.{Index}
use Rattle.epoch.specs.declared.Drain.{Drain}
use Rattle.epoch.specs.declared.MayEpoch.{MayEpoch}
use Rattle.epoch.specs.Held.{is_tag}
use Rattle.cycle.specs.declared.Cycle.{Cycle}
use Rattle.cycle.specs.Kind.{is_init, waits_held, waits_evidence, waits_delay}
use Rattle.cycle.specs.Held.{is_own, is_peers}
use Rattle.candidates.specs.Held.{expire_of}
use Rattle.state.specs.declared.Memory.{Memory}
use Rattle.state.specs.declared.State.{State}
use Rattle.state.specs.declared.Profile.{Profile}
use Rattle.state.specs.declared.Given.{Given}
use Rattle.events.specs.Events.{Event, Teardown, Start, words_of, no_rungs}
use Rattle.events.specs.Queries.{any_of, offers}
use Rattle.refusal.specs.Refusal.{before_open}
use Rattle.answer.specs.Outcome.{Outcome}
use Rattle.answer.proofs.Laws.{by-either}
use Rattle.cutover.specs.Cutover.{cutover_of}
use Rattle.poll_epoch.specs.EpochRows.{DrainStep, CurStep, drain_due, fin_due, elicit_taken, elicit_due}
use Rattle.poll_cycle.specs.CycleRows.{CycleStep, FailStep, unadopted_due, late_for, probing, probe_due, delayed_due, resend_taken, resend_due, expire_due}
use Rattle.poll_cut.specs.Cut.{Step, candidate_due, cut_by, held_due, delay_end, unconfirmed, assumed, confirm_due}
use Rattle.start.specs.Start.{start_kind, called_for}
use Rattle.wake.specs.Wake.{exhausted}
use Rattle.poll_close.specs.Closing.{idle_now, tests_out, start_out, offer_out}
use Rattle.frame_slots.specs.declared.FrameProof.{FrameProof}
use Rattle.frame.specs.Frames.{frame_answer}
use Rattle.notice.specs.Notices.{worker_answer, delegated_answer, undelegated_answer, data_sent_answer, path_answer}
use Rattle.call_open.specs.Open.{blank_state, first_epoch, install_out, opened, open_of}
use Rattle.law_prompts.specs.Every.{Every, Others, every-none, every-both, every_more, every_one, every-only, retired-every, abandoned-every, offered-every, given-up-every, announced-every}
use Rattle.law_prompts.specs.Frames.{Fits, frame-holds}
use Rattle.law_prompts.specs.Notices.{worker-answer-holds, delegated-answer-holds, undelegated-answer-holds, data_answer-holds, path-answer-holds}

-- the number of rungs that an event carries: the last field of a send or a prompt, 0 of any other event
abbrev pub rungs_of : Event → ℕ
rungs_of e = pick (eqb (get_or (words_of e) 0 0) event_send) (get_or (words_of e) 3 0) (pick (eqb (get_or (words_of e) 0 0) event_prompt) (get_or (words_of e) 2 0) 0)

abbrev pub carries : ℕ → Event → Bool
carries n e = eqb (rungs_of e) n

-- every event of a list carries n
abbrev pub Carry : ℕ → List Event → Type 0
Carry n l = Every (carries n) l

others_carry : Others (carries no_rungs)
others_carry e = under (eqb (get_or (words_of e) 0 0) event_send) (eqb (get_or (words_of e) 0 0) event_prompt)
  where
    under : (a b : Bool) → pick a true b ≡ false → eqb (pick a (get_or (words_of e) 3 0) (pick b (get_or (words_of e) 2 0) 0)) 0 ≡ true
    under true b n = absurd (true≢false n)
    under false true n = absurd (true≢false n)
    under false false n = refl

-- ---- a frame, a notice and an open: 0, a cutover's prompt, a revert's and a responder's first included

carrying_fits : Fits (λ s. carries no_rungs)
carrying_fits = record { others = λ s. others_carry; under-current = λ s tag e. refl; under-pending = λ s tag e. refl }

module _ (s : State) (cfg : Config) (p : Profile) (spread : ℤ) where
  pub frame-carries : (time : ℕ) (workers : Bool) (q : FrameProof) (body : ℕ) (source target : List ℕ) → Carry no_rungs (frame_answer s cfg p time workers spread q body source target).out
  frame-carries time workers q body source target = frame-holds (λ t. carries no_rungs) carrying_fits s cfg p time workers spread q body source target

  pub worker-carries : (time : ℕ) (workers : Bool) (tag : ℕ) (k : Bool) (counter : ℕ) → Carry no_rungs (worker_answer s cfg p time workers spread tag k counter).out
  worker-carries = worker-answer-holds (λ t. carries no_rungs) carrying_fits s cfg p spread

  pub delegated-carries : (tag : ℕ) → Carry no_rungs (delegated_answer s cfg p spread tag).out
  delegated-carries = delegated-answer-holds (λ t. carries no_rungs) carrying_fits s cfg p spread

  pub undelegated-carries : (tag : ℕ) → Carry no_rungs (undelegated_answer s cfg p spread tag).out
  undelegated-carries = undelegated-answer-holds (λ t. carries no_rungs) carrying_fits s cfg p spread

  pub data_carries : Carry no_rungs (data_sent_answer s cfg p spread).out
  data_carries = data_answer-holds (λ t. carries no_rungs) carrying_fits s cfg p spread

  pub path-carries : (reachable : Bool) (srtt : When) → Carry no_rungs (path_answer s cfg p spread reachable srtt).out
  path-carries = path-answer-holds (λ t. carries no_rungs) carrying_fits s cfg p spread

install_carries : (e : Epoch) (workers : Bool) → Carry no_rungs (install_out e workers)
unfolding install_out
install_carries e workers =
    every-both _ _ _ (every-only _ e.ids.lease.some _ refl)
    (every-both _ _ _ (offered-every _ others_carry e workers)
    (every_more _ _ _ refl (every-only _ e.responder _ refl)))

pub open_carries : (cfg : Config) (p : Profile) (responder : Bool) (transport : ℕ) (lease : Index) (workers : Bool) (spread : ℤ) (time : ℕ) → Carry no_rungs (open_of cfg p responder transport lease workers spread time).out
unfolding open_of opened
open_carries cfg p responder transport lease workers spread time =
    by-either (before_open cfg p spread) blank_state (opened responder transport lease workers spread time) (λ (o : Outcome). Carry no_rungs o.out) (every-none _)
    (install_carries (first_epoch responder transport lease time) workers)

-- ---- a poll: the rows of ladders carry the number of their take

-- a take that a row acts on took at least one rung
pub some-taken : (l : Ladder) (now : ℕ) → (take_of l now).any ≡ true → 0 < (take_of l now).taken
some-taken l now e = ltb-true 0 (take_of l now).taken (sym (counted l now).whether ∙ e)

-- an event that carries the number it was made with
pub same : (n : ℕ) → eqb n n ≡ true
same n = eq-eqb n n refl

-- the current epoch's final message
pub record FinCarries (cur : MayEpoch) (tag now : ℕ) : Type 0 where
  pub fin-carries : Carry (take_of cur.ep.fin.ladder now).taken (fin_due cur tag now).out

module _ (cur : MayEpoch) (tag now : ℕ) where
  -- a prompt that is repeated
  pub elicit-carries : Carry (take_of cur.ep.elicit.ladder now).taken (elicit_due cur tag now).out
  unfolding elicit_due elicit_taken
  elicit-carries =
      of_choice (λ (t : CurStep). Carry (take_of cur.ep.elicit.ladder now).taken t.out) (and (and (is_tag cur.some cur.ep.tag tag) (and (not cur.ep.moved.some) cur.ep.elicit.some)) (take_of cur.ep.elicit.ladder now).any) _ _
      (every_one _ _ (same (take_of cur.ep.elicit.ladder now).taken)) (every-none _)

module _ (c : Cycle) (now : ℕ) where
  probing-carries : (t : Took) (g current : ℕ) → Carry t.taken (probing c t g now current).out
  unfolding probing
  probing-carries t g current =
      of_choice (λ (u : CycleStep). Carry t.taken u.out) (and t.send (not (late_for c.pendi g now))) _ _
      (every-both _ _ _ (every-only _ c.pendi.fin.some _ (same t.taken)) (every_more _ _ _ (same t.taken) (every_one _ _ (same t.taken))))
      (every_one _ _ (same t.taken))

  -- a probe's send and both its prompts: one number
  pub probe-carries : (cur : Bool) (current g tag : ℕ) → Carry (take_of c.pendi.probes.ladder now).taken (probe_due c cur current g tag now).out
  unfolding probe_due
  probe-carries cur current g tag =
      of_choice (λ (t : CycleStep). Carry (take_of c.pendi.probes.ladder now).taken t.out) (and (and cur (and (is_own c tag) c.pendi.probes.some)) (take_of c.pendi.probes.ladder now).any) _ _
      (probing-carries (take_of c.pendi.probes.ladder now) g current) (every-none _)

  -- the final message of a delayed cutover
  pub delayed-carries : (tag : ℕ) → Carry (take_of c.pendi.fin.ladder now).taken (delayed_due c tag now).out
  unfolding delayed_due
  delayed-carries tag =
      of_choice (λ (t : CycleStep). Carry (take_of c.pendi.fin.ladder now).taken t.out) (and (and (is_own c tag) c.pendi.fin.some) (take_of c.pendi.fin.ladder now).any) _ _
      (every_one _ _ (same (take_of c.pendi.fin.ladder now).taken)) (every-none _)

  resent-carries : (t : Took) (holds : Bool) (young messages : ℕ) → Carry t.taken (resend_taken c t holds young messages).out
  unfolding resend_taken
  resent-carries t holds young messages =
      of_choice (λ (u : CycleStep). Carry t.taken u.out) (and holds (ltb t.latest young)) _ _ (every-none _) (every_one _ _ (same t.taken))

  -- the first message; held back it has no event
  pub resend_carries : (holds : Bool) (young messages : ℕ) → Carry (take_of c.init.ladder now).taken (resend_due c holds young messages now).out
  unfolding resend_due
  resend_carries holds young messages =
      of_choice (λ (t : CycleStep). Carry (take_of c.init.ladder now).taken t.out) (and (and (is_init c.kind) (ltb now c.init.deadline)) (take_of c.init.ladder now).any) _ _
      (resent-carries (take_of c.init.ladder now) holds young messages) (every-none _)

-- ---- the other rows, and what follows the passes, carry 0

pub drain-carries : (d : Drain) (tag : ℕ) → Carry no_rungs (drain_due d tag).out
unfolding drain_due
drain-carries d tag =
    of_choice (λ (t : DrainStep). Carry no_rungs t.out) (is_tag d.some d.ep.tag tag) _ _
    (every-both _ _ _ (retired-every _ others_carry d.ep) (every-only _ (not d.evidenced) _ refl)) (every-none _)

pub unadopted_carries : (c : Cycle) (tag : ℕ) → Carry no_rungs (unadopted_due c tag).out
unfolding unadopted_due
unadopted_carries c tag =
    of_choice (λ (t : CycleStep). Carry no_rungs t.out) (is_peers c tag) _ _
    (every-both _ _ _ (every-only _ c.pendr.answer.some _ refl) (every-both _ _ _ (retired-every _ others_carry c.pendr.ep) (every_one _ _ refl)))
    (every-none _)

pub expire_carries : (c : Cycle) (m : Memory) (cfg : Config) (alone : Bool) (now extra : ℕ) → Carry no_rungs (expire_due c m cfg alone now extra).out
unfolding expire_due
expire_carries c m cfg alone now extra =
    of_choice (λ (t : FailStep). Carry no_rungs t.out) (and (is_init c.kind) (leb c.init.deadline now)) _ _
    (every-both _ _ _ (abandoned-every _ others_carry c.init _) (every-only _ alone _ refl)) (every-none _)

module _ (s : State) (g : Given) (spread : ℤ) where
  pub candidate_carries : (seq : ℕ) → Carry no_rungs (candidate_due s seq g.now).out
  unfolding candidate_due
  candidate_carries seq = every-only _ (expire_of s.cands seq g.now).gone _ refl

  -- a cutover's prompt
  cut-carries : (evidence : ℕ) → Carry no_rungs (cut_by s g spread evidence).out
  unfolding cut_by cutover_of
  cut-carries evidence =
      every-both _ _ _ (given-up-every _ others_carry s.drain s.cur.ep s.cycle.pendi.restart) (announced-every _ others_carry _ _ _ _ _ refl)

  pub held-carries : (tag : ℕ) → Carry no_rungs (held_due s g spread tag).out
  unfolding held_due
  held-carries tag =
      of_choice (λ (t : Step). Carry no_rungs t.out) (and (is_own s.cycle tag) (waits_held s.cycle.pendi.wait)) _ _ (cut-carries evidence_proof) (every-none _)

  pub delay-end-carries : (tag : ℕ) → Carry no_rungs (delay_end s g spread tag).out
  unfolding delay_end
  delay-end-carries tag =
      of_choice (λ (t : Step). Carry no_rungs t.out) (and (is_own s.cycle tag) (waits_delay s.cycle.pendi.wait)) _ _ (cut-carries evidence_delay) (every-none _)

  pub confirm-carries : (tag : ℕ) → Carry no_rungs (confirm_due s g spread tag).out
  unfolding confirm_due unconfirmed assumed
  confirm-carries tag =
      of_choice (λ (t : Step). Carry no_rungs t.out) (and (is_own s.cycle tag) (and (waits_evidence s.cycle.pendi.wait) (leb s.cycle.pendi.deadline g.now))) _ _
      (of_choice (λ (t : Step). Carry no_rungs t.out) (pick s.cycle.pendi.stayed true s.cycle.pendi.reverted) _ _
      (every-both _ _ _ (retired-every _ others_carry s.cycle.pendi.ep) (every_one _ _ refl)) (cut-carries evidence_assumed))
      (every-none _)

  pub tests_carry : (ended : Bool) → Carry no_rungs (tests_out s g.cfg ended)
  unfolding tests_out
  tests_carry ended =
      every-both _ _ _ (every-only _ (idle_now s ended) (Teardown teardown_opening_idle) refl)
      (every-only _ (exhausted s g.cfg) (Teardown teardown_counter_exhausted) refl)

  pub start-carries : Carry no_rungs (start_out s g)
  unfolding start_out
  start-carries = every-only _ (called_for s g.cfg g.profile g.now) (Start (start_kind s g.cfg g.profile g.now).at) refl

pub offer-carries : (some : Bool) (e : Epoch) (workers : Bool) (told : List Event) → Carry no_rungs (offer_out some e workers told)
unfolding offer_out
offer-carries some e workers told = of_choice (Carry no_rungs) (some && not (any_of (offers e.tag) told)) _ _ (offered-every _ others_carry e workers) (every-none _)
