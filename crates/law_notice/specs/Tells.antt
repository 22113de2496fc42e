-- Which events a notice tells: hearing gives Prompt, Reverted, and Unbind, Release and Abandoned of an
-- attempt; and a reject is told alone and leaves the state. So there is "no MARK, ENDED, START, DELIVER, offer".
use Rattle.std.specs.Prelude.{ℕ, Bool, ◌≡◌, List, [], ◌∷◌, ◌++◌, eqb, ℤ, length, get_or}
use Rattle.std.proofs.Math.Bool.{true, false}
use Rattle.std.proofs.lemmas.Bool.{false≢true}
use Rattle.std.proofs.Math.Path.{refl, ap}
use Rattle.std.proofs.Common.{sym, ◌∙◌}
use Rattle.time.specs.Pick.{and, of_choice}
use Rattle.settings.specs.declared.Config.{Config}
use Rattle.numbers.specs.Numbers.{event_deliver, event_delegate, event_reject, event_mark, event_start, event_ended}
use Rattle.epoch.specs.declared.Epoch.{Epoch}
use Rattle.cycle.specs.declared.Attempt.{Attempt}
use Rattle.cycle.specs.Kind.{is_init, is_pend_i, is_pend_r}
use Rattle.state.specs.declared.State.{State}
use Rattle.state.specs.declared.Profile.{Profile}
use Rattle.state.specs.declared.Given.{Given}
use Rattle.events.specs.Events.{Event, Prompt, Unbind, Release, Reverted, Reject, Abandoned, words_of, no_rungs}
use Rattle.retire.specs.Retire.{only, abandon_out}
use Rattle.refusal.specs.Refusal.{any_of, before_frame}
use Rattle.answer.specs.Outcome.{Outcome, done}
use Rattle.answer.proofs.Laws.{by-either}
use Rattle.frame_evidence.specs.Evidence.{EpochStep, prompt_due, prompted_now, only_assumed}
use Rattle.frame_hear.specs.Hear.{HearStep, given_of, heard_current, revert_of, assumed_heard, confirming_heard, heard_previous}
use Rattle.notice_rows.specs.Rows.{raised_current, raised_previous, worker_of, already, handed, delegated_of, undelegated_of}
use Rattle.notice_rows.proofs.Laws.{slotted}
use Rattle.notice.specs.Notices.{notice_by, worker_answer, delegated_answer, undelegated_answer}
use Rattle.law_notice.specs.Most.{current-tells}

-- ---- what hearing tells

-- events that are none of hearing's
pub record Spares (q : Event → Bool) : Type 0 where
  pub prompt : (tag : ℕ) → q (Prompt tag no_rungs) ≡ false
  pub unbind : (transport index : ℕ) → q (Unbind transport index) ≡ false
  pub release : (index : ℕ) → q (Release index) ≡ false
  pub reverted : (tag : ℕ) → q (Reverted tag) ≡ false
  pub abandoned : (cause : ℕ) → q (Abandoned cause) ≡ false

module _ (q : Event → Bool) where
  -- none of them is told
  abbrev pub None : HearStep → Type 0
  None x = any_of q x.out ≡ false

  module _ (h : Spares q) where
    prompted-none : (e : Epoch) (asks : Bool) (now : ℕ) → any_of q (prompted_now e asks now).out ≡ false
    unfolding prompted_now any_of
    prompted-none e asks now =
        of_choice (λ (x : EpochStep). any_of q x.out ≡ false) (and asks (prompt_due e.prompted now)) _ _ (rw (h.prompt e.tag)) refl

    revert-none : (n m : ℕ) → any_of q (Reverted n ∷ Prompt n no_rungs ∷ Prompt m no_rungs ∷ []) ≡ false
    unfolding any_of
    revert-none n m = rw (h.reverted n, h.prompt n, h.prompt m)

    abandon_none : (a : Attempt) (n m : ℕ) → any_of q (abandon_out a 6 ++ (Reverted n ∷ Prompt n no_rungs ∷ Prompt m no_rungs ∷ [])) ≡ false
    unfolding abandon_out any_of
    abandon_none a n m = under a.lease.some
      where
        under : (b : Bool) → any_of q ((only b (Unbind a.transport a.lease.index) ++ (only b (Release a.lease.index) ++ (Abandoned 6 ∷ []))) ++ (Reverted n ∷ Prompt n no_rungs ∷ Prompt m no_rungs ∷ [])) ≡ false
        under true = rw (h.unbind a.transport a.lease.index, h.release a.lease.index, h.abandoned 6, h.reverted n, h.prompt n, h.prompt m)
        under false = rw (h.abandoned 6, h.reverted n, h.prompt n, h.prompt m)

    previous_none : (s : State) (g : Given) → None (heard_previous s g)
    unfolding heard_previous assumed_heard confirming_heard revert_of any_of
    previous_none s g =
        of_choice None (only_assumed s.cur) _ _
        (of_choice None (is_init s.cycle.kind) _ _ (abandon_none s.cycle.init s.cur.ep.tag s.drain.ep.tag)
        (of_choice None (is_pend_i s.cycle.kind) _ _ refl
        (of_choice None (is_pend_r s.cycle.kind) _ _ refl (revert-none s.cur.ep.tag s.drain.ep.tag))))
        (prompted-none s.cur.ep _ g.now)

  -- the current epoch heard by a worker tells nothing
  current-none : (s : State) (g : Given) (k : Bool) → None (heard_current s g k false)
  unfolding any_of
  current-none s g k = ap (any_of q) (current-tells s g k)

-- an event's number
abbrev pub number_of : Event → ℕ
number_of e = get_or (words_of e) 0 0

-- ---- a reject is all that a notice tells, and it leaves the state

abbrev pub is_reject : Event → Bool
is_reject e = eqb (number_of e) event_reject

abbrev pub rejects : List Event → Bool
rejects l = any_of is_reject l

hearing-no_reject : Spares is_reject
hearing-no_reject = record { prompt = λ n. refl; unbind = λ n m. refl; release = λ n. refl; reverted = λ n. refl; abandoned = λ n. refl }

-- where one is among the events it is the only one, and the state is the given one
abbrev pub Alone : State → State → List Event → Type 0
Alone s left out = rejects out ≡ true → (left ≡ s) × (length out ≡ 1)

abbrev pub StepAlone : State → HearStep → Type 0
StepAlone s x = Alone s x.state x.out

none-alone : (s left : State) (out : List Event) → rejects out ≡ false → Alone s left out
none-alone s left out n h = absurd (false≢true (sym n ∙ h))

pub worker-alone : (s : State) (g : Given) (tag : ℕ) (k : Bool) (counter : ℕ) → StepAlone s (worker_of s g tag k counter)
unfolding worker_of
worker-alone s g tag k counter =
    slotted (StepAlone s) s tag _ _ _ _
    (λ _. let x = heard_current (raised_current s counter) g k false in none-alone s x.state x.out (current-none is_reject (raised_current s counter) g k))
    (λ _. let x = heard_previous (raised_previous s counter) g in none-alone s x.state x.out (previous_none is_reject hearing-no_reject (raised_previous s counter) g))
    (λ _. (refl, refl)) (λ _. (refl, refl))

pub handed-alone : (s : State) (tag : ℕ) (on : Bool) (same early : ℕ) → StepAlone s (handed s tag on same early)
unfolding handed any_of
handed-alone s tag on same early =
    slotted (StepAlone s) s tag _ _ _ _
    (λ _. of_choice (StepAlone s) (already s.cur.ep.delegated on) _ _ (λ _. (refl, refl)) (none-alone s _ [] refl))
    (λ _. of_choice (StepAlone s) (already s.drain.ep.delegated on) _ _ (λ _. (refl, refl)) (none-alone s _ [] refl))
    (λ _. (refl, refl)) (λ _. (refl, refl))

-- and so of the call; a refused one rejects nothing
pub notice_alone : (s : State) (cfg : Config) (p : Profile) (spread : ℤ) (step : HearStep) → StepAlone s step → Alone s (notice_by s cfg p spread step).state (notice_by s cfg p spread step).out
unfolding notice_by any_of
notice_alone s cfg p spread step h =
    by-either (before_frame s cfg p spread) s (done step.state step.out) (λ (a : Outcome). Alone s a.state a.out) (none-alone s s [] refl) h

-- ---- what no notice tells

-- events that are neither hearing's nor a reject
module _ (q : Event → Bool) (r : (reason : ℕ) → q (Reject reason) ≡ false) where
  rejected-none : (reason : ℕ) → any_of q (Reject reason ∷ []) ≡ false
  unfolding any_of
  rejected-none reason = rw (r reason)

  pub worker-none : Spares q → (s : State) (g : Given) (tag : ℕ) (k : Bool) (counter : ℕ) → None q (worker_of s g tag k counter)
  unfolding worker_of
  worker-none h s g tag k counter =
      slotted (None q) s tag _ _ _ _
      (λ _. current-none q (raised_current s counter) g k) (λ _. previous_none q h (raised_previous s counter) g)
      (rejected-none _) (rejected-none _)

  pub handed-none : (s : State) (tag : ℕ) (on : Bool) (same early : ℕ) → None q (handed s tag on same early)
  unfolding handed any_of
  handed-none s tag on same early =
      slotted (None q) s tag _ _ _ _
      (λ _. of_choice (None q) (already s.cur.ep.delegated on) _ _ (rejected-none same) refl)
      (λ _. of_choice (None q) (already s.drain.ep.delegated on) _ _ (rejected-none same) refl)
      (rejected-none early) (rejected-none _)

  pub notice_none : (s : State) (cfg : Config) (p : Profile) (spread : ℤ) (step : HearStep) → None q step → any_of q (notice_by s cfg p spread step).out ≡ false
  unfolding notice_by any_of
  notice_none s cfg p spread step h =
      by-either (before_frame s cfg p spread) s (done step.state step.out) (λ (a : Outcome). any_of q a.out ≡ false) refl h

-- MARK, ENDED, START, DELIVER and an offer are such
abbrev pub is_other : Event → Bool
is_other e = any_of (λ n. eqb (number_of e) n) (event_mark ∷ event_ended ∷ event_start ∷ event_deliver ∷ event_delegate ∷ [])

module _ (s : State) (cfg : Config) (p : Profile) (spread : ℤ) where
  pub worker-no-other : (time : ℕ) (workers : Bool) (tag : ℕ) (k : Bool) (counter : ℕ) → any_of is_other (worker_answer s cfg p time workers spread tag k counter).out ≡ false
  unfolding any_of
  worker-no-other time workers tag k counter =
      notice_none is_other (λ n. refl) s cfg p spread _
      (worker-none is_other (λ n. refl) (record { prompt = λ n. refl; unbind = λ n m. refl; release = λ n. refl; reverted = λ n. refl; abandoned = λ n. refl }) s (given_of cfg p time workers) tag k counter)

  pub delegated-no-other : (tag : ℕ) → any_of is_other (delegated_answer s cfg p spread tag).out ≡ false
  unfolding any_of
  delegated-no-other tag = notice_none is_other (λ n. refl) s cfg p spread (delegated_of s tag) (handed-none is_other (λ n. refl) s tag _ _ _)

  pub undelegated-no-other : (tag : ℕ) → any_of is_other (undelegated_answer s cfg p spread tag).out ≡ false
  unfolding any_of
  undelegated-no-other tag = notice_none is_other (λ n. refl) s cfg p spread (undelegated_of s tag) (handed-none is_other (λ n. refl) s tag _ _ _)
