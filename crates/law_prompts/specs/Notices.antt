-- The events of a notice, as those of a frame: what fits (Frames) holds of every one. So no prompt of a
-- notice is one that would be withdrawn, and each carries 0 for the rungs taken.
use Rattle.std.specs.Prelude.{ℕ, Bool, false, ◌≡◌, refl, ℤ}
use Rattle.time.specs.declared.When.{When}
use Rattle.time.specs.Pick.{of_choice}
use Rattle.settings.specs.declared.Config.{Config}
use Rattle.numbers.specs.Numbers.{reason_stale_tag, reason_not_delegated}
use Rattle.state.specs.declared.State.{State}
use Rattle.state.specs.declared.Profile.{Profile}
use Rattle.state.specs.declared.Given.{Given}
use Rattle.events.specs.Events.{Event}
use Rattle.refusal.specs.Refusal.{before_frame}
use Rattle.answer.specs.Outcome.{Outcome, done}
use Rattle.answer.proofs.Laws.{by-either}
use Rattle.poll_close.specs.Closing.{sealing}
use Rattle.frame_hear.specs.Hear.{HearStep, given_of}
use Rattle.notice_rows.specs.Rows.{rejected, raised_current, raised_previous, worker_of, already, handed}
use Rattle.notice_rows.proofs.Laws.{slotted}
use Rattle.notice.specs.Notices.{notice_by, worker_answer, delegated_answer, undelegated_answer, data_sent_answer, path_answer}
use Rattle.law_prompts.specs.Every.{every-none, every_one}
use Rattle.law_prompts.specs.Frames.{Fits, Holds, HearHolds, current-holds, previous_holds, staying, staying-fits}

module _ (p : State → Event → Bool) (f : Fits p) where
  -- ---- the cases

  rejected-holds : (s : State) (reason : ℕ) → HearHolds p f (rejected s reason)
  rejected-holds s reason = every_one _ _ (f.others _ _ refl)

  worker-holds : (s : State) (g : Given) (tag : ℕ) (k : Bool) (counter : ℕ) → HearHolds p f (worker_of s g tag k counter)
  unfolding worker_of
  worker-holds s g tag k counter =
      slotted (HearHolds p f) s tag _ _ _ _
      (λ _. current-holds p f (raised_current s counter) g k false) (λ _. previous_holds p f (raised_previous s counter) g)
      (rejected-holds s reason_not_delegated) (rejected-holds s reason_stale_tag)

  handed-holds : (s : State) (tag : ℕ) (on : Bool) (same early : ℕ) → HearHolds p f (handed s tag on same early)
  unfolding handed
  handed-holds s tag on same early =
      slotted (HearHolds p f) s tag _ _ _ _
      (λ _. of_choice (HearHolds p f) (already s.cur.ep.delegated on) _ _ (rejected-holds s same) (every-none _))
      (λ _. of_choice (HearHolds p f) (already s.drain.ep.delegated on) _ _ (rejected-holds s same) (every-none _))
      (rejected-holds s early) (rejected-holds s reason_stale_tag)

  -- ---- the calls

  abbrev pub NoticeHolds : Outcome → Type 0
  NoticeHolds a = Holds p f a.state a.out

  module _ (s : State) (cfg : Config) (profile : Profile) (spread : ℤ) where
    notice_holds : (step : HearStep) → HearHolds p f step → NoticeHolds (notice_by s cfg profile spread step)
    unfolding notice_by
    notice_holds step h =
        by-either (before_frame s cfg profile spread) s (done step.state step.out) NoticeHolds (every-none _) h

    pub worker-answer-holds : (time : ℕ) (workers : Bool) (tag : ℕ) (k : Bool) (counter : ℕ) → NoticeHolds (worker_answer s cfg profile time workers spread tag k counter)
    worker-answer-holds time workers tag k counter = notice_holds _ (worker-holds s (given_of cfg profile time workers) tag k counter)

    pub delegated-answer-holds : (tag : ℕ) → NoticeHolds (delegated_answer s cfg profile spread tag)
    delegated-answer-holds tag = notice_holds _ (handed-holds s tag _ _ _)

    pub undelegated-answer-holds : (tag : ℕ) → NoticeHolds (undelegated_answer s cfg profile spread tag)
    undelegated-answer-holds tag = notice_holds _ (handed-holds s tag _ _ _)

    pub data_answer-holds : NoticeHolds (data_sent_answer s cfg profile spread)
    data_answer-holds = notice_holds _ (every-none _)

    pub path-answer-holds : (reachable : Bool) (srtt : When) → NoticeHolds (path_answer s cfg profile spread reachable srtt)
    path-answer-holds reachable srtt = notice_holds _ (every-none _)

-- ---- withdrawing: to withdraw, by the state that a notice leaves, leaves its events as they are

abbrev KeepsPrompts : Outcome → Type 0
KeepsPrompts a = sealing a.state a.out ≡ a.out

module _ (s : State) (cfg : Config) (profile : Profile) (spread : ℤ) where
  pub worker_keeps_prompts : (time : ℕ) (workers : Bool) (tag : ℕ) (k : Bool) (counter : ℕ) → KeepsPrompts (worker_answer s cfg profile time workers spread tag k counter)
  unfolding sealing
  worker_keeps_prompts = worker-answer-holds staying staying-fits s cfg profile spread

  pub delegated_keeps_prompts : (tag : ℕ) → KeepsPrompts (delegated_answer s cfg profile spread tag)
  unfolding sealing
  delegated_keeps_prompts = delegated-answer-holds staying staying-fits s cfg profile spread

  pub undelegated_keeps_prompts : (tag : ℕ) → KeepsPrompts (undelegated_answer s cfg profile spread tag)
  unfolding sealing
  undelegated_keeps_prompts = undelegated-answer-holds staying staying-fits s cfg profile spread

  pub data_keeps_prompts : KeepsPrompts (data_sent_answer s cfg profile spread)
  unfolding sealing
  data_keeps_prompts = data_answer-holds staying staying-fits s cfg profile spread

  pub path_keeps_prompts : (reachable : Bool) (srtt : When) → KeepsPrompts (path_answer s cfg profile spread reachable srtt)
  unfolding sealing
  path_keeps_prompts = path-answer-holds staying staying-fits s cfg profile spread
