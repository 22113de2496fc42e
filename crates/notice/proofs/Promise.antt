-- A notice's answer with its exact numbers, on its two ways out.
use Rattle.std.specs.Prelude.{ℕ, ◌≤◌, ◌≡◌, List, ℤ, length}
use Rattle.std.proofs.Math.Path.{refl}
use Rattle.std.proofs.Common.{arith}
use Rattle.settings.specs.declared.Config.{Config}
use Rattle.state.specs.declared.State.{State}
use Rattle.state.specs.declared.Profile.{Profile}
use Rattle.events.specs.Log.{Appends}
use Rattle.refusal.specs.Refused.{Refused}
use Rattle.refusal.specs.Refusal.{before_frame}
use Rattle.answer.specs.declared.Answer.{Answer}
use Rattle.answer.specs.Outcome.{done}
use Rattle.answer.proofs.Laws.{written_all}
use Rattle.answer.specs.Answers.{Answers, back_with, taken_with}
use Rattle.answer.proofs.Answers.{answers_back, answers-on}
use Rattle.frame_hear.specs.Hear.{HearStep}
use Rattle.notice.specs.Notices.{notice_by}
use Rattle.notice.specs.Exact.{NoticeExact}
use Rattle.notice.proofs.Exact.{notice_exact}

module _ (s : State) (cfg : Config) (p : Profile) (spread : ℤ) (step : HearStep) where
  -- what each notice promises
  abbrev pub NoticePromise : Answer → List ℕ → List ℕ → Type 0
  NoticePromise a ws ws' = Answers (notice_by s cfg p spread step) a ws ws' × NoticeExact s cfg p spread (notice_by s cfg p spread step)

  module _ (back : Refused) (b : back ≡ before_frame s cfg p spread) (a : Answer) where
    -- sent back
    pub notice_back : (back.number ≡ 0 → ⊥) → a ≡ back_with back s → (ws : List ℕ) → NoticePromise a ws ws
    unfolding notice_by
    notice_back n e ws = (answers_back (before_frame s cfg p spread) s (done step.state step.out) back b a n e ws, notice_exact s cfg p spread step)

    -- accepted
    pub notice-on :
        back.number ≡ 0 → (n : ℕ) → n ≤ 96 → length step.out ≤ n → (left : State) (len : ℕ) → a ≡ taken_with left len 0 → left ≡ step.state
        → (ws ws' : List ℕ) → length ws ≡ 768 → Appends step.out 0 ws len ws'
        → NoticePromise a ws ws'
    unfolding notice_by
    notice-on z n most few left len e h ws ws' k w = (
      answers-on (before_frame s cfg p spread) s (done step.state step.out) back b a z left len 0 e refl refl h refl ws ws'
          (written_all 0 step.out len ws ws' k (omega (arith, most, few)) w (λ n. absurd (n refl))),
      notice_exact s cfg p spread step,
    )
