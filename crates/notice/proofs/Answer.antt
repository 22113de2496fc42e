-- What the code of a notice promises, on its two ways out.
use Rattle.std.specs.Prelude.{ℕ, ◌≤◌, ◌≡◌, List, ℤ, length, Err}
use Rattle.std.proofs.Math.Path.{refl}
use Rattle.std.proofs.Common.{arith}
use Rattle.settings.specs.declared.Config.{Config}
use Rattle.state.specs.declared.State.{State}
use Rattle.state.specs.declared.Profile.{Profile}
use Rattle.events.specs.Log.{Appends}
use Rattle.refusal.specs.declared.Refusal.{Refusal}
use Rattle.refusal.specs.Refused.{refused_of}
use Rattle.refusal.specs.Refusal.{accepted, before_frame}
use Rattle.answer.specs.declared.Answer.{Answer}
use Rattle.answer.specs.Outcome.{done}
use Rattle.answer.proofs.Laws.{written_all}
use Rattle.answer.specs.Answers.{Answers, back_with, taken_with}
use Rattle.answer.proofs.Answers.{answers_refused, answers_accepted}
use Rattle.frame_hear.specs.Hear.{HearStep}
use Rattle.notice.specs.Notices.{notice_by}

module _ (s : State) (cfg : Config) (p : Profile) (spread : ℤ) (step : HearStep) (a : Answer) where
  -- sent back
  pub notice_back :
      (e : Refusal) → refused_of (Err e) ≡ before_frame s cfg p spread → a ≡ back_with (refused_of (Err e)) s
      → (ws : List ℕ) → Answers (notice_by s cfg p spread step) a ws ws
  unfolding notice_by
  notice_back e b h ws = answers_refused (before_frame s cfg p spread) s (done step.state step.out) a e b h ws

  -- accepted
  pub notice-on :
      accepted ≡ before_frame s cfg p spread → (n : ℕ) → n ≤ 96 → length step.out ≤ n → (left : State) (len : ℕ) → a ≡ taken_with left len 0 → left ≡ step.state
      → (ws ws' : List ℕ) → length ws ≡ 768 → Appends step.out 0 ws len ws'
      → Answers (notice_by s cfg p spread step) a ws ws'
  unfolding notice_by
  notice-on b n most few left len e h ws ws' k w =
      answers_accepted (before_frame s cfg p spread) s (done step.state step.out) a b left len 0 e refl refl h refl ws ws'
      (written_all 0 step.out len ws ws' k (omega (arith, most, few)) w (λ n. absurd (n refl)))
