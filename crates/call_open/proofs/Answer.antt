-- What the code of `open` promises, accepted: the answer with the words of the log.
use Rattle.std.specs.Prelude.{ℕ, Bool, ◌≡◌, List, ℤ, length}
use Rattle.std.proofs.Math.Path.{refl}
use Rattle.std.proofs.Common.{arith}
use Rattle.settings.specs.declared.Config.{Config}
use Rattle.epoch.specs.declared.Index.{Index}
use Rattle.state.specs.declared.State.{State}
use Rattle.state.specs.declared.Profile.{Profile}
use Rattle.events.specs.Log.{Appends}
use Rattle.refusal.specs.Refusal.{accepted, before_open}
use Rattle.answer.specs.declared.Answer.{Answer}
use Rattle.answer.proofs.Laws.{written_all}
use Rattle.answer.specs.Answers.{Answers, taken_with}
use Rattle.answer.proofs.Answers.{answers_accepted}
use Rattle.call_open.specs.Open.{first_epoch, fresh_state, blank_state, install_out, opened, open_of}
use Rattle.call_open.proofs.Laws.{few}

module _ (cfg : Config) (p : Profile) (responder : Bool) (transport : ℕ) (lease : Index) (workers : Bool) (spread : ℤ) (time : ℕ) where
  pub open-on :
      accepted ≡ before_open cfg p spread → (a : Answer)
      → (left : State) (len : ℕ) → a ≡ taken_with left len 0 → left ≡ fresh_state responder transport lease spread time
      → (ws ws' : List ℕ) → length ws ≡ 768 → Appends (install_out (first_epoch responder transport lease time) workers) 0 ws len ws'
      → Answers (open_of cfg p responder transport lease workers spread time) a ws ws'
  unfolding open_of opened
  open-on b a left len e h ws ws' k w =
      answers_accepted (before_open cfg p spread) blank_state (opened responder transport lease workers spread time) a b left len 0 e refl refl h refl ws ws'
      (written_all 0 (install_out (first_epoch responder transport lease time) workers) len ws ws' k (omega (arith, few (first_epoch responder transport lease time) workers)) w (λ n. absurd (n refl)))
