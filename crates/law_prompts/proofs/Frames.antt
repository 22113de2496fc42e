-- No prompt of a frame is one that would be withdrawn: it stands in specs/ as a record, and is proved here.
use Rattle.std.specs.Prelude.{ℕ, Bool, ◌≡◌, List, ℤ}
use Rattle.settings.specs.declared.Config.{Config}
use Rattle.state.specs.declared.State.{State}
use Rattle.state.specs.declared.Profile.{Profile}
use Rattle.poll_close.specs.Closing.{sealing}
use Rattle.frame_slots.specs.declared.FrameProof.{FrameProof}
use Rattle.answer.specs.Outcome.{Outcome}
use Rattle.frame.specs.Frames.{frame_answer}
use Rattle.law_prompts.specs.Frames.{FrameKeepsPrompts, frame-holds, staying, staying-fits}

module _ (s : State) (cfg : Config) (profile : Profile) (time : ℕ) (workers : Bool) (spread : ℤ) (q : FrameProof) (body : ℕ) (source target : List ℕ) where
  abbrev answer : Outcome
  answer = frame_answer s cfg profile time workers spread q body source target

  -- to withdraw, by the state that a frame leaves, leaves its events as they are
  pub frame_keeps_prompts : sealing answer.state answer.out ≡ answer.out
  unfolding sealing
  frame_keeps_prompts = frame-holds staying staying-fits s cfg profile time workers spread q body source target

  pub keeps_prompts : FrameKeepsPrompts s cfg profile time workers spread q body source target
  keeps_prompts = record { frame_keeps_prompts = frame_keeps_prompts }
