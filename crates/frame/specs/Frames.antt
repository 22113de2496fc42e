-- A frame's answer: "Refusals 1 to 7 .., 8 .., 9 ..", and what an accepted one leaves.
use Rattle.std.specs.Prelude.{ℕ, Bool, not, List, [], ◌∷◌, ◌++◌, eqb, ℤ}
use Rattle.time.specs.Pick.{pick}
use Rattle.settings.specs.declared.Config.{Config}
use Rattle.numbers.specs.Numbers.{refused_slot, refused_tag}
use Rattle.state.specs.declared.State.{State}
use Rattle.state.specs.declared.Profile.{Profile}
use Rattle.refusal.specs.Refused.{Refused}
use Rattle.refusal.specs.Refusal.{Test, first, by, frame_tests}
use Rattle.answer.specs.Outcome.{Outcome, done, outcome_by}
use Rattle.frame_hear.specs.Hear.{given_of}
use Rattle.frame_slots.specs.declared.FrameProof.{FrameProof}
use Rattle.frame_slots.specs.Frame.{FrameStep, slot_tag, frame_of}

-- "8. A frame names a slot that holds no epoch."
abbrev pub slot_empty : State → ℕ → Bool
slot_empty s slot = not (slot_tag s slot).some

-- "9. A frame's tag is not that epoch's tag."
abbrev pub other_tag : State → ℕ → ℕ → Bool
other_tag s slot tag = not (eqb (slot_tag s slot).at tag)

-- 1 to 7, then 8 and 9
unfoldable pub heard_tests : State → Config → Profile → ℤ → ℕ → ℕ → List Test
heard_tests s cfg profile spread slot tag =
    frame_tests s cfg profile spread ++ by refused_slot (slot_empty s slot) ∷ by refused_tag (other_tag s slot tag) ∷ []

unfoldable pub frame_refused : State → Config → Profile → ℤ → ℕ → ℕ → Refused
frame_refused s cfg profile spread slot tag = first (heard_tests s cfg profile spread slot tag)

-- what an accepted frame leaves and tells
abbrev pub heard : FrameStep → Outcome
heard f = done f.state f.out

-- the whole call: state, settings, profile, instant, worker flag, spread, proof, where the body
-- starts, the source's bytes and the target's
unfoldable pub frame_answer : State → Config → Profile → ℕ → Bool → ℤ → FrameProof → ℕ → List ℕ → List ℕ → Outcome
frame_answer s cfg profile time workers spread p body source target =
    outcome_by (frame_refused s cfg profile spread p.slot p.tag) s
    (heard (frame_of s (given_of cfg profile time workers) spread p body source target))

-- "state and buffers remain": the target's bytes after the call
unfoldable pub frame_target : State → Config → Profile → ℕ → Bool → ℤ → FrameProof → ℕ → List ℕ → List ℕ → List ℕ
frame_target s cfg profile time workers spread p body source target =
    pick (eqb (frame_refused s cfg profile spread p.slot p.tag).number 0)
    (frame_of s (given_of cfg profile time workers) spread p body source target).target
    target
