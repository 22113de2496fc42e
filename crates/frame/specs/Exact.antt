-- A frame's number in document 01's words: accepted exactly where 1 to 9 pass, and each number
-- exactly where its sentence is the first to hold.
use Rattle.std.specs.Prelude.{ℕ, ◌↔◌, ◌≡◌, List, [], ℤ}
use Rattle.std.proofs.Math.Bool.{true, false}
use Rattle.settings.specs.declared.Config.{Config}
use Rattle.numbers.specs.Numbers.{refused_draw, refused_slot, refused_tag}
use Rattle.state.specs.declared.State.{State}
use Rattle.state.specs.declared.Profile.{Profile}
use Rattle.law_exact.specs.Words.{GivenOk, SpreadOk, SpreadOut}
use Rattle.law_exact.specs.Numbers.{GivenNumbers, StateNumbers, LinkOk, Placed}
use Rattle.answer.specs.Outcome.{Outcome}
use Rattle.frame_slots.specs.declared.FrameProof.{FrameProof}
use Rattle.frame_slots.specs.Frame.{slot_tag}

-- 1 to 9 pass
pub record FrameOk (s : State) (cfg : Config) (profile : Profile) (spread : ℤ) (p : FrameProof) : Type 0 where
  pub link : LinkOk s cfg profile
  pub drawn : SpreadOk cfg.jitter spread
  -- the slot holds an epoch
  pub held : (slot_tag s p.slot).some ≡ true
  -- and its tag is the frame's
  pub tag : (slot_tag s p.slot).at ≡ p.tag

pub record FrameExact (s : State) (cfg : Config) (profile : Profile) (spread : ℤ) (p : FrameProof) (target : List ℕ) (a : Outcome) (after : List ℕ) : Type 0 where
  pub accepted : (a.number ≡ 0) ↔ FrameOk s cfg profile spread p
  -- 1 and 2
  pub given : GivenNumbers a.number cfg profile
  -- 3 to 6
  pub state : StateNumbers a.number (GivenOk cfg profile) s
  -- "7. A draw lies outside its range."
  pub draw : (a.number ≡ refused_draw) ↔ (LinkOk s cfg profile × SpreadOut cfg.jitter spread)
  -- "8. A frame names a slot that holds no epoch."
  pub slot : (a.number ≡ refused_slot) ↔ (LinkOk s cfg profile × SpreadOk cfg.jitter spread × ((slot_tag s p.slot).some ≡ false))
  -- "9. A frame's tag is not that epoch's tag."
  pub tag : (a.number ≡ refused_tag) ↔ (LinkOk s cfg profile × SpreadOk cfg.jitter spread × ((slot_tag s p.slot).some ≡ true) × ((slot_tag s p.slot).at ≡ p.tag → ⊥))
  pub place : Placed a.number a.place cfg
  -- "state and buffers remain", and no event is told
  pub back : (a.number ≡ 0 → ⊥) → (a.state ≡ s) × (after ≡ target) × (a.out ≡ [])
