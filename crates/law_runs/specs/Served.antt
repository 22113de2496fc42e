-- A call of a run that is no poll: what a run needs of it, and the laws by which demand 3 holds of every
-- list that has it. A further call brings a value of `Served` (Others.antt, Notices.antt), a constructor and a
-- clause (Link.antt).
use Rattle.std.specs.Prelude.{ℕ, zero, suc, ◌≤◌, false, ◌≡◌, List, []}
use Rattle.std.proofs.Math.Option.{Option}
use Rattle.state.specs.declared.State.{State}
use Rattle.state.specs.Stands.{stands}
use Rattle.events.specs.Events.{Event}
use Rattle.refusal.specs.Refusal.{state_back}
use Rattle.answer.specs.Outcome.{Outcome}
use Rattle.law_early.specs.Early.{Early}
use Rattle.law_runs.specs.Runs.{Answer, back, gave, Out, goes_on}

-- the names of such calls, as the log has them
pub data Name : Type 0 where
  frame reply sent worker delegated undelegated datasent path : Name

-- the bytes of a frame's two buffers; other calls have none
pub record Buffers : Type 0 where
  pub source : List ℕ
  pub target : List ℕ

abbrev pub no_buffers : Buffers
no_buffers = record { source = []; target = [] }

-- number 0 is no refusal
abbrev pub answer_of : ℕ → ℕ → List Event → Option ℕ → Answer Event
answer_of zero place out count = gave out count
answer_of (suc n) place out count = back (suc n) place

-- an outcome as a step of a run: `bytes` are those of the buffers after it, and a poll's count is told
abbrev pub step_of : Buffers → Option ℕ → Outcome → Out State Event Buffers
step_of bytes count o = record { said = answer_of o.number o.place o.out count; bytes = bytes; next = o.state }

pub record Served : Type 0 where
  pub name : Name
  pub at : ℕ
  -- the bytes in the buffers that it is given
  pub given : Buffers
  pub step : State → Out State Event Buffers
  -- an accepted state stays accepted
  pub kept : (s : State) → state_back s ≡ 0 → state_back (step s).next ≡ 0
  -- starts that are not after an instant stay so
  pub ages : (s : State) (t : ℕ) → state_back s ≡ 0 → at ≤ t → Early s t → Early (step s).next t
  -- sent back, it leaves state and bytes
  pub leaves : (s : State) → goes_on (step s).said ≡ false → ((step s).next ≡ s) × ((step s).bytes ≡ given)
  -- what stands decides
  pub one :
      (s t : State) → stands s ≡ stands t
      → ((step s).said ≡ (step t).said) × ((step s).bytes ≡ (step t).bytes) × (stands (step s).next ≡ stands (step t).next)
