-- The numbers of the wake and the status, 1 to 6, in document 01's words: each is accepted exactly where the
-- tests that concern it pass, and each number is given exactly where its sentence is the first to hold.
use Rattle.std.specs.Prelude.{ℕ, ◌↔◌, ◌≡◌}
use Rattle.time.specs.Time.{none}
use Rattle.settings.specs.declared.Config.{Config}
use Rattle.numbers.specs.Numbers.{cycle_idle}
use Rattle.state.specs.declared.State.{State}
use Rattle.state.specs.declared.Profile.{Profile}
use Rattle.wake.specs.Wake.{wake_of}
use Rattle.law_exact.specs.Words.{GivenOk}
use Rattle.law_exact.specs.Numbers.{GivenNumbers, StateNumbers, LinkOk, Placed}
use Rattle.call_read.specs.declared.Woke.{Woke}
use Rattle.call_read.specs.declared.Shown.{Shown}
use Rattle.call_read.specs.QuietTime.{QuietExact}

pub record WakeExact (s : State) (cfg : Config) (p : Profile) (a : Woke) : Type 0 where
  pub accepted : (a.number ≡ 0) ↔ LinkOk s cfg p
  pub given : GivenNumbers a.number cfg p
  pub state : StateNumbers a.number (GivenOk cfg p) s
  pub place : Placed a.number a.place cfg
  -- the wake, where the call is accepted; none where it is not
  pub taken : a.number ≡ 0 → a.at ≡ wake_of s cfg p
  pub back : (a.number ≡ 0 → ⊥) → a.at ≡ none

pub record StatusExact (s : State) (cfg : Config) (p : Profile) (time : ℕ) (a : Shown) : Type 0 where
  pub accepted : (a.number ≡ 0) ↔ LinkOk s cfg p
  pub given : GivenNumbers a.number cfg p
  pub state : StateNumbers a.number (GivenOk cfg p) s
  pub place : Placed a.number a.place cfg
  -- the quiet time, where the call is accepted; nothing is shown where it is not
  pub quiet : a.number ≡ 0 → QuietExact s time a.quiet
  pub back : (a.number ≡ 0 → ⊥) → (a.tag ≡ none) × (a.kind ≡ cycle_idle) × (a.wake ≡ none) × (a.quiet ≡ none)
