-- What steps and passes leave, over the words of a log and the number of its events.
use Rattle.std.specs.Prelude.{ℕ, Bool, ◌≡◌, List}
use Rattle.state.specs.declared.State.{State}
use Rattle.events.specs.Log.{at, logged, Appends}
use Rattle.frame_hear.specs.Hear.{HearStep}
use Rattle.poll_loop.specs.Passes.{Ended}

-- a state, and how many events the words hold
pub record Heard : Type 0 where
  pub state : State
  pub len : ℕ

-- the state of what was heard, and its events behind the `len` that were in the log
abbrev pub Did : HearStep → ℕ → List ℕ → Heard → List ℕ → Type 0
Did t len ws r ws' = (r.state ≡ t.state) × Appends t.out len ws r.len ws'

-- a state, how many events the words hold, and whether the link has ended
pub record Ran : Type 0 where
  pub state : State
  pub len : ℕ
  pub ended : Bool

-- the state, the log, whether the link ended, and the count
pub record Leaves (t : Ended) (ws₀ : List ℕ) (s : State) (len : ℕ) (ended : Bool) (count : ℕ) (ws : List ℕ) : Type 0 where
  pub state : s ≡ t.work.state
  pub log : at len ws ≡ logged (at 0 ws₀) t.work.out
  pub ends : ended ≡ t.work.ended
  pub counts : count ≡ t.count
