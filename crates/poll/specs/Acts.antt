-- What an accepted poll does: each item that is due is listed, none is left due at the poll's instant,
-- and it tells something exactly where it has something to tell.
use Rattle.std.specs.Prelude.{ℕ, ◌<◌, Bool, true, false, ◌≡◌, []}
use Rattle.settings.specs.declared.Config.{Config}
use Rattle.state.specs.declared.State.{State}
use Rattle.state.specs.declared.Profile.{Profile}
use Rattle.wake.specs.Due.{some_in, any_due}
use Rattle.wake.specs.Quiet.{quiet_of}
use Rattle.answer.specs.Outcome.{Outcome}

pub record PollActs (s : State) (cfg : Config) (p : Profile) (now : ℕ) (workers : Bool) (a : Outcome) : Type 0 where
  -- an item is due: it is counted
  pub counted : a.number ≡ 0 → any_due s now ≡ true → 0 < a.count
  -- "A poll makes at most three passes": they leave no item due at its instant
  pub clear : a.number ≡ 0 → any_due a.state now ≡ false
  -- no item is due, and a start is called for, a teardown stands or an offer is owed: an event is told
  pub tells : a.number ≡ 0 → any_due s now ≡ false → quiet_of s cfg p now workers ≡ false → some_in a.out ≡ true
  -- none of the four: no event, no count, and the state as it was
  pub still : a.number ≡ 0 → quiet_of s cfg p now workers ≡ true → (a.out ≡ []) × (a.count ≡ 0) × (a.state ≡ s)
