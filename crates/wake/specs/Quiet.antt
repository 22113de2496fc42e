-- The four conditions under which a poll has something to do, on the state that it gets.
use Rattle.std.specs.Prelude.{ℕ, Bool, true, not, ◌&&◌, ◌||◌, ◌≡◌, ltb, eqb}
use Rattle.settings.specs.declared.Config.{Config}
use Rattle.epoch.specs.declared.Epoch.{Epoch}
use Rattle.cycle.specs.Kind.{is_init, is_pend_i, is_pend_r, is_idle}
use Rattle.state.specs.Parts.{epochs_of}
use Rattle.state.specs.declared.State.{State}
use Rattle.state.specs.declared.Profile.{Profile}
use Rattle.start.specs.Start.{called_for}
use Rattle.wake.specs.Due.{some_in, any_due}
use Rattle.wake.specs.Wake.{exhausted}

-- the teardown test OpeningIdle: no current epoch, nothing in progress, no candidate
unfoldable pub opening_idle : State → Bool
opening_idle s = not s.cur.some && (is_idle s.cycle.kind && eqb s.cands.len 0)

-- "a teardown stands when a teardown test of `poll` holds": OpeningIdle or CounterExhausted
unfoldable pub teardown_stands : State → Config → Bool
teardown_stands s cfg = opening_idle s || exhausted s cfg

-- "received here and has a binding"
abbrev pub offerable : Epoch → Bool
offerable e = not e.delegated && e.ids.lease.some

-- "An offer is owed when the worker flag is on and the current or drained epoch is received here and has a binding."
unfoldable pub offer_owed : State → Bool → Bool
offer_owed s workers = workers && ((s.cur.some && offerable s.cur.ep) || (s.drain.some && offerable s.drain.ep))

-- none of the four: an item is due, a start is called for, a teardown stands, an offer is owed
unfoldable pub quiet_of : State → Config → Profile → ℕ → Bool → Bool
quiet_of s cfg p now workers =
    not (any_due s now) && (not (called_for s cfg p now) && (not (teardown_stands s cfg) && not (offer_owed s workers)))

-- ---- what the wake clause supposes of the state

-- an epoch, an attempt or a candidate is held
unfoldable pub held_something : State → Bool
held_something s = some_in (epochs_of s) || (is_init s.cycle.kind || ltb 0 s.cands.len)

-- no "pending or drained epoch stands without a current one"
pub record Led (s : State) : Type 0 where
  pub pendi : is_pend_i s.cycle.kind ≡ true → s.cur.some ≡ true
  pub pendr : is_pend_r s.cycle.kind ≡ true → s.cur.some ≡ true
  pub drain : s.drain.some ≡ true → s.cur.some ≡ true
