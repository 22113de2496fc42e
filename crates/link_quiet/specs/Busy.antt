-- What keeps a poll from being quiet, part by part: a number from 1 to 7 that sends it back, or one of
-- the four conditions.
use Rattle.std.specs.Prelude.{ℕ, Bool, not, ◌&&◌, ◌||◌, List, eqb, ℤ}
use Rattle.time.specs.Time.{reached_of}
use Rattle.settings.specs.declared.Config.{Config}
use Rattle.settings.specs.Settings.{place_of}
use Rattle.epoch.specs.declared.Drain.{Drain}
use Rattle.cycle.specs.declared.Cycle.{Cycle}
use Rattle.cycle.specs.Kind.{is_idle}
use Rattle.candidates.specs.Held.{firsts, earliest_of}
use Rattle.candidates.specs.Repeats.{repeated}
use Rattle.state.specs.declared.State.{State}
use Rattle.state.specs.declared.Profile.{Profile}
use Rattle.state.specs.declared.Given.{Given}
use Rattle.state.specs.Parts.{listed}
use Rattle.refusal.specs.Refusal.{profile_bad, cands_bad, is_pending, epochs_bad, tags_of, seqs_of, spread_bad, extra_bad}
use Rattle.refusal.specs.Standing.{pending_ep, held_bad, cycle_bad}
use Rattle.start.specs.Start.{called_for}
use Rattle.wake.specs.Due.{cycle_due, current_instants}
use Rattle.wake.specs.Quiet.{teardown_stands}

-- the least of some instants is reached
abbrev pub reached : List ℕ → ℕ → Bool
reached l now = reached_of (earliest_of l) now

-- an epoch's offer: "the worker flag is on and the .. epoch is received here and has a binding"
unfoldable pub owed_of : Bool → Bool → Bool → Bool → Bool
owed_of workers some delegated lease = workers && (some && (not delegated && lease))

-- ---- the first part: what the call is given, the current epoch, the candidates

-- 1, 2 and 7
unfoldable pub asked_back : Config → Profile → ℤ → ℕ → Bool
asked_back cfg p spread extra =
    not (eqb (place_of cfg) 0) || (profile_bad p || (spread_bad cfg.jitter spread || extra_bad cfg.jitter extra))

-- a rung of the current epoch is due, or 6 of it
unfoldable pub current_rungs : State → ℕ → Bool
current_rungs s now = reached (current_instants s.cur) now || held_bad s.cur.some s.cur.ep

unfoldable pub current_busy : State → Config → Profile → ℕ → Bool → Bool
current_busy s cfg p now workers =
    called_for s cfg p now
    || (teardown_stands s cfg
    || (current_rungs s now || owed_of workers s.cur.some s.cur.ep.delegated s.cur.ep.ids.lease.some))

-- 3, a candidate is due, or 5 of candidates
unfoldable pub waiting_busy : State → ℕ → Bool
waiting_busy s now = cands_bad s || (reached (firsts s.cands.len s.cands.deadline) now || repeated (seqs_of s))

unfoldable pub first_busy : State → Given → ℤ → Bool
first_busy s g spread =
    asked_back g.cfg g.profile spread g.extra
    || (current_busy s g.cfg g.profile g.now g.workers || waiting_busy s g.now)

-- ---- the second part: the cycle and the drained epoch

-- an item of the cycle is due, or 6 of the cycle or of its epoch
unfoldable pub cycle_busy : Cycle → ℕ → Bool
cycle_busy c now = reached (cycle_due c) now || (cycle_bad c || held_bad (is_pending c.kind) (pending_ep c))

-- its end is due, its offer is owed, or 6 of it
unfoldable pub drain_busy : Drain → ℕ → Bool → Bool
drain_busy d now workers =
    reached (listed d.some d.deadline) now
    || (owed_of workers d.some d.ep.delegated d.ep.ids.lease.some || held_bad d.some d.ep)

-- 4, or 5 of epochs
unfoldable pub epochs_back : State → Bool
epochs_back s = epochs_bad s || repeated (tags_of s)

unfoldable pub other_busy : State → Given → Bool
other_busy s g = cycle_busy s.cycle g.now || (drain_busy s.drain g.now g.workers || epochs_back s)

-- there is neither a cycle nor a drained epoch
unfoldable pub alone_of : State → Bool
alone_of s = is_idle s.cycle.kind && not s.drain.some
