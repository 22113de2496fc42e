-- What is read of a link: its wake, and the link line.
use Rattle.std.specs.Prelude.{ℕ, ◌-◌, eqb}
use Rattle.time.specs.declared.When.{When}
use Rattle.time.specs.Pick.{pick}
use Rattle.time.specs.Time.{none}
use Rattle.settings.specs.declared.Config.{Config}
use Rattle.numbers.specs.Numbers.{cycle_idle}
use Rattle.cycle.specs.Kind.{is_idle}
use Rattle.state.specs.declared.State.{State}
use Rattle.state.specs.declared.Profile.{Profile}
use Rattle.start.specs.Start.{latest_of}
use Rattle.wake.specs.Wake.{wake_of}
use Rattle.refusal.specs.Refused.{Refused}
use Rattle.refusal.specs.Refusal.{before_link}
use Rattle.call_read.specs.declared.Woke.{Woke}
use Rattle.call_read.specs.declared.Shown.{Shown}
use Rattle.time.specs.Time.{whenever}

-- 1 to 6; "The wake is the least instant `next_wake` names, or absent." A refused call gives none.
unfoldable pub woke_of : State → Config → Profile → Woke
woke_of s cfg p =
    record {
      number = (before_link s cfg p).number;
      place = (before_link s cfg p).place;
      at = pick (eqb (before_link s cfg p).number 0) (wake_of s cfg p) none;
    }

-- the cycle's kind: a number that is none of the list counts as Idle, and is shown as it
unfoldable pub kind_shown : ℕ → ℕ
kind_shown kind = pick (is_idle kind) cycle_idle kind

-- Quiet time, by request 4: "now less the later of `rx_cur` and the current start, 0 if the clock is behind. It is
-- absent only without a current epoch." A cutover leaves `rx_cur`, so it may be of an epoch that was current before
unfoldable pub quiet_time : State → ℕ → When
quiet_time s time = whenever s.cur.some (time - latest_of s.mem.rx_cur s.cur.ep.started)

-- "The status answer shows current tag, cycle kind, wake, and quiet time"; a refused call shows none
-- of them
abbrev pub shown_by : Refused → State → When → ℕ → Shown
shown_by r s wake time =
    record {
      number = r.number;
      place = r.place;
      tag = pick (eqb r.number 0) (whenever s.cur.some s.cur.ep.tag) none;
      kind = pick (eqb r.number 0) (kind_shown s.cycle.kind) cycle_idle;
      wake = pick (eqb r.number 0) wake none;
      quiet = pick (eqb r.number 0) (quiet_time s time) none;
    }

-- 1 to 6
unfoldable pub status_of : State → Config → Profile → ℕ → Shown
status_of s cfg p time = shown_by (before_link s cfg p) s (wake_of s cfg p) time
