-- How the code fills a schedule, rung by rung, and that the result is the plan.
use Rattle.std.specs.Prelude.{ℕ, ◌+◌, ◌^◌, Bool, ltb, set, replicate}
use Rattle.time.specs.declared.When.{When}
use Rattle.time.specs.Pick.{pick}
use Rattle.time.specs.Time.{least}
use Rattle.ladder.specs.declared.Schedule.{Schedule}
use Rattle.ladder.specs.declared.Made.{Made}
use Rattle.ladder.specs.Schedule.{Rung, send, max_rungs, before}

-- n + k, at most 255
unfoldable pub lost_of : ℕ → ℕ → ℕ
lost_of n k = least (n + k) 255

-- k more dropped
unfoldable pub losing : Made → ℕ → Made
losing m k = record { sched = m.sched; dropped = lost_of m.dropped k }

-- one rung more at the end
unfoldable pub pushed : Schedule → Rung → Schedule
pushed s r =
    record { at = set s.at s.len r.offset; keepalive = s.keepalive + pick r.silent (2 ^ s.len) 0; len = s.len + 1 }

-- a rung put where there is room, else dropped
unfoldable pub put_of : ℕ → Made → Rung → Made
put_of limit m r =
    pick (ltb m.sched.len limit) (record { sched = pushed m.sched r; dropped = m.dropped }) (losing m 1)

abbrev pub putting : Made → ℕ → Bool → Made
putting m t silent = put_of max_rungs m (record { offset = t; silent = silent })

-- an offset put as a send where it lies before the end, else dropped
unfoldable pub offered : ℕ → When → Made → ℕ → Made
offered limit end m t = pick (before end t) (put_of limit m (send t)) (losing m 1)

-- a schedule with no rung yet, d dropped before
abbrev pub none_yet : ℕ → Made
none_yet d = record { sched = record { at = replicate max_rungs 0; keepalive = 0; len = 0 }; dropped = d }
