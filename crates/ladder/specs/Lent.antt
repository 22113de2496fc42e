-- A ladder lent for change: its cursor behind every due rung, and what is taken.
use Rattle.std.specs.Prelude.{ℕ, Option, Some, None}
use Rattle.time.specs.Pick.{pick}
use Rattle.ladder.specs.declared.Ladder.{Ladder}
use Rattle.ladder.specs.declared.Taken.{Taken}
use Rattle.ladder.specs.Took.{Took}
use Rattle.ladder.specs.Ladder.{take_of}

-- the next index after every due rung is taken
abbrev pub next_after : Ladder → ℕ → ℕ
next_after l now = (take_of l now).ladder.next

-- what a take tells, absent where no rung was due
abbrev pub told_by : Took → Option Taken
told_by t = pick t.any (Some (record { taken = t.taken; send = t.send; latest = t.latest; last = t.last })) None

-- what was taken
abbrev pub taken_of : Ladder → ℕ → Option Taken
taken_of l now = told_by (take_of l now)
