use Rattle.std.specs.Prelude.{◌≡◌, ◌-◌, map}
use Rattle.time.specs.Lists.{fold, range}
use Rattle.time.specs.Options.{when_of}
use Rattle.time.specs.Time.{none}
use Rattle.ladder.specs.Schedule.{last_of, rung_at}
use Rattle.ladder.proofs.Schedule.last_send.Given as goal

abbrev pub invariant-loop-i : goal.invariant-loop-i
invariant-loop-i l = fold last_of none (map (rung_at l.self) (range 0 l.n)) ≡ fold last_of (when_of l.found) (map (rung_at l.self) (range l.i (l.n - l.i)))
