use Rattle.std.specs.Prelude.{◌-◌}
use Rattle.ladder.specs.Schedule.{max_rungs}
use Rattle.ladder.proofs.SoFar.{Ahead}
use Rattle.ladder.proofs.Ladder.take.Given as goal

-- what is taken so far and from the cursor on is all that is taken
abbrev pub invariant-loop-ladder : goal.invariant-loop-ladder
invariant-loop-ladder l = Ahead l.fn.self l.ladder l.so_far l.now

abbrev pub decreases-loop-ladder : goal.decreases-loop-ladder
decreases-loop-ladder l = max_rungs - l.ladder.next
