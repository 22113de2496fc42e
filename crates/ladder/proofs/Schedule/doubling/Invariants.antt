use Prim.Native.Nat.{◌-◌}
use mathlib.Core.Path.{◌≡◌}
use mathlib.Core.List.{map}
use Rattle.time.specs.Options.{when_of}
use Rattle.time.specs.Lists.{fold, range}
use Rattle.ladder.specs.Schedule.{max_rungs, doubled}
use Rattle.ladder.specs.Laws.{Fresh}
use Rattle.ladder.specs.Fill.{offered}
use Rattle.ladder.proofs.Schedule.doubling.Given as goal

-- what is offered from i on is all that is offered
abbrev pub invariant-loop-i : goal.invariant-loop-i
invariant-loop-i l =
    Fresh l.made × (fold (offered max_rungs (when_of l.end)) l.initial.made (map (doubled l.f) (range 0 l.count)) ≡ fold (offered max_rungs (when_of l.end)) l.made (map (doubled l.f) (range l.i (l.count - l.i))))
