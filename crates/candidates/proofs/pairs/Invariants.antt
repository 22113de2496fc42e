use Rattle.std.proofs.Common.{◌≡◌, length}
use Rattle.candidates.specs.Repeats.{repeated}
use Rattle.candidates.proofs.pairs.Given as goal

-- Whether a number stands twice in the rest is whether one stands twice.
abbrev pub invariant-loop-x : goal.invariant-loop-x
invariant-loop-x l = repeated l.initial.a ≡ repeated l.rest

abbrev pub decreases-loop-x : goal.decreases-loop-x
decreases-loop-x l = length l.rest
