-- The value is that of the digits from the next one on that follow those before it.
use Rattle.std.proofs.Common.{drop, ◌≡◌, ◌≤◌}
use Rattle.text.specs.Numbers.{value_from}
use Rattle.text.proofs.number.value.Given as goal

abbrev pub invariant-loop-b : goal.invariant-loop-b
invariant-loop-b l = (l.value ≤ l.most) × (value_from 0 l.s ≡ value_from l.value (drop l.b-index l.s))
