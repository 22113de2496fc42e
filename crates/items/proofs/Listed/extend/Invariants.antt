use Rattle.std.proofs.Common.{◌≡◌, ◌≤◌, ◌+◌, ◌++◌, map, length, take}
use Rattle.items.specs.Arrays.{most_listed}
use Rattle.items.proofs.Laws.{name_at}
use Rattle.items.proofs.Listed.extend.Given as goal

-- The items so far are noted, where there is room for all.
abbrev pub invariant-loop-x : goal.invariant-loop-x
invariant-loop-x l = length l.initial.self + length l.x-items ≤ most_listed → l.self ≡ l.initial.self ++ map name_at (take l.x-index l.x-items)
