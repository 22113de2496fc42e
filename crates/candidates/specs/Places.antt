-- Laws of arrays read and moved place by place, for the loops.
use Prim.Native.Nat.{ℕ, ◌<◌, ◌+◌, ◌-◌}
use Rattle.std.specs.Prelude.{Bool, take, drop}
use mathlib.Core.List.{List, [], ◌∷◌, ◌++◌, map}
use Rattle.std.proofs.Math.ListN.{length, get_or}
use Rattle.time.specs.Lists.{range, kept}

-- ---- elements moved to the front

-- every place of a list lies after w
unfoldable pub After : ℕ → List ℕ → Type 0
After w [] = Unit
After w (p ∷ ps) = (w < p) × After w ps

-- from place w on what stands at the places ps, the others as they were
unfoldable pub moved : ℕ → List ℕ → List ℕ → List ℕ
moved w ps l = take w l ++ (map (λ i. get_or l i 0) ps ++ drop (w + length ps) l)

-- what a removal at place j of n has still to do
unfoldable pub shifting : ℕ → ℕ → List ℕ → List ℕ
shifting j n l = moved j (range (j + 1) (n - (j + 1))) l

-- what is left of n places from i on where a test holds
unfoldable pub keeping : (ℕ → Bool) → ℕ → ℕ → List ℕ
keeping t i n = kept t (range i (n - i))
