use Prim.Native.Nat.{ℕ, ◌≤◌, ◌+◌, ◌-◌}
use mathlib.Core.Bool.{Bool}
use mathlib.Core.Path.{◌≡◌}
use mathlib.Core.List.{List}
use lib.Dec.{ltb}
use lib.ListN.{length, get_or}
use Rattle.candidates.specs.Held.{chosen, younger}
use Rattle.candidates.specs.Places.{moved, keeping}
use Rattle.candidates.proofs.pack.Given as goal

-- the test of a place
abbrev pub test : ℕ → List ℕ → ℕ → Bool
test t born j = ltb t (get_or born j 0)

abbrev pub invariant-loop-i : goal.invariant-loop-i
invariant-loop-i l = (l.w ≤ l.i) × (length l.a ≡ 32) × (length (younger l.t l.n l.born) ≡ l.w + length (keeping (test l.t l.born) l.i l.n)) × (chosen (younger l.t l.n l.born) l.initial.a ≡ moved l.w (keeping (test l.t l.born) l.i l.n) l.a)

abbrev pub decreases-loop-i : goal.decreases-loop-i
decreases-loop-i l = l.n - l.i
