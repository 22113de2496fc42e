-- What the operations make of the list of candidates.
use Rattle.std.specs.Prelude.{ℕ, Bool, ◌||◌, leb}
use Rattle.std.proofs.Math.Bool.{false}
use mathlib.Core.List.{List, [], ◌∷◌}

-- ---- the earliest deadline

-- whether some deadline is not after now
unfoldable pub due_in : ℕ → List ℕ → Bool
due_in now [] = false
due_in now (t ∷ l) = leb t now || due_in now l
