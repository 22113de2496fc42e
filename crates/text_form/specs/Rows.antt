-- A row that is filled from its front.
use Rattle.std.specs.Prelude.{ℕ, ◌≡◌, ◌+◌, ◌≤◌, drop, length}
use Rattle.text_form.specs.declared.arguments.Row.{Row}

-- the next place moves on by n at most, and what stands behind those n places stays
pub record Moves (n : ℕ) (r r' : Row) : Type 0 where
  pub at : r'.at ≤ r.at + n
  pub behind : (k : ℕ) → r.at + n ≤ k → drop k r'.numbers.now ≡ drop k r.numbers.now
  pub size : length r'.numbers.now ≡ length r.numbers.now
  pub same_reference : r'.numbers.ghost_name ≡ r.numbers.ghost_name
