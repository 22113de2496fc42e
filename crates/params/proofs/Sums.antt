-- Sums that stop at 2^64 - 1, in a row.
use Rattle.std.specs.Prelude.{ℕ, ◌+◌, ◌≡◌, min}
use Rattle.std.proofs.Common.{arith}
use Rattle.time.specs.Time.{end, least}
use Rattle.time.proofs.Std.{min_least, max_most}

-- two in a row are the exact sum, at most 2^64 - 1
pub in_a_row : (a b c : ℕ) → min (min (a + b) end + c) end ≡ least (a + b + c) end
in_a_row a b c = rw (← min_least (a + b + c) end) (omega arith)

pub ruleset hold_words = (in_a_row, max_most)
