-- Where a byte stands in a list of bytes.
use Rattle.std.specs.Prelude.{ℕ, List, take, drop, ◌==◌}
use Rattle.std.specs.List.{position_or_len}

-- the index of the first byte b of a list, or the length of the list where there is none
abbrev pub index_of : ℕ → List ℕ → ℕ
index_of b xs = position_or_len (λ x. x == b) xs

-- the elements from index i up to index j
abbrev pub slice : {X : Type 0} → ℕ → ℕ → List X → List X
slice i j xs = drop i (take j xs)
