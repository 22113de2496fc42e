-- The first test that sends a call back: each number is given exactly when its condition is the
-- first to hold, and none is given exactly when none holds.
use Rattle.std.specs.Prelude.{ℕ, Bool, true, ◌&&◌, List, [], ◌∷◌, ltb, eqb}
use Rattle.refusal.specs.Refusal.{any_of, Test}

-- ---- each number

-- the test of number n sends back
abbrev pub back_at : ℕ → List Test → Bool
back_at n l = any_of (λ t. t.back && eqb t.answer.number n) l

-- a test of a lower number does
abbrev pub back_below : ℕ → List Test → Bool
back_below n l = any_of (λ t. t.back && ltb t.answer.number n) l

-- "in this order": the numbers rise, from above k
unfoldable pub rising : ℕ → List Test → Bool
rising k [] = true
rising k (t ∷ l) = ltb k t.answer.number && rising t.answer.number l

-- ---- none

-- some test sends back
abbrev pub any_back : List Test → Bool
any_back l = any_of (λ t. t.back) l
