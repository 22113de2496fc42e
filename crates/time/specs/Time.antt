-- Instants and durations: whole milliseconds, each a natural number up to 2^64 - 1.
use Rattle.std.specs.Prelude.{ℕ, ◌+◌, ◌*◌, ◌^◌, Bool, true, false, leb, ltb}
use Rattle.time.specs.declared.When.{When}
use Rattle.time.specs.Pick.{pick}

-- the last instant, and the longest duration that a setting can hold
abbrev pub end : ℕ
end = 18446744073709551615

abbrev pub none : When
none = record { some = false; at = 0 }

abbrev pub at : ℕ → When
at t = record { some = true; at = t }

-- a number that is there where a flag is on
abbrev pub whenever : Bool → ℕ → When
whenever b n = pick b (at n) none

-- "`later` answers its instant unchanged where the sum passes 2^64 − 1."
unfoldable pub later_of : ℕ → ℕ → ℕ
later_of t d = pick (leb (t + d) end) (t + d) t

-- a sum that stops at 2^64 - 1
unfoldable pub sat_add : ℕ → ℕ → ℕ
sat_add a b = pick (leb (a + b) end) (a + b) end

-- a product that stops at 2^64 - 1
unfoldable pub sat_mul : ℕ → ℕ → ℕ
sat_mul a b = pick (leb (a * b) end) (a * b) end

unfoldable pub least : ℕ → ℕ → ℕ
least a b = pick (leb a b) a b

unfoldable pub most : ℕ → ℕ → ℕ
most a b = pick (leb a b) b a

-- "A count of 32 or more uses the factor 4,294,967,295."
unfoldable pub factor_of : ℕ → ℕ
factor_of n = pick (ltb n 32) (2 ^ n) 4294967295

-- a wait doubled n times, at most the cap
unfoldable pub backoff_of : ℕ → ℕ → ℕ → ℕ
backoff_of n base cap = least (base * factor_of n) cap

-- a sum that is absent where it passes 2^64 - 1
unfoldable pub sum_of : ℕ → ℕ → When
sum_of a b = pick (leb (a + b) end) (at (a + b)) none

unfoldable pub later_by_of : ℕ → When → ℕ
later_by_of t d = pick d.some (later_of t d.at) t

-- an instant that is there and not after now
abbrev pub reached_of : When → ℕ → Bool
reached_of w now = pick w.some (leb w.at now) false

-- the earlier of two, the first where they are equal
unfoldable pub sooner_of : When → When → When
sooner_of a b = pick a.some (pick b.some (pick (leb a.at b.at) a b) a) b
