-- Bytes put into a buffer. A buffer is the list of its bytes.
use Rattle.std.specs.Prelude.{ℕ, zero, suc, ◌+◌, ◌-◌, ◌/◌, ◌%◌, min, Bool, cond, List, [], ◌∷◌, ◌++◌, length, leb, ltb, Option, Some, None}
use Rattle.std.proofs.Math.Seq.{paste}

-- how many of n bytes fit from index `at` on below `len`
abbrev pub fitting : ℕ → ℕ → ℕ → ℕ
fitting n at len = min n (len - at)

-- d with the bytes of s from index `at` on, as far as d reaches, and the index after them
unfoldable pub written : List ℕ → ℕ → List ℕ → List ℕ
written d at s = paste d at s (fitting (length s) at (length d))

unfoldable pub written_to : List ℕ → ℕ → List ℕ → ℕ
written_to d at s = at + fitting (length s) at (length d)

-- all of s fits from index `at` on
abbrev pub fits : List ℕ → ℕ → List ℕ → Bool
fits d at s = leb (at + length s) (length d)

-- what a buffer holds once s is put, and up to which index: s goes behind what is there if it fits, else to the front, else not into the buffer
unfoldable pub held : List ℕ → ℕ → List ℕ → List ℕ
held d at s = cond (fits d at s) (written d at s) (cond (fits d 0 s) (written d 0 s) d)

unfoldable pub held_to : List ℕ → ℕ → List ℕ → ℕ
held_to d at s = cond (fits d at s) (at + length s) (cond (fits d 0 s) (length s) 0)

-- the last digits of n, at most k, with no zero in front
unfoldable pub decimal : ℕ → ℕ → List ℕ
decimal zero n = []
decimal (suc k) n = cond (ltb n 10) ((48 + n) ∷ []) (decimal k (n / 10) ++ ((48 + n % 10) ∷ []))

-- the decimal digits of a number below 2^64, which has at most 20
abbrev pub decimal_of : ℕ → List ℕ
decimal_of n = decimal 20 n

-- what a buffer holds once a space (32) is put and then the decimal digits of n, and up to which index
abbrev pub spaced : List ℕ → ℕ → ℕ → List ℕ
spaced d at n = held (held d at (32 ∷ [])) (held_to d at (32 ∷ [])) (decimal_of n)

abbrev pub spaced_to : List ℕ → ℕ → ℕ → ℕ
spaced_to d at n = held_to (held d at (32 ∷ [])) (held_to d at (32 ∷ [])) (decimal_of n)

-- the same of a number that may be absent, in whose place the bytes `none` are put
abbrev pub spaced_or : List ℕ → ℕ → Option ℕ → List ℕ → List ℕ
spaced_or d at (Some n) none = spaced d at n
spaced_or d at None none = held d at none

abbrev pub spaced_or_to : List ℕ → ℕ → Option ℕ → List ℕ → ℕ
spaced_or_to d at (Some n) none = spaced_to d at n
spaced_or_to d at None none = held_to d at none
