-- The decimal number that a field's bytes stand for. The digits 0 to 9 are the bytes 48 to 57.
use Rattle.std.specs.Prelude.{ℕ, ◌+◌, ◌-◌, ◌*◌, Bool, cond, List, [], ◌∷◌, length, leb, eqb, ◌&&◌, Option, Some, None, Result, Err}
use Rattle.std.specs.List.{list_all}
use Rattle.std.specs.Option.{ok_or}
use Rattle.text.specs.declared.fault.Fault.{Fault}
use Rattle.text.specs.declared.fault.Fault.TheVariants.{Empty, NotDigit, TooLarge}

abbrev pub is_digit : ℕ → Bool
is_digit b = leb 48 b && leb b 57

abbrev pub all_digits : List ℕ → Bool
all_digits s = list_all is_digit s

-- the value of digits that follow those of value v
unfoldable pub value_from : ℕ → List ℕ → ℕ
value_from v [] = v
value_from v (b ∷ bs) = value_from (10 * v + (b - 48)) bs

abbrev pub value : List ℕ → ℕ
value bs = value_from 0 bs

-- n, where it is at most `most`
abbrev pub at_most : ℕ → ℕ → Option ℕ
at_most most n = cond (leb n most) (Some n) None

-- a field's number, from 0 to `most`, or the first fault of these
unfoldable pub number_of : List ℕ → ℕ → Result ℕ Fault
number_of s most = cond (eqb (length s) 0) (Err Empty) (cond (all_digits s) (ok_or (at_most most (value s)) TooLarge) (Err NotDigit))
