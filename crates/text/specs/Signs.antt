-- The number that a field's bytes stand for, with `-` (45) before the digits where it is below 0.
use Rattle.std.specs.Prelude.{ℕ, ℤ, Bool, cond, List, get_or, drop, eqb, pos, neg_ℤ, Result, Ok, Err}
use Rattle.text.specs.declared.fault.Fault.{Fault}
use Rattle.text.specs.Numbers.{number_of}

abbrev pub plus : Result ℕ Fault → Result ℤ Fault
plus (Ok n) = Ok (pos n)
plus (Err f) = Err f

abbrev pub minus : Result ℕ Fault → Result ℤ Fault
minus (Ok n) = Ok (neg_ℤ (pos n))
minus (Err f) = Err f

abbrev pub is_minus : List ℕ → Bool
is_minus s = eqb (get_or s 0 0) 45

unfoldable pub signed_of : List ℕ → Result ℤ Fault
signed_of s = cond (is_minus s) (minus (number_of (drop 1 s) 2147483648)) (plus (number_of s 2147483647))
