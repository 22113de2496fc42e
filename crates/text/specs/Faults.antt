-- The faults by number.
use Rattle.std.specs.Prelude.{ℕ, Option, Some, None, cond, ltb}
use Rattle.text.specs.declared.fault.Fault.{Fault}
use Rattle.text.specs.declared.fault.Fault.TheVariants.{Missing, Empty, NotDigit, TooLarge, Extra, NotWord, NotHex, Twice}

-- the number of a fault; 0 where there is none
abbrev pub fault_no : Option Fault → ℕ
fault_no None = 0
fault_no (Some Missing) = 1
fault_no (Some Empty) = 2
fault_no (Some NotDigit) = 3
fault_no (Some TooLarge) = 4
fault_no (Some Extra) = 5
fault_no (Some NotWord) = 6
fault_no (Some NotHex) = 7
fault_no (Some Twice) = 8

-- the number of the fault that a number stands for: its own, and that of a word that is not known past the list
abbrev pub fault_told : ℕ → ℕ
fault_told n = cond (ltb n 9) n (fault_no (Some NotWord))
