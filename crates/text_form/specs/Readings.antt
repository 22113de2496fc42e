-- What the values of a line are read as, and where the reader stands then.
use Rattle.std.specs.Prelude.{ℕ, Bool, cond, List, [], ◌∷◌, Option, None, Result, Ok}
use Rattle.text.specs.declared.fault.Fault.{Fault}
use Rattle.text.specs.Scans.{accept_at, number_at, some_of}

-- the word for a value that is absent: `none` where values have names, else `-`
abbrev pub absent_word : Bool → List ℕ
absent_word named = cond named (110 ∷ 111 ∷ 110 ∷ 101 ∷ []) (45 ∷ [])

-- a number up to `most`, or none where the word for an absent value stands there
abbrev pub optional_at : Bool → List ℕ → ℕ → ℕ → Result (Option ℕ) Fault
optional_at named line at most = cond (accept_at line at (absent_word named)) (Ok None) (some_of (number_at line at most))
