-- A line read field by field: what each reading answers, and where the scan stands then.
use Rattle.std.specs.Prelude.{ℕ, ℤ, Bool, false, cond, List, [], ◌∷◌, length, leb, Option, Some, None, Result, Ok, Err}
use Rattle.std.specs.List.{position, find}
use Rattle.std.specs.Str.{bytes_eq}
use Rattle.std.specs.Option.{ok_or, option_map}
use Rattle.text.specs.declared.fault.Fault.{Fault}
use Rattle.text.specs.declared.fault.Fault.TheVariants.{Missing, Extra, NotWord}
use Rattle.text.specs.declared.field.Field.{Field}
use Rattle.text.specs.Fields.{field_at, next_of, bytes_of}
use Rattle.text.specs.Signs.{signed_of}
use Rattle.text.specs.Numbers.{number_of}

-- the scan moves past the field at `at` where something is read, and else stays
abbrev pub place_where : List ℕ → ℕ → Bool → ℕ
place_where line at read = cond read (next_of line at) at

abbrev pub place_after : {A : Type 0} → List ℕ → ℕ → Result A Fault → ℕ
place_after line at (Ok v) = next_of line at
place_after line at (Err f) = at

-- what a field's bytes are read as; a field that is not there is missing
abbrev pub in_field : {A : Type 0} → List ℕ → (List ℕ → Result A Fault) → Option Field → Result A Fault
in_field line read None = Err Missing
in_field line read (Some f) = read (bytes_of line f)

-- a number from 0 to `most`
abbrev pub number_at : List ℕ → ℕ → ℕ → Result ℕ Fault
number_at line at most = in_field line (λ s. number_of s most) (field_at line at)

-- a number with a sign
abbrev pub signed_at : List ℕ → ℕ → Result ℤ Fault
signed_at line at = in_field line signed_of (field_at line at)

abbrev pub is_word : List ℕ → List ℕ → Option Field → Bool
is_word line word None = false
is_word line word (Some f) = bytes_eq (bytes_of line f) word

-- whether the next field is `word`
abbrev pub accept_at : List ℕ → ℕ → List ℕ → Bool
accept_at line at word = is_word line word (field_at line at)

-- the place of w among `words`
abbrev pub place_of : List (List ℕ) → List ℕ → Option ℕ
place_of words w = position (λ x. bytes_eq x w) words

-- which of `words` the next field is
abbrev pub word_at : List ℕ → ℕ → List (List ℕ) → Result ℕ Fault
word_at line at words = in_field line (λ s. ok_or (place_of words s) NotWord) (field_at line at)

-- the value of the first of `rows` whose word is w
abbrev pub entry_of : {T : Type 0} → List (List ℕ × T) → List ℕ → Option T
entry_of rows w = option_map (λ row. row.1) (find (λ row. bytes_eq row.0 w) rows)

-- the value of the row whose word the next field is
abbrev pub entry_in : {T : Type 0} → List (List ℕ × T) → List ℕ → Option Field → Option T
entry_in rows line None = None
entry_in rows line (Some f) = entry_of rows (bytes_of line f)

abbrev pub entry_at : {T : Type 0} → List ℕ → ℕ → List (List ℕ × T) → Option T
entry_at line at rows = entry_in rows line (field_at line at)

abbrev pub some_of : Result ℕ Fault → Result (Option ℕ) Fault
some_of (Ok n) = Ok (Some n)
some_of (Err f) = Err f

-- a number, or none where the field is `-` (45)
abbrev pub optional_at : List ℕ → ℕ → Result (Option ℕ) Fault
optional_at line at = cond (accept_at line at (45 ∷ [])) (Ok None) (some_of (number_at line at 18446744073709551615))

-- no field is left
abbrev pub end_at : List ℕ → ℕ → Result Unit Fault
end_at line at = cond (leb at (length line)) (Err Extra) (Ok tt)
