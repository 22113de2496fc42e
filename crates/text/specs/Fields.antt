-- Where the fields of a line begin and end. A line is the list of its bytes; a space is 32.
use Rattle.std.specs.Prelude.{ℕ, ◌+◌, ◌-◌, ◌≤◌, Bool, cond, ◌≡◌, List, [], length, take, drop, leb, ltb, Option, Some, None, ◌==◌}
use Rattle.std.specs.List.{count_by}
use Rattle.text.specs.Bytes.{index_of}
use Rattle.text.specs.declared.field.Field.{Field}

-- the first space from `at` on, or the end of the line
abbrev pub field_end : List ℕ → ℕ → ℕ
field_end line at = at + index_of 32 (drop at line)

-- where the field after that at `at` starts
abbrev pub next_of : List ℕ → ℕ → ℕ
next_of line at = field_end line at + 1

abbrev pub found : ℕ → ℕ → Field
found at end = record { start = at; end = end; next = end + 1 }

-- the field that starts at `at`, where that is no further than the end of the line
unfoldable pub field_at : List ℕ → ℕ → Option Field
field_at line at = cond (leb at (length line)) (Some (found at (field_end line at))) None

-- a field that is there lies within its line
pub record Within (line : List ℕ) (at : ℕ) (f : Field) : Type 0 where
  pub starts : f.start ≡ at
  pub ends : f.start ≤ f.end
  pub inside : f.end ≤ length line
  pub next : f.next ≡ next_of line at

-- the bytes of a field
abbrev pub bytes_of : List ℕ → Field → List ℕ
bytes_of line f = take (f.end - f.start) (drop f.start line)

abbrev pub bytes_in : List ℕ → Option Field → List ℕ
bytes_in line None = []
bytes_in line (Some f) = bytes_of line f

-- the bytes of the field at `at`; none where there is no such field
abbrev pub bytes_at : List ℕ → ℕ → List ℕ
bytes_at line at = bytes_in line (field_at line at)

abbrev pub one : Bool → ℕ
one t = cond t 1 0

-- the number of the field at `at`: one more than the spaces before it, and one more again where the end of the line is before it
abbrev pub ordinal_of : List ℕ → ℕ → ℕ
ordinal_of line at = 1 + count_by (λ b. b == 32) (take at line) + one (ltb (length line) at)
