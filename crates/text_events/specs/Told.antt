-- What is written of an event.
use Rattle.std.specs.Prelude.{ℕ, ◌≡◌, Bool, true, false, List, [], ◌∷◌, ◌++◌, ltb, eqb, cond, drop, get_or, Option, Some, None, unwrap_or}
use Rattle.text_lines.specs.declared.output.Output.{Output}
use Rattle.text_lines.specs.Puts.{Puts, number_text, optional_text}
use Rattle.text_lists.specs.declared.Field.{Field}
use Rattle.text_lists.specs.declared.Sign.{Sign}
use Rattle.text_lists.specs.declared.Sign.TheVariants.{Number, MayNumber, Tag, MayTag, Case, Zero}
use Rattle.text_lists.specs.declared.List.{List as Listing}
use Rattle.text_lists.specs.declared.List.TheVariants.{Messages, Slots, Purposes, Roles, Evidence, Reasons, Causes, Teardowns, Starts, Cycles, Waits, Refusals, Places}
use Rattle.text_lists.specs.Lists.{events_count, width_of}
use Rattle.text_events.specs.Named.{unknown}
use Rattle.text_events.specs.declared.event.Told.{Told}
use Rattle.text_events.specs.declared.event.Column.{Column}

-- the words of an event's fields stand behind its number; a number that the list has not names an unknown event, which has no fields
pub record Reads (ws : List ℕ) (t : Told) : Type 0 where
  pub words : t.words.now ≡ drop 1 ws
  pub name : ltb (get_or ws 0 events_count) events_count ≡ false → t.event.entry.name.now ≡ unknown
  pub fields : ltb (get_or ws 0 events_count) events_count ≡ false → t.event.fields.now ≡ []

-- the number behind a word that is 1, if there is one
abbrev pub number_behind : List ℕ → Option ℕ
number_behind [] = None
number_behind (there ∷ []) = None
number_behind (there ∷ n ∷ more) = cond (eqb there 1) (Some n) None

abbrev pub first_number : List ℕ → Option ℕ
first_number [] = None
first_number (n ∷ more) = Some n

-- what a field tells whose words stand first among ws; nothing where it is absent
abbrev pub value_of : Sign → List ℕ → Option ℕ
value_of Number ws = first_number ws
value_of MayNumber ws = number_behind ws
value_of Tag ws = first_number ws
value_of MayTag ws = number_behind ws
value_of (Case _) ws = first_number ws
value_of Zero ws = Some 0

-- the values of the fields, each behind a space, and a dash (45) for one that is absent
abbrev pub values_text : List Field → List ℕ → List (List ℕ)
values_text [] ws = []
values_text (f ∷ more) ws = optional_text (value_of f.sign ws) (32 ∷ 45 ∷ []) ++ values_text more (drop (width_of f.sign) ws)

-- `= e `, the name, the values and a newline
abbrev pub event_text : Told → List (List ℕ)
event_text t = (61 ∷ 32 ∷ 101 ∷ 32 ∷ []) ∷ t.event.entry.name.now ∷ values_text t.event.fields.now t.words.now ++ ((10 ∷ []) ∷ [])

abbrev pub is_evidence : Listing → Bool
is_evidence Messages = false
is_evidence Slots = false
is_evidence Purposes = false
is_evidence Roles = false
is_evidence Evidence = true
is_evidence Reasons = false
is_evidence Causes = false
is_evidence Teardowns = false
is_evidence Starts = false
is_evidence Cycles = false
is_evidence Waits = false
is_evidence Refusals = false
is_evidence Places = false

-- which fields a column has: a tag that may be absent too, and a case of the list of evidence
abbrev pub is_tag : Sign → Bool
is_tag Number = false
is_tag MayNumber = false
is_tag Tag = true
is_tag MayTag = true
is_tag (Case _) = false
is_tag Zero = false

abbrev pub tells_evidence : Sign → Bool
tells_evidence Number = false
tells_evidence MayNumber = false
tells_evidence Tag = false
tells_evidence MayTag = false
tells_evidence (Case l) = is_evidence l
tells_evidence Zero = false

abbrev pub in_column : Column → Sign → Bool
in_column Column.Tag s = is_tag s
in_column Column.Evidence s = tells_evidence s

-- the value of the first field of a column, 0 where it is absent or there is none
abbrev pub column_of : Column → List Field → List ℕ → ℕ
column_of c [] ws = 0
column_of c (f ∷ more) ws = cond (in_column c f.sign) (unwrap_or (value_of f.sign ws) 0) (column_of c more (drop (width_of f.sign) ws))

-- name, tag and evidence
abbrev pub columns_text : Told → List (List ℕ)
columns_text t = t.event.entry.name.now ∷ number_text (column_of Column.Tag t.event.fields.now t.words.now) ++ number_text (column_of Column.Evidence t.event.fields.now t.words.now)

-- an event in columns, and more only where it is to be explained
pub record Explains {R : Type 0} (t : Told) (explain : Bool) (o o' : Output R) : Type 0 where
  pub more : List (List ℕ)
  pub puts : Puts (columns_text t ++ more) o o'
  pub plain : explain ≡ false → more ≡ []

abbrev pub colon : List Field → List (List ℕ)
colon [] = []
colon (f ∷ more) = (58 ∷ []) ∷ []

-- ` # `, what the event means, and `:` where fields follow
abbrev pub meaning_front : Told → List (List ℕ)
meaning_front t = (32 ∷ 35 ∷ 32 ∷ []) ∷ t.event.entry.words.now ∷ colon t.event.fields.now

-- ` none`
abbrev pub none_text : List ℕ
none_text = 32 ∷ 110 ∷ 111 ∷ 110 ∷ 101 ∷ []

-- how the value of a field begins: a case is told by its name, which a space stands before
abbrev pub value_front : Sign → Option ℕ → List (List ℕ)
value_front (Case _) (Some n) = (32 ∷ []) ∷ []
value_front (Case _) None = none_text ∷ []
value_front Number v = optional_text v none_text
value_front MayNumber v = optional_text v none_text
value_front Tag v = optional_text v none_text
value_front MayTag v = optional_text v none_text
value_front Zero v = []

abbrev pub named_front : Sign → List ℕ → List (List ℕ) → List (List ℕ)
named_front Number name value = (32 ∷ []) ∷ name ∷ value
named_front MayNumber name value = (32 ∷ []) ∷ name ∷ value
named_front Tag name value = (32 ∷ []) ∷ name ∷ value
named_front MayTag name value = (32 ∷ []) ∷ name ∷ value
named_front (Case _) name value = (32 ∷ []) ∷ name ∷ value
named_front Zero name value = []

-- how a field begins: its name behind a space; what is always 0 is left out
abbrev pub field_front : Field → Option ℕ → List (List ℕ)
field_front f v = named_front f.sign f.name.now (value_front f.sign v)
