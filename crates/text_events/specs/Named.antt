-- What is written of an entry of a list.
use Rattle.std.specs.Prelude.{ℕ, ◌≡◌, Bool, false, List, [], ◌∷◌, ◌++◌, eqb, cond}
use Rattle.text_lines.specs.declared.output.Output.{Output}
use Rattle.text_lines.specs.Puts.{Puts}
use Rattle.text_lists.specs.declared.Entry.{Entry}
use Rattle.text_lists.specs.declared.List.{List as Listing}
use Rattle.text_lists.specs.declared.Table.{Table}
use Rattle.text_lists.specs.declared.Table.TheVariants.{Of}
use Rattle.text_lists.specs.declared.List.TheVariants.{Refusals, Places, Cycles}
use Rattle.text_lists.specs.Lists.{has, holds}

-- `unknown` and `no such number`
abbrev pub unknown : List ℕ
unknown = 117 ∷ 110 ∷ 107 ∷ 110 ∷ 111 ∷ 119 ∷ 110 ∷ []

abbrev pub no_such_number : List ℕ
no_such_number = 110 ∷ 111 ∷ 32 ∷ 115 ∷ 117 ∷ 99 ∷ 104 ∷ 32 ∷ 110 ∷ 117 ∷ 109 ∷ 98 ∷ 101 ∷ 114 ∷ []

-- the entry of a number that the list has not
pub record Enters (t : Table) (n : ℕ) (e : Entry) : Type 0 where
  pub name : holds t n ≡ false → e.name.now ≡ unknown
  pub words : holds t n ≡ false → e.words.now ≡ no_such_number

-- the name of an entry
pub record Names {R : Type 0} (t : Table) (n : ℕ) (o o' : Output R) : Type 0 where
  pub entry : Entry
  pub enters : Enters t n entry
  pub puts : Puts (entry.name.now ∷ []) o o'

-- ` name (words)`
abbrev pub case_text : List ℕ → List ℕ → List (List ℕ)
case_text name words = (32 ∷ []) ∷ name ∷ (32 ∷ 40 ∷ []) ∷ words ∷ (41 ∷ []) ∷ []

pub record Cases {R : Type 0} (l : Listing) (n : ℕ) (o o' : Output R) : Type 0 where
  pub entry : Entry
  pub enters : Enters (Of l) n entry
  pub puts : Puts (case_text entry.name.now entry.words.now) o o'

-- ` # ` and a refusal's words, and behind `: ` those of the check, where its place is not 0
abbrev pub refused_text : ℕ → List ℕ → List ℕ → List (List ℕ)
refused_text place words check = (32 ∷ 35 ∷ 32 ∷ []) ∷ words ∷ cond (eqb place 0) [] ((58 ∷ 32 ∷ []) ∷ check ∷ [])

pub record Refuses {R : Type 0} (n place : ℕ) (o o' : Output R) : Type 0 where
  pub refusal : Entry
  pub check : List ℕ
  pub enters : Enters (Of Refusals) n refusal
  pub checks : eqb place 0 ≡ false → has Places place ≡ false → check ≡ no_such_number
  pub puts : Puts (refused_text place refusal.words.now check) o o'

-- ` # cycle name (words)`, and `; the wake has passed` where it has
abbrev pub passed_text : List ℕ
passed_text = 59 ∷ 32 ∷ 116 ∷ 104 ∷ 101 ∷ 32 ∷ 119 ∷ 97 ∷ 107 ∷ 101 ∷ 32 ∷ 104 ∷ 97 ∷ 115 ∷ 32 ∷ 112 ∷ 97 ∷ 115 ∷ 115 ∷ 101 ∷ 100 ∷ []

abbrev pub cycle_text : Bool → List ℕ → List ℕ → List (List ℕ)
cycle_text passed name words = (32 ∷ 35 ∷ 32 ∷ 99 ∷ 121 ∷ 99 ∷ 108 ∷ 101 ∷ []) ∷ case_text name words ++ cond passed (passed_text ∷ []) []

pub record Cycle {R : Type 0} (kind : ℕ) (passed : Bool) (o o' : Output R) : Type 0 where
  pub entry : Entry
  pub enters : Enters (Of Cycles) kind entry
  pub puts : Puts (cycle_text passed entry.name.now entry.words.now) o o'
