-- What a function promises that puts pieces of text behind one another.
use Rattle.std.specs.Prelude.{ℕ, ◌≡◌, List, [], ◌∷◌, ◌++◌, Option, Some, None}
use Rattle.text_lines.specs.Outputs.{held, held_to, decimal_of}
use Rattle.text_lines.specs.declared.output.Output.{Output}

-- what a buffer holds once the pieces are put, each as `held` says, and up to which index
abbrev pub all_held : List ℕ → ℕ → List (List ℕ) → List ℕ
all_held d at [] = d
all_held d at (s ∷ more) = all_held (held d at s) (held_to d at s) more

abbrev pub all_held_to : List ℕ → ℕ → List (List ℕ) → ℕ
all_held_to d at [] = at
all_held_to d at (s ∷ more) = all_held_to (held d at s) (held_to d at s) more

-- the pieces were put, and nothing else
pub record Puts {R : Type 0} (pieces : List (List ℕ)) (o o' : Output R) : Type 0 where
  pub same_reference : o'.buffer.ghost_name ≡ o.buffer.ghost_name
  pub buffer : o'.buffer.now ≡ all_held o.buffer.now o.at pieces
  pub at : o'.at ≡ all_held_to o.buffer.now o.at pieces

-- the pieces of `front` were put, and then maybe more
pub record Begins {R : Type 0} (front : List (List ℕ)) (o o' : Output R) : Type 0 where
  pub more : List (List ℕ)
  pub puts : Puts (front ++ more) o o'

-- once `rest` is put too, what stands there is what `whole` puts from the start
pub record Leaves {R : Type 0} (rest whole : List (List ℕ)) (start o : Output R) : Type 0 where
  pub same_reference : o.buffer.ghost_name ≡ start.buffer.ghost_name
  pub buffer : all_held o.buffer.now o.at rest ≡ all_held start.buffer.now start.at whole
  pub at : all_held_to o.buffer.now o.at rest ≡ all_held_to start.buffer.now start.at whole

-- the pieces of a space (32) and a number
abbrev pub number_text : ℕ → List (List ℕ)
number_text n = (32 ∷ []) ∷ decimal_of n ∷ []

-- the same of a number that may be absent, in whose place the bytes `none` stand
abbrev pub optional_text : Option ℕ → List ℕ → List (List ℕ)
optional_text (Some n) none = number_text n
optional_text None none = none ∷ []
