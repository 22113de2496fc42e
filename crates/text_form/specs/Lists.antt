-- What a line can name.
use Rattle.std.specs.Prelude.{ℕ, List, [], ◌∷◌, ◌++◌, length, ltb}
use Rattle.time.specs.Pick.{pick}
use Rattle.text_words.specs.declared.Kind.{Kind}
use Rattle.text_words.specs.declared.Kind.TheVariants.{Number, Signed, Optional, Buffer, Choice}
use Rattle.text_words.specs.declared.Argument.{Argument}
use Rattle.text_words.specs.Places.{has_place}

-- no line has more names
abbrev pub most_names : ℕ
most_names = 32

-- a word more, while there is room
abbrev pub with_word : List (List ℕ) → List ℕ → List (List ℕ)
with_word words w = pick (ltb (length words) most_names) (words ++ (w ∷ [])) words

-- the word that an argument has on a line, or both words of a choice
abbrev pub with_named : List (List ℕ) → List ℕ → Kind → List (List ℕ)
with_named words name (Number _) = with_word words name
with_named words name Signed = with_word words name
with_named words name (Optional _) = with_word words name
with_named words name (Buffer _) = with_word words name
with_named words name (Choice c) = with_word (with_word words c.one.now) c.zero.now

-- arguments that stand by place have no name
abbrev pub told : List (List ℕ) → List Argument → List (List ℕ)
told words [] = words
told words (a ∷ more) = told (pick (has_place a.default) words (with_named words a.name.now a.kind)) more
