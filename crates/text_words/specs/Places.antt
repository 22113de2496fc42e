-- What an argument is in a row and on a line.
use Rattle.std.specs.Prelude.{ℕ, ◌+◌, Bool, true, false, List, [], ◌∷◌}
use Rattle.text_words.specs.declared.Kind.{Kind}
use Rattle.text_words.specs.declared.Kind.TheVariants.{Number, Signed, Optional, Buffer, Choice}
use Rattle.text_words.specs.declared.Default.{Default}
use Rattle.text_words.specs.declared.Default.TheVariants.{Place, Kept, Value, None, Tag}
use Rattle.text_words.specs.declared.Argument.{Argument}

-- how many numbers of a row hold a value: a number that may be absent takes two
abbrev pub width_of : Kind → ℕ
width_of (Number _) = 1
width_of Signed = 1
width_of (Optional _) = 2
width_of (Buffer _) = 1
width_of (Choice _) = 1

abbrev pub widths : List Argument → ℕ
widths [] = 0
widths (a ∷ more) = width_of a.kind + widths more

-- whether an argument stands by place in both programs
abbrev pub has_place : Default → Bool
has_place Place = true
has_place Kept = true
has_place (Value _) = false
has_place None = false
has_place Tag = false
