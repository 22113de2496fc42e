-- What the words of a command line ask for.
use Rattle.std.specs.Prelude.{ℕ, Bool, List, [], ◌∷◌, ◌||◌}
use Rattle.std.specs.Str.{bytes_eq}

-- `--help` and `-h` ask for help
abbrev pub asks_help : List ℕ → Bool
asks_help w = bytes_eq w (45 ∷ 45 ∷ 104 ∷ 101 ∷ 108 ∷ 112 ∷ []) || bytes_eq w (45 ∷ 104 ∷ [])

-- `-` stands for standard input
abbrev pub is_standard : List ℕ → Bool
is_standard w = bytes_eq w (45 ∷ [])
