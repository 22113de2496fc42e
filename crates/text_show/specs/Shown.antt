-- What is written of the values of a state.
use Rattle.std.specs.Prelude.{ℕ, Bool, List, [], ◌∷◌, ◌++◌, eqb, cond, take, min, length, ℤ, pos, negsuc, ◌+◌}
use Rattle.ladder.specs.declared.Ladder.{Ladder}
use Rattle.epoch.specs.declared.MayLadder.{MayLadder}
use Rattle.epoch.specs.declared.Final.{Final}
use Rattle.text_lines.specs.Outputs.{decimal_of}
use Rattle.text_lines.specs.Puts.{number_text}

-- `idle`, `init`, `pendi`, `pendr`: a number of no kind counts as idle
abbrev pub kind_word : ℕ → List ℕ
kind_word kind = cond (eqb kind 1) (105 ∷ 110 ∷ 105 ∷ 116 ∷ []) (cond (eqb kind 2) (112 ∷ 101 ∷ 110 ∷ 100 ∷ 105 ∷ []) (cond (eqb kind 3) (112 ∷ 101 ∷ 110 ∷ 100 ∷ 114 ∷ []) (105 ∷ 100 ∷ 108 ∷ 101 ∷ [])))

-- ` +` and ` -`
abbrev pub plus : List ℕ
plus = 32 ∷ 43 ∷ []

abbrev pub dash : List ℕ
dash = 32 ∷ 45 ∷ []

abbrev pub there_text : Bool → List (List ℕ)
there_text there = cond there plus dash ∷ []

-- a number with a sign: a dash before what is below 0
abbrev pub signed_text : ℤ → List (List ℕ)
signed_text (pos n) = number_text n
signed_text (negsuc n) = dash ∷ decimal_of (n + 1) ∷ []

-- numbers, each behind a space
abbrev pub numbers_text : List ℕ → List (List ℕ)
numbers_text [] = []
numbers_text (n ∷ more) = number_text n ++ numbers_text more

-- the origin, the cursor, how many offsets there are, the keepalive map, and the offsets below the length
abbrev pub ladder_text : Ladder → List (List ℕ)
ladder_text l = number_text l.origin ++ number_text l.next ++ number_text l.sched.len ++ number_text l.sched.keepalive ++ numbers_text (take (min l.sched.len (length l.sched.at)) l.sched.at)

-- whether it is there, and the ladder only where it is
abbrev pub may_ladder_text : MayLadder → List (List ℕ)
may_ladder_text m = there_text m.some ++ cond m.some (ladder_text m.ladder) []

abbrev pub final_text : Final → List (List ℕ)
final_text f = there_text f.some ++ cond f.some (number_text f.msg ++ ladder_text f.ladder) []
