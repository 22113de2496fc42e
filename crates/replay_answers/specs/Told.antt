-- What a call is answered in the replay format, and which state it leaves.
use Rattle.std.specs.Prelude.{ℕ, ◌≡◌, false, List, [], ◌∷◌, ◌++◌, eqb, cond, Option, Some, None}
use Rattle.time.specs.Options.{option_of}
use Rattle.state.specs.declared.State.{State}
use Rattle.answer.specs.Outcome.{Outcome}
use Rattle.call_read.specs.declared.Woke.{Woke}
use Rattle.call_read.specs.declared.Shown.{Shown}
use Rattle.text_lines.specs.declared.output.Output.{Output}
use Rattle.text_lines.specs.Puts.{Puts, number_text, optional_text}

-- `= count`, how many items the passes of a poll listed, and a newline
abbrev pub count_text : ℕ → List (List ℕ)
count_text count = (61 ∷ 32 ∷ 99 ∷ 111 ∷ 117 ∷ 110 ∷ 116 ∷ []) ∷ number_text count ++ ((10 ∷ []) ∷ [])

-- `= refused`, the number and the place of its check, each behind a space, and a newline
abbrev pub refused_text : ℕ → ℕ → List (List ℕ)
refused_text number place = (61 ∷ 32 ∷ 114 ∷ 101 ∷ 102 ∷ 117 ∷ 115 ∷ 101 ∷ 100 ∷ []) ∷ number_text number ++ number_text place ++ ((10 ∷ []) ∷ [])

-- `= wake` and the wake, or ` none`
abbrev pub woke_text : Woke → List (List ℕ)
woke_text w = cond (eqb w.number 0) ((61 ∷ 32 ∷ 119 ∷ 97 ∷ 107 ∷ 101 ∷ []) ∷ optional_text (option_of w.at) (32 ∷ 110 ∷ 111 ∷ 110 ∷ 101 ∷ []) ++ ((10 ∷ []) ∷ [])) (refused_text w.number w.place)

-- ` -`
abbrev pub dash : List ℕ
dash = 32 ∷ 45 ∷ []

-- `= status`, the current tag, the cycle's kind, the wake and the quiet time, ` -` for one that is absent
abbrev pub shown_text : Shown → List (List ℕ)
shown_text s = cond (eqb s.number 0) ((61 ∷ 32 ∷ 115 ∷ 116 ∷ 97 ∷ 116 ∷ 117 ∷ 115 ∷ []) ∷ optional_text (option_of s.tag) dash ++ number_text s.kind ++ optional_text (option_of s.wake) dash ++ optional_text (option_of s.quiet) dash ++ ((10 ∷ []) ∷ [])) (refused_text s.number s.place)

-- of a call that is accepted the state that it leaves; one that is sent back leaves none, and its number and place are all that is written
pub record Hands {R : Type 0} (a : Outcome) (given : Option State) (o o' : Output R) : Type 0 where
  pub left : given ≡ cond (eqb a.number 0) (Some a.state) None
  pub refused : eqb a.number 0 ≡ false → Puts (refused_text a.number a.place) o o'

-- a call that is read leaves no state
pub record Reads {R : Type 0} (pieces : List (List ℕ)) (given : Option State) (o o' : Output R) : Type 0 where
  pub left : given ≡ None
  pub puts : Puts pieces o o'
