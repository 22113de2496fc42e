-- What a call on a link is told, and which state it leaves.
use Rattle.std.specs.Prelude.{ℕ, ◌≡◌, Bool, true, false, List, [], ◌∷◌, ◌++◌, eqb, cond, Option, Some, None}
use Rattle.time.specs.Options.{option_of}
use Rattle.state.specs.declared.State.{State}
use Rattle.answer.specs.Outcome.{Outcome}
use Rattle.call_read.specs.declared.Woke.{Woke}
use Rattle.call_read.specs.declared.Shown.{Shown}
use Rattle.text_lines.specs.declared.output.Output.{Output}
use Rattle.text_lines.specs.Outputs.{decimal_of}
use Rattle.text_lines.specs.Puts.{Puts, Begins, number_text, optional_text}
use Rattle.text_lists.specs.declared.Entry.{Entry}
use Rattle.text_lists.specs.declared.List.TheVariants.{Cycles}
use Rattle.text_lists.specs.declared.Table.TheVariants.{Of}
use Rattle.text_events.specs.Named.{Enters}
use Rattle.runs_telling.specs.declared.Head.{Head}

-- pieces that stand only where they are asked for
pub record Adds {R : Type 0} (asked : Bool) (o o' : Output R) : Type 0 where
  pub more : List (List ℕ)
  pub puts : Puts more o o'
  pub plain : asked ≡ false → more ≡ []

-- the number of the call and its instant, and what stands behind them
abbrev pub head_text : Head → List ℕ → List (List ℕ)
head_text h behind = decimal_of h.call ∷ number_text h.time ++ (behind ∷ [])

-- ` refused`, ` wake`, ` none`, ` status tag`, ` cycle `, ` quiet`, ` 0` and a newline, a newline
abbrev pub refused_word : List ℕ
refused_word = 32 ∷ 114 ∷ 101 ∷ 102 ∷ 117 ∷ 115 ∷ 101 ∷ 100 ∷ []

abbrev pub wake_word : List ℕ
wake_word = 32 ∷ 119 ∷ 97 ∷ 107 ∷ 101 ∷ []

abbrev pub none_word : List ℕ
none_word = 32 ∷ 110 ∷ 111 ∷ 110 ∷ 101 ∷ []

abbrev pub status_words : List ℕ
status_words = 32 ∷ 115 ∷ 116 ∷ 97 ∷ 116 ∷ 117 ∷ 115 ∷ 32 ∷ 116 ∷ 97 ∷ 103 ∷ []

abbrev pub cycle_word : List ℕ
cycle_word = 32 ∷ 99 ∷ 121 ∷ 99 ∷ 108 ∷ 101 ∷ 32 ∷ []

abbrev pub quiet_word : List ℕ
quiet_word = 32 ∷ 113 ∷ 117 ∷ 105 ∷ 101 ∷ 116 ∷ []

abbrev pub zero_line : List ℕ
zero_line = 32 ∷ 48 ∷ 10 ∷ []

abbrev pub line : List ℕ
line = 10 ∷ []

-- a refusal: its number and the place of its check, each behind a space
abbrev pub refused_text : Head → ℕ → ℕ → List (List ℕ)
refused_text h number place = head_text h refused_word ++ number_text number ++ number_text place

pub record Refuses {R : Type 0} (h : Head) (number place : ℕ) (o o' : Output R) : Type 0 where
  pub more : List (List ℕ)
  pub puts : Puts (refused_text h number place ++ more ++ (line ∷ [])) o o'
  pub plain : h.explain ≡ false → more ≡ []

-- the wake, or ` none`
pub record Wakes {R : Type 0} (h : Head) (w : Woke) (o o' : Output R) : Type 0 where
  pub accepted : eqb w.number 0 ≡ true → Puts (head_text h wake_word ++ optional_text (option_of w.at) none_word ++ (zero_line ∷ [])) o o'
  pub refused : eqb w.number 0 ≡ false → Refuses h w.number w.place o o'

-- the link line: the current tag, the name of the cycle's kind, the wake and the quiet time
abbrev pub status_text : Head → Shown → List ℕ → List (List ℕ)
status_text h s name = head_text h status_words ++ optional_text (option_of s.tag) none_word ++ (cycle_word ∷ name ∷ wake_word ∷ optional_text (option_of s.wake) none_word ++ (quiet_word ∷ optional_text (option_of s.quiet) none_word))

pub record Status {R : Type 0} (h : Head) (s : Shown) (o o' : Output R) : Type 0 where
  pub entry : Entry
  pub more : List (List ℕ)
  pub enters : Enters (Of Cycles) s.kind entry
  pub puts : Puts (status_text h s entry.name.now ++ more ++ (line ∷ [])) o o'
  pub plain : h.explain ≡ false → more ≡ []

pub record Shows {R : Type 0} (h : Head) (s : Shown) (o o' : Output R) : Type 0 where
  pub accepted : eqb s.number 0 ≡ true → Status h s o o'
  pub refused : eqb s.number 0 ≡ false → Refuses h s.number s.place o o'

-- of a call that is accepted the state that it leaves; one that is sent back leaves none, and its number and place are told
pub record Hands {R : Type 0} (h : Head) (a : Outcome) (given : Option State) (o o' : Output R) : Type 0 where
  pub left : given ≡ cond (eqb a.number 0) (Some a.state) None
  pub refused : eqb a.number 0 ≡ false → Refuses h a.number a.place o o'
  pub begins : Begins [] o o'
