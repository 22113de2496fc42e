-- The numbers of a told sent count in document 01's words: it is accepted exactly where the tests that
-- concern it pass, and each number is given exactly where its sentence is the first to hold.
use Rattle.std.specs.Prelude.{ℕ, ◌≤◌, ◌<◌, true, ◌↔◌, ◌≡◌}
use mathlib.Core.List.{[]}
use Rattle.numbers.specs.Numbers.{refused_sent}
use Rattle.state.specs.declared.State.{State}
use Rattle.answer.specs.Outcome.{Outcome}
use Rattle.law_exact.specs.Words.{StateOk}
use Rattle.law_exact.specs.Numbers.{StateNumbers}

-- "11. A told sent count is below the held one."
abbrev pub BelowHeld : State → ℕ → Type 0
BelowHeld s count = (s.cur.some ≡ true) × (count < s.cur.ep.sent)

-- it is not; without a current epoch none is held
abbrev pub NotBelow : State → ℕ → Type 0
NotBelow s count = s.cur.some ≡ true → s.cur.ep.sent ≤ count

-- 3 to 6 and 11 pass
pub record ToldOk (s : State) (count : ℕ) : Type 0 where
  pub state : StateOk s
  pub held : NotBelow s count

pub record ToldExact (s : State) (count : ℕ) (a : Outcome) : Type 0 where
  pub accepted : (a.number ≡ 0) ↔ ToldOk s count
  -- 3 to 6; nothing is tested before them
  pub state : StateNumbers a.number (Unit {0}) s
  pub below : (a.number ≡ refused_sent) ↔ (StateOk s × BelowHeld s count)
  -- number 1 is never given, and so there is no place
  pub place : a.place ≡ 0
  -- it has no event
  pub silent : a.out ≡ []
  -- the state remains
  pub back : (a.number ≡ 0 → ⊥) → a.state ≡ s
