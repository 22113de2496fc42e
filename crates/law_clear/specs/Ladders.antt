-- "Taking rungs moves the ladder past every due rung": what is taken, and that none is due after.
use Rattle.std.specs.Prelude.{ℕ, Bool, ◌≡◌}
use Rattle.std.proofs.Math.Bool.{true, false}
use Rattle.std.proofs.lemmas.Bool.{false≢true}
use Rattle.std.proofs.Math.Path.{refl}
use mathlib.Core.List.{List, [], ◌∷◌}
use Rattle.time.specs.Pick.{pick}
use Rattle.time.specs.Lists.{fold, take_while}
use Rattle.time.specs.Time.{reached_of}
use Rattle.ladder.specs.declared.Ladder.{Ladder}
use Rattle.ladder.specs.Schedule.{Rung}
use Rattle.ladder.specs.Ladder.{remaining, first_at, next_at_of, due_of, is_due, due_rungs, taking, untaken, take_of}
use Rattle.ladder.proofs.Counted.{any-after, counted}

module _ (l : Ladder) (now : ℕ) where
  pub take_past : reached_of (next_at_of (take_of l now).ladder) now ≡ false
  unfolding due_of
  take_past = (counted l now).past

  pub take-any : reached_of (next_at_of l) now ≡ true → (take_of l now).any ≡ true
  unfolding next_at_of take_of due_rungs taking take_while fold
  take-any = under (remaining l)
    where
      under : (r : List Rung) → reached_of (first_at l.origin r) now ≡ true → (fold taking (untaken l) (take_while (is_due l.origin now) r)).any ≡ true
      under [] e = absurd (false≢true e)
      under (r ∷ m) e = some (is_due l.origin now r) e
        where
          some : (b : Bool) → b ≡ true → (fold taking (untaken l) (pick b (r ∷ take_while (is_due l.origin now) m) [])).any ≡ true
          some true e = any-after (taking (untaken l) r) (take_while (is_due l.origin now) m) refl
          some false e = absurd (false≢true e)
