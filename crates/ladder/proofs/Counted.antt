-- The number of rungs taken: how far the cursor moves, and which rungs these are.
use Rattle.std.specs.Prelude.{ℕ, zero, suc, ◌+◌, Bool, ◌≡◌, ltb, length}
use Rattle.std.proofs.Math.Bool.{true, false}
use Rattle.std.proofs.Math.Path.{refl, ap}
use Rattle.std.proofs.Common.{sym, ◌∙◌, zero-add, arith, lt-ltb}
use mathlib.Core.List.{List, [], ◌∷◌}
use Rattle.std.proofs.Math.ListN.{take, drop}
use Rattle.std.proofs.Math.Seq.{drop-nil}
use Rattle.time.specs.Pick.{pick}
use Rattle.time.specs.Lists.{fold, kept, take_while}
use Rattle.time.specs.Time.{reached_of}
use Rattle.ladder.specs.declared.Ladder.{Ladder}
use Rattle.ladder.specs.Took.{Taking}
use Rattle.ladder.specs.Schedule.{Rung, max_rungs, rungs_of}
use Rattle.ladder.specs.Ladder.{remaining, first_at, next_at_of, due_of, is_due, due_rungs, taking, untaken, take_of}
use Rattle.ladder.specs.Taken.{Counted}

-- ---- lists

drop_more : {A : Type 0} (i n : ℕ) (l : List A) → drop (i + n) l ≡ drop n (drop i l)
drop_more zero n l = rw (zero-add n)
drop_more (suc i) n [] = drop-nil (suc i + n) ∙ sym (drop-nil n)
drop_more (suc i) n (a ∷ l) =
    let e : suc i + n ≡ suc (i + n) = omega arith in
    rw e (drop_more i n l)

-- the elements up to the first that a test does not hold of are the first so many, and it holds of each
module _ {A : Type 0} (p : A → Bool) where
  while_first : (l : List A) → take (length (take_while p l)) l ≡ take_while p l
  unfolding take_while
  while_first [] = refl
  while_first (a ∷ l) = under (p a) (while_first l)
    where
      under : (q : Bool) → take (length (take_while p l)) l ≡ take_while p l → take (length (pick q (a ∷ take_while p l) [])) (a ∷ l) ≡ pick q (a ∷ take_while p l) []
      under true e = ap (λ r. a ∷ r) e
      under false e = refl

  while_holds : (l : List A) → kept p (take_while p l) ≡ take_while p l
  unfolding take_while kept
  while_holds [] = refl
  while_holds (a ∷ l) = under (p a) refl (while_holds l)
    where
      under : (q : Bool) → p a ≡ q → kept p (take_while p l) ≡ take_while p l → kept p (pick q (a ∷ take_while p l) []) ≡ pick q (a ∷ take_while p l) []
      under true e rest = rw (e, rest)
      under false e rest = refl

-- ---- rungs taken one by one

-- the cursor moves by one for each rung taken
pub cursor-after : (t : Taking) (l : List Rung) → (fold taking t l).next ≡ t.next + length l
unfolding fold taking
cursor-after t [] = omega arith
cursor-after t (r ∷ l) = cursor-after (taking t r) l ∙ omega arith

-- some rung was due where one is taken
pub any-after : (t : Taking) (l : List Rung) → t.any ≡ true → (fold taking t l).any ≡ true
unfolding fold taking
any-after t [] e = e
any-after t (r ∷ l) e = any-after (taking t r) l refl

any_of : (l : Ladder) (v : List Rung) → (fold taking (untaken l) v).any ≡ ltb 0 (length v)
unfolding fold taking
any_of l [] = refl
any_of l (r ∷ v) = any-after (taking (untaken l) r) v refl ∙ sym (lt-ltb 0 (suc (length v)) (omega arith))

-- past the rungs that are due the first is not
first_past : (origin now : ℕ) (l : List Rung) → reached_of (first_at origin (drop (length (take_while (is_due origin now) l)) l)) now ≡ false
unfolding take_while
first_past origin now [] = refl
first_past origin now (r ∷ l) = under (is_due origin now r) refl (first_past origin now l)
  where
    under : (b : Bool) → is_due origin now r ≡ b → reached_of (first_at origin (drop (length (take_while (is_due origin now) l)) l)) now ≡ false → reached_of (first_at origin (drop (length (pick b (r ∷ take_while (is_due origin now) l) [])) (r ∷ l))) now ≡ false
    under true e rest = rest
    under false e rest = e

module _ (l : Ladder) (now : ℕ) where
  cursor-moves : (take_of l now).ladder.next ≡ l.next + (take_of l now).taken
  unfolding take_of
  cursor-moves = cursor-after (untaken l) (due_rungs l now)

  rungs-left : remaining (take_of l now).ladder ≡ drop (take_of l now).taken (remaining l)
  unfolding take_of remaining
  rungs-left =
      ap (λ n. drop n (rungs_of max_rungs l.sched)) cursor-moves
      ∙ drop_more l.next (length (due_rungs l now)) (rungs_of max_rungs l.sched)

  none-due : due_of (take_of l now).ladder now ≡ false
  unfolding due_of next_at_of take_of due_rungs
  none-due = ap (λ r. reached_of (first_at l.origin r) now) rungs-left ∙ first_past l.origin now (remaining l)

  pub counted : Counted l now
  unfolding take_of due_rungs
  counted =
      record {
        moved = omega (arith, cursor-moves);
        onward = omega (arith, cursor-moves);
        rungs = while_first (is_due l.origin now) (remaining l);
        left = rungs-left;
        due = while_holds (is_due l.origin now) (remaining l);
        past = none-due;
        whether = any_of l (due_rungs l now);
      }
