-- What std's methods of slices answer, in the words of the definitions.
use Prim.Native.Nat.{ℕ, zero, suc, ◌<◌, ◌+◌}
use Rattle.std.specs.Prelude.{Option, Some, None, unwrap_or, Bool, true, false, not, cond, ◌||◌, ◌≡◌, refl, get_or, take, leb, ltb, eqb}
use Rattle.std.specs.List.{position, position_or_len, list_any, reduce, fold, IsAllAdjacentAnswer}
use Rattle.std.proofs.Common.{sym, ◌∙◌, ap, arith, ltb-false}
use Rattle.std.proofs.lemmas.List.Recursion.{is_position_or_len}
use mathlib.Core.List.{List, [], ◌∷◌}
use Rattle.std.proofs.Math.Nat.{sub-zero}
use Rattle.std.proofs.Math.ListN.{length}
use Rattle.time.specs.Pick.{pick}
use Rattle.candidates.specs.Held.{between, firsts, held_of, place_of, earliest_of}
use Rattle.candidates.specs.Repeats.{repeated, rises, rises_from, among}
use Prim.Native.Nat.{min}
use Rattle.time.proofs.Std.{min_least}
use Rattle.std.proofs.Common.{le_antisymm, length-take-le}
use Rattle.std.proofs.lemmas.List.Sums.{prefix_len-le-length}
use Rattle.time.specs.Lists as lists
use Rattle.time.specs.declared.When.{When}
use Rattle.time.specs.Options.{when_of}
use Rattle.time.specs.Time.{at, least, sooner_of}
use Rattle.candidates.proofs.Places.{read_range, rises-once}
use Rattle.candidates.proofs.Laws.{held-most}

-- the first n of an array of 32 are a slice of it
pub taken : (n h : ℕ) (l : List ℕ) → length l ≡ 32 → h ≡ held_of n → take h l ≡ firsts n l
unfolding between
taken n h l k e = rw (e, sub-zero (held_of n)) (sym (read_range l 0 (held_of n) (omega (arith, (held-most n).1, k))))

-- `contains`
pub among_any : (x : ℕ) (l : List ℕ) → list_any (λ y. eqb y x) l ≡ among x l
unfolding among
among_any x [] = refl
among_any x (y ∷ l) = ap (λ b. eqb y x || b) (among_any x l)

next : (k : ℕ) → suc k + 1 ≡ suc (k + 1)
next k = omega arith

module _ (x : ℕ) (l m : List ℕ) where
  pub pair_here : l ≡ x ∷ m → list_any (λ y. eqb y x) m ≡ true → repeated l ≡ true
  unfolding repeated
  pair_here e h = rw (e, ← among_any x m, h) refl

  pub pair_on : l ≡ x ∷ m → list_any (λ y. eqb y x) m ≡ false → repeated l ≡ repeated m
  unfolding repeated
  pair_on e h = rw (e, ← among_any x m, h) refl

pub pair_none : (l : List ℕ) → length l ≡ 0 → repeated l ≡ false
unfolding repeated
pair_none [] e = refl
pair_none (x ∷ l) e = absurd (omega (arith, e))

-- `is_sorted_by`, with each number below the next
told : (x : ℕ) (l : List ℕ) → ((k d : ℕ) → k + 1 < length (x ∷ l) → true ≡ ltb (get_or (x ∷ l) k d) (get_or (x ∷ l) (k + 1) d)) → true ≡ rises_from x l
unfolding rises_from
told x [] h = refl
told x (y ∷ l) h = rw (← h 0 0 (omega arith)) (told y l (λ k d b. rw (next k) at (h (suc k) d (omega arith))))

untold : (k x : ℕ) (l : List ℕ) → k + 1 < length (x ∷ l) → ((d : ℕ) → false ≡ ltb (get_or (x ∷ l) k d) (get_or (x ∷ l) (k + 1) d)) → false ≡ rises_from x l
unfolding rises_from
untold k x [] b h = absurd (omega arith)
untold zero x (y ∷ l) b h = rw (← h 0) refl
untold (suc k) x (y ∷ l) b h = under (ltb x y) (untold k y l (omega arith) (λ d. rw (next k) at (h d)))
  where
    under : (q : Bool) → false ≡ rises_from y l → false ≡ pick q (rises_from y l) false
    under true e = e
    under false e = refl

pub rises_told : (l : List ℕ) (r : Bool) → IsAllAdjacentAnswer (λ x y b. b ≡ ltb x y) l r → r ≡ rises l
unfolding rises
rises_told [] true h = refl
rises_told [] false h = absurd (omega (arith, h.1))
rises_told (x ∷ l) true h = told x l h
rises_told (x ∷ l) false h = untold h.0 x l h.1 h.2

-- `position`
pub place_first : (x : ℕ) (l : List ℕ) → position_or_len (λ y. eqb y x) l ≡ place_of x l
unfolding place_of
place_first x l = sym (is_position_or_len (place_of x) (λ y. eqb y x) refl (λ y ys. ap (λ n. pick (eqb y x) 0 n) (omega arith)) l)

pub found_first : (x : ℕ) (l : List ℕ) → unwrap_or (position (λ y. eqb y x) l) (length l) ≡ place_of x l
found_first x l = under (ltb (position_or_len (λ y. eqb y x) l) (length l)) refl ∙ place_first x l
  where
    under : (t : Bool) → ltb (position_or_len (λ y. eqb y x) l) (length l) ≡ t → unwrap_or (cond t (Some (position_or_len (λ y. eqb y x) l)) None) (length l) ≡ position_or_len (λ y. eqb y x) l
    under true e = refl
    under false e = le_antisymm (ltb-false (position_or_len (λ y. eqb y x) l) (length l) e) (prefix_len-le-length (λ y. not (eqb y x)) l)

-- `min`
sooner_min : (x y : ℕ) → sooner_of (at x) (at y) ≡ at (min x y)
unfolding sooner_of least
sooner_min x y = under (leb x y) ∙ ap at (sym (min_least x y))
  where
    under : (q : Bool) → pick q (at x) (at y) ≡ at (pick q x y)
    under true = refl
    under false = refl

fold_min : (x : ℕ) (l : List ℕ) → at (fold min x l) ≡ lists.fold (λ w t. sooner_of w (at t)) (at x) l
unfolding lists.fold
fold_min x [] = refl
fold_min x (y ∷ l) = fold_min (min x y) l ∙ ap (λ w. lists.fold (λ w t. sooner_of w (at t)) w l) (sym (sooner_min x y))

pub least_told : (l : List ℕ) → when_of (reduce min l) ≡ earliest_of l
unfolding earliest_of lists.fold sooner_of
least_told [] = refl
least_told (x ∷ l) = fold_min x l

-- what is found in a slice, in the words of the array
module _ (n h : ℕ) (l : List ℕ) (k : length l ≡ 32) (e : h ≡ held_of n) where
  pub found_spot : (s : ℕ) (o : Option ℕ) → o ≡ position (λ y. eqb y s) (take h l) → unwrap_or o (held_of n) ≡ place_of s (firsts n l)
  found_spot s o f =
      let w : length (take h l) ≡ held_of n = length-take-le h l (omega (arith, e, (held-most n).1, k)) ∙ e in
      rw (f, ← w) (found_first s (take h l)) ∙ ap (place_of s) (taken n h l k e)

  pub least_earliest : (w : When) → w ≡ earliest_of (take h l) → w ≡ earliest_of (firsts n l)
  least_earliest w f = f ∙ ap earliest_of (taken n h l k e)

  pub pairs_repeated : (r : Bool) → r ≡ repeated (take h l) → r ≡ repeated (firsts n l)
  pairs_repeated r f = f ∙ ap repeated (taken n h l k e)

  pub rising_once : (r : Bool) → r ≡ rises (take h l) → r ≡ true → not r ≡ repeated (firsts n l)
  rising_once r f t = rw t (sym (rises-once (firsts n l) (sym (ap rises (taken n h l k e)) ∙ (sym f ∙ t))))
