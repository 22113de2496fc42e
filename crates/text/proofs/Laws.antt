-- What one turn of a loop over a list does to the definitions of specs/: the rest from index i on, by its first element. Assumes nothing.
use Rattle.std.proofs.Common.{ℕ, ◌+◌, ◌-◌, ◌*◌, ◌≤◌, ◌<◌, Bool, true, false, cond, ◌≡◌, refl, List, [], ◌∷◌, add-one, le_refl, le_trans, arith, length, get_or, drop, drop_of_length-le, drop-cons, ltb, ltb-false, le_antisymm, ap, map, not, Option, Some, None, Bor, MatchOption, IsSomeAnd}
use Rattle.std.specs.List.{prefix_len, position_or_len, position, find}
use Rattle.std.specs.Option.{unwrap_or, option_map, option_copied}
use Rattle.std.proofs.lemmas.List.Sums.{prefix_len-le-length}
use Rattle.std.proofs.lemmas.List.{length-map}
use Rattle.text.specs.Numbers.{value_from}

-- where the first element stands that passes, or the end
pub first_or_end : {X : Type 0} (p : X → Bool) (xs : List X) → unwrap_or (position p xs) (length xs) ≡ position_or_len p xs
first_or_end p xs = by (ltb (position_or_len p xs) (length xs)) refl
  where
    by : (t : Bool) → ltb (position_or_len p xs) (length xs) ≡ t → unwrap_or (cond t (Some (position_or_len p xs)) None) (length xs) ≡ position_or_len p xs
    by true e = refl
    by false e = le_antisymm (ltb-false (position_or_len p xs) (length xs) e) (prefix_len-le-length (λ x. not (p x)) xs)

prefix-map : {A B : Type 0} (f : A → B) (p : B → Bool) (xs : List A) → prefix_len (λ x. p (f x)) xs ≡ prefix_len p (map f xs)
prefix-map f p [] = refl
prefix-map f p (x ∷ xs) = ap (λ n. cond (p (f x)) (1 + n) 0) (prefix-map f p xs)

pub position-map : {A B : Type 0} (f : A → B) (p : B → Bool) (xs : List A) → position (λ x. p (f x)) xs ≡ position p (map f xs)
position-map f p xs = rw (prefix-map f (λ x. not (p x)) xs, length-map xs f)

-- the value of the row behind the reference that a search answers
pub value-of : {W T : Type 0} (r : Option (Bor (W × T))) (v : Option T) → MatchOption r (v ≡ None) (λ x. IsSomeAnd v (λ y. y ≡ x.now.1)) → v ≡ option_map (λ row. row.1) (option_copied r)
value-of None v e = e
value-of (Some x) None e = absurd e
value-of (Some x) (Some y) e = ap Some e

-- the first element that passes, of elements that were mapped
pub find-map : {A B T : Type 0} (f : A → B × T) (p : B × T → Bool) (xs : List A) → option_map (λ x. (f x).1) (find (λ x. p (f x)) xs) ≡ option_map (λ y. y.1) (find p (map f xs))
find-map f p [] = refl
find-map f p (x ∷ xs) = by (p (f x)) (find-map f p xs)
  where
    by : (t : Bool) → option_map (λ x. (f x).1) (find (λ x. p (f x)) xs) ≡ option_map (λ y. y.1) (find p (map f xs))
        → option_map (λ x. (f x).1) (cond t (Some x) (find (λ x. p (f x)) xs)) ≡ option_map (λ y. y.1) (cond t (Some (f x)) (find p (map f xs)))
    by true e = refl
    by false e = e

-- more digits make no smaller number
value-le : (v : ℕ) (s : List ℕ) → v ≤ value_from v s
unfolding value_from
value-le v [] = le_refl v
value-le v (b ∷ bs) = le_trans (omega arith) (value-le (10 * v + (b - 48)) bs)

module _ (s : List ℕ) (i : ℕ) where
  pub value-step : (v : ℕ) → i < length s → value_from v (drop i s) ≡ value_from (10 * v + (get_or s i 0 - 48)) (drop (i + 1) s)
  unfolding value_from
  value-step v h = rw (add-one, drop-cons s i 0)

  pub value-done : (v : ℕ) → length s ≤ i → value_from v (drop i s) ≡ v
  unfolding value_from
  value-done v h = rw (drop_of_length-le s {i = i} h)

  -- what one digit more comes to is no more than the whole
  pub value-more : (v : ℕ) → i < length s → 10 * v + (get_or s i 0 - 48) ≤ value_from v (drop i s)
  value-more v h = rw (value-step v h) (value-le (10 * v + (get_or s i 0 - 48)) (drop (i + 1) s))

-- what the loops of each file cite
pub ruleset value_laws = (value-step, value-more, value-done)
