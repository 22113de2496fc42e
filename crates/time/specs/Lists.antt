-- Lists made from a rule, and the laws that counting loops want.
use Rattle.std.specs.Prelude.{ℕ, zero, suc, ◌≤◌, ◌<◌, ◌+◌, ◌-◌, Bool, true, false, ◌≡◌, refl, List, [], ◌∷◌, ◌++◌, map, get_or, take, drop}
use Rattle.std.proofs.Common.{sym, ◌∙◌, ap, ap₂, add-zero, add-one, arith, drop_of_length-le}
use Rattle.std.proofs.Math.Nat.{sub-zero, zero-sub}
use Rattle.std.proofs.Math.ListN.{length, length-take}
use Rattle.std.proofs.lemmas.List.{length-map}
use Rattle.std.proofs.Math.Seq.{slice, slice-cons}
use Rattle.time.specs.Pick.{pick}

-- each element in turn put into b
unfoldable pub fold : {A B : Type 0} → (B → A → B) → B → List A → B
fold f b [] = b
fold f b (a ∷ l) = fold f (f b a) l

-- n numbers from i on
unfoldable pub range : ℕ → ℕ → List ℕ
range i zero = []
range i (suc n) = i ∷ range (i + 1) n

-- the elements that a test holds of
unfoldable pub kept : {A : Type 0} → (A → Bool) → List A → List A
kept p [] = []
kept p (a ∷ l) = pick (p a) (a ∷ kept p l) (kept p l)

-- the elements up to the first that a test does not hold of
unfoldable pub take_while : {A : Type 0} → (A → Bool) → List A → List A
take_while p [] = []
take_while p (a ∷ l) = pick (p a) (a ∷ take_while p l) []

-- what a loop at index i of n has still to do
unfoldable pub onward : {A B : Type 0} → (B → A → B) → List A → ℕ → ℕ → B → B
onward f l n i b = fold f b (slice i n l)

-- ---- laws

module _ {A B : Type 0} (f : B → A → B) (l : List A) (n i : ℕ) (b : B) where
  pub onward-step : (d : A) → i < n → n ≤ length l → onward f l n i b ≡ onward f l n (i + 1) (f b (get_or l i d))
  unfolding onward fold
  onward-step d h k = rw (add-one, slice-cons i n l d)

  pub onward-done : n ≤ i → onward f l n i b ≡ b
  unfolding onward fold
  onward-done h =
      let k : length (take n l) ≤ i = simp length-take (omega arith) in
      rw (drop_of_length-le (take n l) {i = i} k)

pub onward-all : {A B : Type 0} (f : B → A → B) (l : List A) (n : ℕ) (b : B) → onward f l n 0 b ≡ fold f b (take n l)
unfolding onward
onward-all f l n b = refl

pub fold-append : {A B : Type 0} (f : B → A → B) (b : B) (l m : List A) → fold f b (l ++ m) ≡ fold f (fold f b l) m
unfolding fold
fold-append f b [] m = refl
fold-append f b (a ∷ l) m = fold-append f (f b a) l m

pub kept_append : {A : Type 0} (p : A → Bool) (l m : List A) → kept p (l ++ m) ≡ kept p l ++ kept p m
unfolding kept
kept_append p [] m = refl
kept_append p (a ∷ l) m = under (p a) (kept_append p l m)
  where
    under : (q : Bool) → kept p (l ++ m) ≡ kept p l ++ kept p m → pick q (a ∷ kept p (l ++ m)) (kept p (l ++ m)) ≡ pick q (a ∷ kept p l) (kept p l) ++ kept p m
    under true e = ap (λ r. a ∷ r) e
    under false e = e

pub length-range : (i n : ℕ) → length (range i n) ≡ n
unfolding range
length-range i zero = refl
length-range i (suc n) = ap suc (length-range (i + 1) n)

-- the next number of a range that is not at its end
pub range-next : (i n : ℕ) → i < n → range i (n - i) ≡ i ∷ range (i + 1) (n - (i + 1))
unfolding range
range-next i n h =
    let k : n - i ≡ suc (n - (i + 1)) = omega arith in
    rw k

pub range-end : (i n : ℕ) → n ≤ i → range i (n - i) ≡ []
unfolding range
range-end i n h =
    let k : n - i ≡ 0 = omega arith in
    rw k

-- a mapped list is as long as the list: what owning an array of structs tells is of the mapped one
pub unmapped : (X Y : Type 0) (f : X → Y) (l : List X) (n : ℕ) → length (map f l) ≡ n → length l ≡ n
unmapped X Y f l n e = sym (length-map l f) ∙ e

pub drop-map : {A B : Type 0} (f : A → B) (i : ℕ) (l : List A) → drop i (map f l) ≡ map f (drop i l)
drop-map f zero l = refl
drop-map f (suc i) [] = refl
drop-map f (suc i) (a ∷ l) = drop-map f i l

pub drop-range : (i j n : ℕ) → drop i (range j n) ≡ range (j + i) (n - i)
unfolding range
drop-range zero j n = simp (add-zero, sub-zero)
drop-range (suc i) j zero = simp zero-sub
drop-range (suc i) j (suc n) =
    let a : j + 1 + i ≡ j + suc i = omega arith in
    let b : n - i ≡ suc n - suc i = omega arith in
    drop-range i (j + 1) n ∙ ap₂ range a b

pub range-more : (i n : ℕ) → 0 < n → range i n ≡ i ∷ range (i + 1) (n - 1)
unfolding range
range-more i n h =
    let k : n ≡ suc (n - 1) = omega arith in
    ap (range i) k
