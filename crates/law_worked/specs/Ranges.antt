-- An item put among those of a range of places.
use Prim.Native.Nat.{ℕ, zero, suc, ◌≤◌, ◌<◌, ◌+◌, ◌-◌}
use Rattle.std.specs.Prelude.{Bool, true, false, ◌≡◌, refl, ◌∷◌, ◌++◌, map}
use Rattle.std.proofs.Common.{sym, ◌∙◌, add-zero}
use Rattle.std.proofs.Math.Path.{ap, ap₂}
use Rattle.std.proofs.Math.Nat.{sub-zero}
use native.Mathlib.Omega.{arith}
use Rattle.time.specs.Pick.{pick}
use Rattle.time.specs.Lists.{range}
use Rattle.items.specs.Items.{Item, before, insert}
use Rattle.items.specs.Arrays.{place_for}

-- ---- ranges

pub range_split : (j i n : ℕ) → i ≤ n → range j n ≡ range j i ++ range (j + i) (n - i)
unfolding range
range_split j zero n h = ap₂ range (sym (add-zero j)) (sym (sub-zero n))
range_split j (suc i) zero h = absurd (omega arith)
range_split j (suc i) (suc n) h =
    let a : j + 1 + i ≡ j + suc i = omega arith in
    let b : n - i ≡ suc n - suc i = omega arith in
    ap (λ l. j ∷ l) (range_split (j + 1) i n (omega arith) ∙ ap₂ (λ p q. range (j + 1) i ++ range p q) a b)

-- what two readings of places give is the same where each place is
pub map_range : {A : Type 0} (f g : ℕ → A) (j k n : ℕ) → ((d : ℕ) → d < n → f (j + d) ≡ g (k + d)) → map f (range j n) ≡ map g (range k n)
unfolding range
map_range f g j k zero h = refl
map_range f g j k (suc n) h =
    ap₂ (λ x l. x ∷ l)
    (ap f (sym (add-zero j)) ∙ (h 0 (omega arith) ∙ ap g (add-zero k)))
    (map_range f g (j + 1) (k + 1) n (λ d b.
    let p : j + 1 + d ≡ j + suc d = omega arith in
    let q : k + 1 + d ≡ k + suc d = omega arith in
    ap f p ∙ (h (suc d) (omega arith) ∙ ap g (sym q))))

-- where x is put among n places from j on
abbrev pub spot : (ℕ → Item) → Item → ℕ → ℕ → ℕ
spot f x j n = place_for x (map f (range j n))

pub insert_places : (f : ℕ → Item) (x : Item) (j n : ℕ) → insert x (map f (range j n)) ≡ map f (range j (spot f x j n)) ++ (x ∷ map f (range (j + spot f x j n) (n - spot f x j n)))
unfolding insert place_for range
insert_places f x j zero = refl
insert_places f x j (suc n) = under (before x (f j)) (insert_places f x (j + 1) n)
  where
    k : ℕ
    k = spot f x (j + 1) n

    under : (q : Bool) → insert x (map f (range (j + 1) n)) ≡ map f (range (j + 1) k) ++ (x ∷ map f (range (j + 1 + k) (n - k))) → pick q (x ∷ map f (range j (suc n))) (f j ∷ insert x (map f (range (j + 1) n))) ≡ map f (range j (pick q 0 (suc k))) ++ (x ∷ map f (range (j + pick q 0 (suc k)) (suc n - pick q 0 (suc k))))
    under true rest = ap₂ (λ p m. x ∷ map f (range p m)) (sym (add-zero j)) (sym (sub-zero (suc n)))
    under false rest =
        let a : j + 1 + k ≡ j + suc k = omega arith in
        let b : n - k ≡ suc n - suc k = omega arith in
        ap (λ l. f j ∷ l) (rest ∙ ap₂ (λ p m. map f (range (j + 1) k) ++ (x ∷ map f (range p m))) a b)
