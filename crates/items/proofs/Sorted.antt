-- That `sorted` gives the same items in order.
use Rattle.std.specs.Prelude.{ℕ, suc, ◌<◌, ◌+◌, Bool, true, false, not, ◌&&◌, ◌||◌, ◌≡◌, refl, ltb, eqb, length}
use Rattle.std.proofs.lemmas.Bool.{false≢true}
use Rattle.std.proofs.Common.{sym, ap, arith, eqb-true, eq-eqb, ne_eqb, ltb-true, le-ltb}
use mathlib.Core.List.Permᴰ
use mathlib.Core.List.{List, [], ◌∷◌, ◌++◌, map, Permᴰ}
use Rattle.time.specs.Pick.{pick}
use Rattle.time.specs.Lists.{fold, fold-append}
use Rattle.items.specs.Items.{Item, less_by, before, insert, sorted, ordered_from, ordered, names, listed_in, untimed}

-- ---- the order

-- what comes first by a number or by the rest does not come after
apart : (a b : ℕ) (t u : Bool) → (t ≡ true → u ≡ false) → less_by a b t ≡ true → less_by b a u ≡ false
apart a b t u h e = under (eqb a b) refl e
  where
    under : (q : Bool) → eqb a b ≡ q → pick q t (ltb a b) ≡ true → less_by b a u ≡ false
    under true p e = rw (eq-eqb b a (sym (eqb-true a b p))) (h e)
    under false p e =
        let l : a < b = ltb-true a b e in
        rw (ne_eqb b a (λ s. omega arith), le-ltb b a (omega arith))

pub before-apart : (x y : Item) → before x y ≡ true → before y x ≡ false
unfolding before
before-apart x y e =
    apart x.at y.at (less_by x.kind y.kind (ltb x.key y.key)) (less_by y.kind x.kind (ltb y.key x.key))
    (apart x.kind y.kind (ltb x.key y.key) (ltb y.key x.key) (λ l. le-ltb y.key x.key (omega (arith, ltb-true x.key y.key l))))
    e

insert-from : (x z : Item) (l : List Item) → before x z ≡ false → ordered_from z l ≡ true → ordered_from z (insert x l) ≡ true
unfolding insert ordered_from
insert-from x z [] h o = rw h
insert-from x z (y ∷ l) h o = under (before x y) refl (before y z) refl (insert-from x y l) o
  where
    under : (q : Bool) → before x y ≡ q → (b : Bool) → before y z ≡ b → (before x y ≡ false → ordered_from y l ≡ true → ordered_from y (insert x l) ≡ true) → (not b && ordered_from y l) ≡ true → ordered_from z (pick q (x ∷ y ∷ l) (y ∷ insert x l)) ≡ true
    under true p true r rest o = absurd (false≢true o)
    under true p false r rest o = rw (h, before-apart x y p) o
    under false p true r rest o = absurd (false≢true o)
    under false p false r rest o = rw r (rest p o)

-- an item put into a list in order leaves it in order
pub insert-ordered : (x : Item) (l : List Item) → ordered l ≡ true → ordered (insert x l) ≡ true
unfolding insert ordered ordered_from
insert-ordered x [] o = refl
insert-ordered x (y ∷ l) o = under (before x y) refl
  where
    under : (q : Bool) → before x y ≡ q → ordered (pick q (x ∷ y ∷ l) (y ∷ insert x l)) ≡ true
    under true p = rw (before-apart x y p) o
    under false p = insert-from x y l p o

ordered-fold : (s l : List Item) → ordered s ≡ true → ordered (fold (λ s x. insert x s) s l) ≡ true
unfolding fold
ordered-fold s [] o = o
ordered-fold s (x ∷ l) o = ordered-fold (insert x s) l (insert-ordered x s o)

-- the items of a pass stand in order
pub sorted-ordered : (l : List Item) → ordered (sorted l) ≡ true
unfolding sorted ordered
sorted-ordered l = ordered-fold [] l refl

-- ---- the same items

pub insert-same : (x : Item) (l : List Item) → Permᴰ (insert x l) (x ∷ l)
unfolding insert
insert-same x [] = Permᴰ.refl (x ∷ [])
insert-same x (y ∷ l) = under (before x y) (insert-same x l)
  where
    under : (q : Bool) → Permᴰ (insert x l) (x ∷ l) → Permᴰ (pick q (x ∷ y ∷ l) (y ∷ insert x l)) (x ∷ y ∷ l)
    under true rest = Permᴰ.refl (x ∷ y ∷ l)
    under false rest = Permᴰ.trans (Permᴰ.cons refl rest) (Permᴰ.swap refl refl)

same_fold : (s l : List Item) → Permᴰ (fold (λ s x. insert x s) s l) (l ++ s)
unfolding fold
same_fold s [] = Permᴰ.refl s
same_fold s (x ∷ l) =
    Permᴰ.trans (same_fold (insert x s) l)
    (Permᴰ.trans (Permᴰ.append_left l (insert-same x s)) (Permᴰ.middle x l s))

-- nothing is added and nothing lost: one list is the other in another order
pub sorted-same : (l : List Item) → Permᴰ (sorted l) l
unfolding sorted
sorted-same l = Permᴰ.trans (same_fold [] l) (Permᴰ.append-nil l)

pub length-insert : (x : Item) (l : List Item) → length (insert x l) ≡ length l + 1
unfolding insert
length-insert x [] = refl
length-insert x (y ∷ l) = under (before x y) (length-insert x l)
  where
    under : (q : Bool) → length (insert x l) ≡ length l + 1 → length (pick q (x ∷ y ∷ l) (y ∷ insert x l)) ≡ suc (length l) + 1
    under true rest = omega arith
    under false rest = omega arith

length-fold : (s l : List Item) → length (fold (λ s x. insert x s) s l) ≡ length s + length l
unfolding fold
length-fold s [] = omega arith
length-fold s (x ∷ l) = rw (length-fold (insert x s) l, length-insert x s) (omega arith)

pub length-sorted : (l : List Item) → length (sorted l) ≡ length l
unfolding sorted
length-sorted l = rw (length-fold [] l) (omega arith)

-- one item more is put into the items sorted so far
pub sorted_more : (l : List Item) (x : Item) → sorted (l ++ (x ∷ [])) ≡ insert x (sorted l)
unfolding sorted fold
sorted_more l x = fold-append (λ s y. insert y s) [] l (x ∷ [])

-- ---- what earlier passes listed

-- the instants of listed items do not matter
pub listed-untimed : (x : Item) (l : List Item) → listed_in x (map untimed l) ≡ listed_in x l
unfolding listed_in
listed-untimed x [] = refl
listed-untimed x (y ∷ l) = ap (λ b. names y x || b) (listed-untimed x l)
