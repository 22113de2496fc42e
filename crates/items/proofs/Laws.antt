-- Laws of the two lists, for their methods.
use Rattle.std.specs.Prelude.{ℕ, suc, min, ◌≤◌, ◌<◌, ◌+◌, ◌-◌, Bool, true, false, ◌||◌, ◌≡◌, refl, List, [], ◌∷◌, ◌++◌, map, take, drop, length, set, get_or, Option, Some, None, cond, ltb, eqb}
use Rattle.std.specs.List.{copy_within, position_from, list_any, take-map, drop-map}
use Rattle.std.specs.Option.{unwrap_or}
use Rattle.std.specs.Ordering.{partial_ordering_then, nat_cmp, is_lt, is_some_and}
use Rattle.std.proofs.Common.{Ordering, Less, Equal, Greater, sym, ◌∙◌, ap, ap₂, arith, eqb-true, ltb-true, lt-ltb, add-one, append_assoc, take_all}
use Rattle.std.proofs.Math.Seq.{take-suc, append_snoc, take-set-lt}
use Rattle.std.proofs.lemmas.List.{length-map, length-take-le, length-drop, length-append, map-append, take-take, drop-take, set_at, take_at, take_min}
use Rattle.std.proofs.lemmas.List.Edits.{take-paste}
use Rattle.time.specs.Pick.{pick}
use Rattle.items.specs.declared.Due.{Due}
use Rattle.items.specs.declared.Item.{Item as Timed}
use Rattle.items.specs.Items.{Item, less_by, before, insert, names, listed_in, untimed}
use Rattle.items.specs.Arrays.{most_listed, item_of, due_of, place_for}

-- as many items as are held
pub length-held : {A B : Type 0} (f : A → B) (l : List A) (v : List B) (n : ℕ) → n ≤ length l → map f (take n l) ≡ v → n ≡ length v
length-held f l v n h e = sym (length-take-le n l h) ∙ (sym (length-map (take n l) f) ∙ ap length e)

-- the first m of a list, copied over the start of another
pub copied-first :
    {A B : Type 0} (f : A → B) (l ys rest : List A) (m n : ℕ) → n ≡ min (length l) m → ys ≡ take n l → map f (take n (ys ++ rest)) ≡ take m (map f l)
copied-first f l ys rest m n h e =
    let count : length ys ≡ n = ap length e ∙ length-take-le n l (omega arith) in
    let least : n ≡ min m (length l) = omega arith in
    ap (map f) (take_at ys rest n count ∙ (e ∙ (ap (λ k. take k l) least ∙ take_min m l))) ∙ sym (take-map f m l)

-- ---- the order

then-assoc : (a b c : Option Ordering) → partial_ordering_then (partial_ordering_then a b) c ≡ partial_ordering_then a (partial_ordering_then b c)
then-assoc None b c = refl
then-assoc (Some Less) b c = refl
then-assoc (Some Equal) b c = refl
then-assoc (Some Greater) b c = refl

-- one number more in front of what decides
then-less : (a b : ℕ) (o : Option Ordering) (t : Bool) → is_some_and is_lt o ≡ t → is_some_and is_lt (partial_ordering_then (Some (nat_cmp a b)) o) ≡ less_by a b t
then-less a b o t e = under (ltb a b) (eqb a b) refl refl
  where
    under : (p q : Bool) → ltb a b ≡ p → eqb a b ≡ q → is_some_and is_lt (partial_ordering_then (Some (cond p Less (cond q Equal Greater))) o) ≡ pick q t p
    under true true p q =
        let u : a < b = ltb-true a b p in
        let v : a ≡ b = eqb-true a b q in
        absurd (omega arith)
    under true false p q = refl
    under false true p q = e
    under false false p q = refl

last-less : (a b : ℕ) → is_some_and is_lt (Some (nat_cmp a b)) ≡ ltb a b
last-less a b = under (ltb a b) (eqb a b)
  where
    under : (p q : Bool) → is_some_and is_lt (Some (cond p Less (cond q Equal Greater))) ≡ p
    under true q = refl
    under false true = refl
    under false false = refl

-- three numbers in order decide as `before` does
pub three-less : (a b k l x y : ℕ) → is_some_and is_lt (partial_ordering_then (partial_ordering_then (Some (nat_cmp a b)) (Some (nat_cmp k l))) (Some (nat_cmp x y))) ≡ less_by a b (less_by k l (ltb x y))
three-less a b k l x y =
    ap (is_some_and is_lt) (then-assoc (Some (nat_cmp a b)) (Some (nat_cmp k l)) (Some (nat_cmp x y)))
    ∙ then-less a b (partial_ordering_then (Some (nat_cmp k l)) (Some (nat_cmp x y))) (less_by k l (ltb x y)) (then-less k l (Some (nat_cmp x y)) (ltb x y) (last-less x y))

-- ---- an item put in its place

-- the first place whose item x comes before, or the end
place-from : (x : Item) (l : List Timed) (n m : ℕ) → m ≡ n + length l → unwrap_or (position_from (λ y. before x (item_of y)) n l) m ≡ n + place_for x (map item_of l)
unfolding place_for
place-from x [] n m e = e
place-from x (y ∷ l) n m e = under (before x (item_of y)) (place-from x l (n + 1) m (omega arith))
  where
    under : (q : Bool) → unwrap_or (position_from (λ z. before x (item_of z)) (n + 1) l) m ≡ n + 1 + place_for x (map item_of l) → unwrap_or (cond q (Some n) (position_from (λ z. before x (item_of z)) (n + 1) l)) m ≡ n + pick q 0 (suc (place_for x (map item_of l)))
    under true rest = omega arith
    under false rest = rest ∙ omega arith

pub place-first : (x : Item) (l : List Timed) → unwrap_or (position_from (λ y. before x (item_of y)) 0 l) (length l) ≡ place_for x (map item_of l)
place-first x l = place-from x l 0 (length l) (omega arith) ∙ omega arith

-- what stands at place i of n and after it moved up by one, and x put there
opened : {A : Type 0} (l : List A) (i n : ℕ) (x : A) → i ≤ n → n < length l → take (n + 1) (set (copy_within l i n (i + 1)) i x) ≡ take i (take n l) ++ (x ∷ drop i (take n l))
opened l i n x h k =
    let moved : take (n + 1) (copy_within l i n (i + 1)) ≡ take (i + 1) l ++ take (n - i) (drop i l) =
    ap (λ m. take m (copy_within l i n (i + 1))) count ∙ take-paste l (i + 1) (drop i l) (n - i) (omega arith) (rw (length-drop i l) (omega arith)) in
    let first : take (i + 1) l ++ take (n - i) (drop i l) ≡ take i l ++ (get_or l i x ∷ take (n - i) (drop i l)) =
    ap (λ m. take m l ++ take (n - i) (drop i l)) (add-one i)
    ∙ (ap (λ r. r ++ take (n - i) (drop i l)) (take-suc l i x (omega arith))
    ∙ append_snoc (take i l) (get_or l i x) (take (n - i) (drop i l))) in
    let rest : take (n - i) (drop i l) ≡ drop i (take n l) = sym (ap (λ m. drop i (take m l)) total ∙ drop-take i (n - i) l) in
    take-set-lt (n + 1) (copy_within l i n (i + 1)) i x (omega arith)
    ∙ (ap (λ r. set r i x) (moved ∙ first)
    ∙ (set_at (take i l) (get_or l i x) (take (n - i) (drop i l)) x i (length-take-le i l (omega arith))
    ∙ ap₂ (λ p q. p ++ (x ∷ q)) (sym (take-take i n l h)) rest))
  where
    count : n + 1 ≡ i + 1 + (n - i)
    count = omega arith

    total : n ≡ i + (n - i)
    total = omega arith

pub insert-place : (x : Item) (l : List Item) → insert x l ≡ take (place_for x l) l ++ (x ∷ drop (place_for x l) l)
unfolding insert place_for
insert-place x [] = refl
insert-place x (y ∷ l) = under (before x y) (insert-place x l)
  where
    under : (q : Bool) → insert x l ≡ take (place_for x l) l ++ (x ∷ drop (place_for x l) l) → pick q (x ∷ y ∷ l) (y ∷ insert x l) ≡ take (pick q 0 (suc (place_for x l))) (y ∷ l) ++ (x ∷ drop (pick q 0 (suc (place_for x l))) (y ∷ l))
    under true rest = refl
    under false rest = ap (λ r. y ∷ r) rest

pub place-most : (x : Item) (l : List Item) → place_for x l ≤ length l
unfolding place_for
place-most x [] = omega arith
place-most x (y ∷ l) = under (before x y) (place-most x l)
  where
    under : (q : Bool) → place_for x l ≤ length l → pick q 0 (suc (place_for x l)) ≤ suc (length l)
    under true rest = omega arith
    under false rest = omega arith

-- the place is among the first n
pub place-within : (x : Timed) (l : List Timed) (n i : ℕ) → n ≤ length l → i ≡ place_for (item_of x) (map item_of (take n l)) → i ≤ n
place-within x l n i h e = omega (arith, e, length-held item_of l (map item_of (take n l)) n h refl, place-most (item_of x) (map item_of (take n l)))

-- an item put at its place among n is the item inserted
pub inserted : (l : List Timed) (v : List Item) (i n : ℕ) (x : Timed) → n < length l → map item_of (take n l) ≡ v → i ≡ place_for (item_of x) v → map item_of (take (n + 1) (set (copy_within l i n (i + 1)) i x)) ≡ insert (item_of x) v
inserted l v i n x k e p =
    let q : i ≤ n = rw (p, length-held item_of l v n (omega arith) e) (place-most (item_of x) v) in
    ap (map item_of) (opened l i n x q k)
    ∙ (map-append item_of (take i (take n l)) (x ∷ drop i (take n l))
    ∙ (ap₂ (λ a b. a ++ (item_of x ∷ b)) (sym (take-map item_of i (take n l)) ∙ ap (take i) e) (sym (drop-map item_of i (take n l)) ∙ ap (drop i) e)
    ∙ (ap (λ j. take j v ++ (item_of x ∷ drop j v)) p
    ∙ sym (insert-place (item_of x) v))))

-- ---- what earlier passes listed

pub listed-any : (e : Due → Bool) (x : Item) → ((d : Due) → e d ≡ names (due_of d) x) → (l : List Due) → list_any e l ≡ listed_in x (map due_of l)
unfolding listed_in
listed-any e x h [] = refl
listed-any e x h (d ∷ l) = ap₂ ◌||◌ (h d) (listed-any e x h l)

-- an item without its instant
abbrev pub name_at : Timed → Item
name_at i = due_of i.due

-- a loop that notes items in turn notes one more
pub noted-more :
    (s₀ s s' : List Item) (l : List Timed) (i : ℕ) (d : Timed) → i < length l → (length s₀ + length l ≤ most_listed → s ≡ s₀ ++ map name_at (take i l))
    → s' ≡ pick (ltb (length s) most_listed) (s ++ (name_at (get_or l i d) ∷ [])) s → length s₀ + length l ≤ most_listed → s' ≡ s₀ ++ map name_at (take (i + 1) l)
noted-more s₀ s s' l i d h e o room =
    let have : s ≡ s₀ ++ map name_at (take i l) = e room in
    let count : length s ≡ length s₀ + i =
    ap length have
    ∙ (length-append s₀ (map name_at (take i l))
    ∙ ap (λ n. length s₀ + n) (length-map (take i l) name_at ∙ length-take-le i l (omega arith))) in
    let less : length s < most_listed = omega arith in
    let more : take (i + 1) l ≡ take i l ++ (get_or l i d ∷ []) = ap (λ m. take m l) (add-one i) ∙ take-suc l i d h in
    o
    ∙ (ap (λ b. pick b (s ++ (name_at (get_or l i d) ∷ [])) s) (lt-ltb (length s) most_listed less)
    ∙ (ap (λ r. r ++ (name_at (get_or l i d) ∷ [])) have
    ∙ (append_assoc s₀ (map name_at (take i l)) (name_at (get_or l i d) ∷ [])
    ∙ ap (λ r. s₀ ++ r) (sym (ap (map name_at) more ∙ map-append name_at (take i l) (get_or l i d ∷ []))))))

map-twice : (l : List Timed) → map name_at l ≡ map untimed (map item_of l)
map-twice [] = refl
map-twice (x ∷ l) = ap (λ r. name_at x ∷ r) (map-twice l)

-- the loop has noted them all
pub noted-all :
    (s₀ s v : List Item) (l : List Timed) (i : ℕ) → length l ≤ i → map item_of l ≡ v → (length s₀ + length l ≤ most_listed → s ≡ s₀ ++ map name_at (take i l))
    → length s₀ + length v ≤ most_listed → s ≡ s₀ ++ map untimed v
noted-all s₀ s v l i h e f room =
    let same : length v ≡ length l = sym (ap length e) ∙ length-map l item_of in
    f (omega arith)
    ∙ ap (λ r. s₀ ++ r) (ap (map name_at) (take_all i l h) ∙ (map-twice l ∙ ap (map untimed) e))
