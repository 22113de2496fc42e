-- What holds of each or of some element of a list, through the lists that a pass is made by.
use Rattle.std.specs.Prelude.{ℕ, zero, suc, ◌<◌, Bool, ◌&&◌, ◌||◌, ◌⊎◌, ◌≡◌, eqb, length, get_or}
use Rattle.std.proofs.Math.Bool.{true, false}
use Rattle.std.proofs.lemmas.Bool.{false≢true}
use Rattle.std.proofs.Math.Logic.{inl, inr, ⊎_elim}
use Rattle.std.proofs.Math.Path.{refl}
use Rattle.std.proofs.Common.{ap₂, arith, eqb-true}
use mathlib.Core.List.{List, [], ◌∷◌, ◌++◌, map}
use Rattle.time.specs.Pick.{pick}
use Rattle.time.specs.Lists.{fold, kept}
use Rattle.items.specs.Items.{Item, item, before, insert, sorted, listed_in}
use Rattle.state.specs.Parts.{listed}
use Rattle.law_exact.specs.Reads.{Each, Some}

module _ {A : Type 0} (P : A → Type 0) where
  pub each_append : (l m : List A) → Each P l → Each P m → Each P (l ++ m)
  each_append [] m p q = q
  each_append (a ∷ l) m p q = (p.0, each_append l m p.1 q)

  pub each-listed : (b : Bool) (a : A) → (b ≡ true → P a) → Each P (listed b a)
  each-listed true a f = (f refl, tt)
  each-listed false a f = tt

  pub each-pick : (b : Bool) (l m : List A) → (b ≡ true → Each P l) → (b ≡ false → Each P m) → Each P (pick b l m)
  each-pick true l m f g = f refl
  each-pick false l m f g = g refl

  pub each-kept : (t : A → Bool) (l : List A) → Each P l → Each P (kept t l)
  unfolding kept
  each-kept t [] p = tt
  each-kept t (a ∷ l) p = under (t a) (each-kept t l p.1)
    where
      under : (b : Bool) → Each P (kept t l) → Each P (pick b (a ∷ kept t l) (kept t l))
      under true rest = (p.0, rest)
      under false rest = rest

  -- what follows from the test
  pub each-tested : (t : A → Bool) (l : List A) → Each (λ a. t a ≡ true → P a) l → Each P (kept t l)
  unfolding kept
  each-tested t [] p = tt
  each-tested t (a ∷ l) p = under (t a) p.0 (each-tested t l p.1)
    where
      under : (b : Bool) → (b ≡ true → P a) → Each P (kept t l) → Each P (pick b (a ∷ kept t l) (kept t l))
      under true f rest = (f refl, rest)
      under false f rest = rest

  -- the element at a place
  pub each-at : (l : List A) (i : ℕ) (a : A) → i < length l → Each P l → P (get_or l i a)
  each-at [] i a h p = absurd (omega arith)
  each-at (b ∷ l) zero a h p = p.0
  each-at (b ∷ l) (suc i) a h p = each-at l i a (omega arith) p.1

  pub some_left : (l m : List A) → Some P l → Some P (l ++ m)
  some_left [] m h = absurd h
  some_left (a ∷ l) m (inl p) = inl p
  some_left (a ∷ l) m (inr h) = inr (some_left l m h)

  pub some_right : (l m : List A) → Some P m → Some P (l ++ m)
  some_right [] m h = h
  some_right (a ∷ l) m h = inr (some_right l m h)

  pub some-kept : (t : A → Bool) → ((a : A) → P a → t a ≡ true) → (l : List A) → Some P l → Some P (kept t l)
  unfolding kept
  some-kept t f [] h = absurd h
  some-kept t f (a ∷ l) (inl p) = under (t a) (f a p)
    where
      under : (b : Bool) → b ≡ true → Some P (pick b (a ∷ kept t l) (kept t l))
      under true e = inl p
      under false e = absurd (false≢true e)
  some-kept t f (a ∷ l) (inr h) = under (t a) (some-kept t f l h)
    where
      under : (b : Bool) → Some P (kept t l) → Some P (pick b (a ∷ kept t l) (kept t l))
      under true rest = inr rest
      under false rest = rest

  pub some-each : {X : Type 0} (l : List A) → Some P l → Each (λ a. P a → X) l → X
  some-each [] h e = absurd h
  some-each (a ∷ l) (inl p) e = e.0 p
  some-each (a ∷ l) (inr h) e = some-each l h e.1

pub some-map : {A : Type 0} (P Q : A → Type 0) → ((a : A) → P a → Q a) → (l : List A) → Some P l → Some Q l
some-map P Q f [] h = h
some-map P Q f (a ∷ l) (inl p) = inl (f a p)
some-map P Q f (a ∷ l) (inr h) = inr (some-map P Q f l h)

pub each_map : {A : Type 0} (P Q : A → Type 0) → ((a : A) → P a → Q a) → (l : List A) → Each P l → Each Q l
each_map P Q f [] h = tt
each_map P Q f (a ∷ l) h = (f a h.0, each_map P Q f l h.1)

-- each element of a mapped list
pub each_of : {A B : Type 0} (P : B → Type 0) (f : A → B) (l : List A) → Each (λ a. P (f a)) l → Each P (map f l)
each_of P f [] h = tt
each_of P f (a ∷ l) h = (h.0, each_of P f l h.1)

pub some_of : {A B : Type 0} (P : B → Type 0) (f : A → B) (l : List A) → Some (λ a. P (f a)) l → Some P (map f l)
some_of P f [] h = h
some_of P f (a ∷ l) (inl p) = inl p
some_of P f (a ∷ l) (inr h) = inr (some_of P f l h)

-- ---- in another order

module _ (P : Item → Type 0) where
  pub each-insert : (x : Item) (l : List Item) → P x → Each P l → Each P (insert x l)
  unfolding insert
  each-insert x [] p h = (p, tt)
  each-insert x (y ∷ l) p h = under (before x y) (each-insert x l p h.1)
    where
      under : (b : Bool) → Each P (insert x l) → Each P (pick b (x ∷ y ∷ l) (y ∷ insert x l))
      under true rest = (p, h)
      under false rest = (h.0, rest)

  each-fold : (l m : List Item) → Each P l → Each P m → Each P (fold (λ s x. insert x s) m l)
  unfolding fold
  each-fold [] m h k = k
  each-fold (x ∷ l) m h k = each-fold l (insert x m) h.1 (each-insert x m h.0 k)

  pub each-sorted : (l : List Item) → Each P l → Each P (sorted l)
  unfolding sorted
  each-sorted l h = each-fold l [] h tt

  some-insert : (x : Item) (l : List Item) → P x ⊎ Some P l → Some P (insert x l)
  unfolding insert
  some-insert x [] h = h
  some-insert x (y ∷ l) h = under (before x y) (some-insert x l) h
    where
      under : (b : Bool) → (P x ⊎ Some P l → Some P (insert x l)) → P x ⊎ (P y ⊎ Some P l) → Some P (pick b (x ∷ y ∷ l) (y ∷ insert x l))
      under true f h = h
      under false f (inl p) = inr (f (inl p))
      under false f (inr (inl q)) = inl q
      under false f (inr (inr h)) = inr (f (inr h))

  some-fold : (l m : List Item) → Some P l ⊎ Some P m → Some P (fold (λ s x. insert x s) m l)
  unfolding fold
  some-fold [] m h = ⊎_elim (λ e. absurd e) (λ e. e) h
  some-fold (x ∷ l) m (inl (inl p)) = some-fold l (insert x m) (inr (some-insert x m (inl p)))
  some-fold (x ∷ l) m (inl (inr h)) = some-fold l (insert x m) (inl h)
  some-fold (x ∷ l) m (inr h) = some-fold l (insert x m) (inr (some-insert x m (inr h)))

  pub some-sorted : (l : List Item) → Some P l → Some P (sorted l)
  unfolding sorted
  some-sorted l h = some-fold l [] (inl h)

-- ---- names

-- an item of that kind and key is in the list
abbrev pub Named : ℕ → ℕ → List Item → Type 0
Named k x l = Some (λ i. (i.kind ≡ k) × (i.key ≡ x)) l

-- whether an item was listed is asked by its name
pub listed_same : (y : Item) (k x : ℕ) → y.kind ≡ k → y.key ≡ x → (l : List Item) → listed_in y l ≡ listed_in (item 0 k x) l
unfolding listed_in
listed_same y k x p q [] = refl
listed_same y k x p q (z ∷ l) =
    ap₂ (λ a b. a || b) (ap₂ (λ m n. eqb z.kind m && eqb z.key n) p q) (listed_same y k x p q l)

pub listed-named : (k x : ℕ) (l : List Item) → listed_in (item 0 k x) l ≡ true → Named k x l
unfolding listed_in
listed-named k x [] e = absurd (false≢true e)
listed-named k x (y ∷ l) e = under (eqb y.kind k) refl (eqb y.key x) refl e (listed-named k x l)
  where
    under : (a : Bool) → eqb y.kind k ≡ a → (b : Bool) → eqb y.key x ≡ b → a && b || listed_in (item 0 k x) l ≡ true → (listed_in (item 0 k x) l ≡ true → Named k x l) → Named k x (y ∷ l)
    under true p true q e rest = inl (eqb-true y.kind k p, eqb-true y.key x q)
    under true p false q e rest = inr (rest e)
    under false p b q e rest = inr (rest e)
