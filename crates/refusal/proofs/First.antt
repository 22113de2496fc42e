-- The first test that sends a call back: each number is given exactly when its condition is the
-- first to hold, and none is given exactly when none holds.
use Rattle.std.specs.Prelude.{ℕ, zero, suc, ◌≤◌, ◌<◌, Bool, true, false, ◌&&◌, ◌||◌, ◌↔◌, ◌⊎◌, ◌≡◌, refl, List, [], ◌∷◌, ◌++◌, ltb, eqb, get_or}
use Rattle.std.proofs.Common.{true≢false, inl, inr, ⊎_elim, sym, ◌∙◌, ap, arith, ltb-true, lt-ltb, le-ltb, eq-eqb, ne_eqb}
use Rattle.std.proofs.lemmas.Bool.{false≢true}
use Rattle.time.specs.Pick.{pick}
use Rattle.time.specs.Laws.{decide}
use Rattle.refusal.specs.Refused.{Refused}
use Rattle.refusal.specs.Refusal.{any_of, Test, accepted, first, by}
use Rattle.refusal.specs.First.{any_back, back_at, back_below, rising}

pub or_left : (a b : Bool) → a || b ≡ false → a ≡ false
or_left true b h = h
or_left false b h = refl

pub or_right : (a b : Bool) → a || b ≡ false → b ≡ false
or_right true b h = absurd (true≢false h)
or_right false b h = h

pub or_none : {a b : Bool} → a ≡ false → b ≡ false → a || b ≡ false
or_none p q = rw (p, q)

pub or_true : (a : Bool) → a || true ≡ true
or_true true = refl
or_true false = refl

and_left : (a b : Bool) → a && b ≡ true → a ≡ true
and_left true b h = refl
and_left false b h = h

and_right : (a b : Bool) → a && b ≡ true → b ≡ true
and_right true b h = h
and_right false b h = absurd (false≢true h)

and_none : (a b : Bool) → b ≡ false → a && b ≡ false
and_none true b h = h
and_none false b h = refl

-- no test past k has a number up to k
pub above : (l : List Test) (k n : ℕ) → rising k l ≡ true → n ≤ k → (back_at n l ≡ false) × (back_below n l ≡ false)
unfolding any_of rising
above [] k n r h = (refl, refl)
above (t ∷ l) k n r h =
    let m = t.answer.number in
    let up : k < m = ltb-true k m (and_left (ltb k m) (rising m l) r) in
    let rest = above l m n (and_right (ltb k m) (rising m l) r) (omega arith) in (
      or_none (and_none t.back (eqb m n) (ne_eqb m n (λ e. absurd (omega arith)))) rest.0,
      or_none (and_none t.back (ltb m n) (le-ltb m n (omega arith))) rest.1,
    )

-- one test and the rest: it sends back or not, its number is m, the rest gives f
one_more : (b : Bool) (m f n : ℕ) (A B : Bool) → (n ≤ m → (A ≡ false) × (B ≡ false)) → (f ≡ n) ↔ ((A ≡ true) × (B ≡ false)) → (pick b m f ≡ n) ↔ ((b && eqb m n || A ≡ true) × (b && ltb m n || B ≡ false))
one_more false m f n A B up rest = rest
one_more true m f n A B up rest = (
  λ q. (rw (eq-eqb m n q), or_none (le-ltb m n (omega arith)) (up (omega arith)).1),
  λ p. ⊎_elim (λ h. equal p h (decide m n)) (λ h. absurd (true≢false (sym (ap (λ b. b || B) (lt-ltb m n h)) ∙ p.1))) (decide n m),
)
  where
    equal : (eqb m n || A ≡ true) × (ltb m n || B ≡ false) → n ≤ m → (m ≤ n) ⊎ (n < m) → m ≡ n
    equal p h (inl k) = omega arith
    equal p h (inr k) =
        absurd (false≢true (sym (or_none (ne_eqb m n (λ e. absurd (omega arith))) (up h).0) ∙ p.0))

number-pick : (b : Bool) (q r : Refused) → (pick b q r).number ≡ pick b q.number r.number
number-pick true q r = refl
number-pick false q r = refl

-- number n is given exactly when its test sends back and none of a lower number does
pub exactly : (l : List Test) (k n : ℕ) → rising k l ≡ true → (n ≡ 0 → ⊥) → ((first l).number ≡ n) ↔ ((back_at n l ≡ true) × (back_below n l ≡ false))
unfolding any_of first rising
exactly [] k n r h = (λ e. absurd (h (sym e)), λ p. absurd (false≢true p.0))
exactly (t ∷ l) k n r h =
    let m = t.answer.number in
    let up = and_right (ltb k m) (rising m l) r in
    rw (number-pick t.back t.answer (first l))
    (one_more t.back m (first l).number n (back_at n l) (back_below n l) (above l m n up) (exactly l m n up h))

pub none-back : (l : List Test) (k : ℕ) → rising k l ≡ true → (first l).number ≡ 0 → any_back l ≡ false
unfolding any_of first rising
none-back [] k r z = refl
none-back (t ∷ l) k r z =
    under t.back refl (none-back l t.answer.number (and_right (ltb k t.answer.number) (rising t.answer.number l) r))
  where
    under : (b : Bool) → t.back ≡ b → ((first l).number ≡ 0 → any_back l ≡ false) → t.back || any_back l ≡ false
    under true e rest =
        let q : t.answer.number ≡ 0 = ap (λ b. (pick b t.answer (first l)).number) (sym e) ∙ z in
        absurd (omega (arith, ltb-true k t.answer.number (and_left (ltb k t.answer.number) (rising t.answer.number l) r)))
    under false e rest = or_none e (rest (ap (λ b. (pick b t.answer (first l)).number) (sym e) ∙ z))

pub back_none : (l : List Test) → any_back l ≡ false → first l ≡ accepted
unfolding any_of first
back_none [] h = refl
back_none (t ∷ l) h =
    ap (λ b. pick b t.answer (first l)) (or_left t.back (any_back l) h)
    ∙ back_none l (or_right t.back (any_back l) h)

-- each test by its place in the list, from 0
pub none-at : (l : List Test) → any_back l ≡ false → (i : ℕ) → (get_or l i (by 0 false)).back ≡ false
unfolding any_of
none-at [] h i = refl
none-at (t ∷ l) h zero = or_left t.back (any_back l) h
none-at (t ∷ l) h (suc i) = none-at l (or_right t.back (any_back l) h) i

-- ---- tests after others

-- tests after others are read where those give no number
pub first-append : (l m : List Test) (k : ℕ) → rising k l ≡ true → first (l ++ m) ≡ pick (eqb (first l).number 0) (first m) (first l)
unfolding first rising
first-append [] m k r = refl
first-append (t ∷ l) m k r =
    under t.back (first-append l m t.answer.number (and_right (ltb k t.answer.number) (rising t.answer.number l) r))
  where
    some : eqb t.answer.number 0 ≡ false
    some = ne_eqb t.answer.number 0 (λ e. absurd (omega (arith, ltb-true k t.answer.number (and_left (ltb k t.answer.number) (rising t.answer.number l) r))))

    under : (b : Bool) → first (l ++ m) ≡ pick (eqb (first l).number 0) (first m) (first l) → pick b t.answer (first (l ++ m)) ≡ pick (eqb (pick b t.answer (first l)).number 0) (first m) (pick b t.answer (first l))
    under true e = sym (ap (λ b. pick b (first m) t.answer) some)
    under false e = e
