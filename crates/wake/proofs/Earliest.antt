-- The least of some instants: laws of `earliest_of`, and of whether it is reached.
use Rattle.std.specs.Prelude.{ℕ, ◌≤◌, ◌<◌, min, Bool, true, ◌||◌, ◌≡◌, List, [], ◌∷◌, ◌++◌, leb}
use Rattle.std.proofs.Math.Bool.{false}
use Rattle.std.proofs.Math.Path.{refl}
use Rattle.std.proofs.Common.{sym, ◌∙◌, ap, arith, leb-true, leb-false}
use Rattle.time.specs.declared.When.{When}
use Rattle.time.specs.Pick.{pick}
use Rattle.time.specs.Lists.{fold, fold-append}
use Rattle.time.specs.Time.{none, at, least, sooner_of, reached_of}
use Rattle.candidates.specs.Held.{earliest_of}
use Rattle.state.specs.Parts.{listed}

-- ---- the earlier of two

least-min : (x y : ℕ) → least x y ≡ min x y
unfolding least
least-min x y = under (leb x y) refl
  where
    under : (q : Bool) → leb x y ≡ q → pick q x y ≡ min x y
    under true e = let h : x ≤ y = leb-true x y e in omega arith
    under false e = let h : y < x = leb-false x y e in omega arith

least-assoc : (a b c : ℕ) → least (least a b) c ≡ least a (least b c)
least-assoc a b c = simp least-min (omega arith)

pub sooner-at : (a b : ℕ) → sooner_of (at a) (at b) ≡ at (least a b)
unfolding sooner_of least
sooner-at a b = under (leb a b)
  where
    under : (q : Bool) → pick q (at a) (at b) ≡ at (pick q a b)
    under true = refl
    under false = refl

abbrev may : Bool → ℕ → When
may b t = record { some = b; at = t }

assoc : (p q r : Bool) (x y z : ℕ) → sooner_of (sooner_of (may p x) (may q y)) (may r z) ≡ sooner_of (may p x) (sooner_of (may q y) (may r z))
unfolding sooner_of
assoc true true true x y z =
    ap (λ w. sooner_of w (at z)) (sooner-at x y)
    ∙ (sooner-at (least x y) z ∙ (ap at (least-assoc x y z)
    ∙ (sym (sooner-at x (least y z)) ∙ ap (sooner_of (at x)) (sym (sooner-at y z)))))
assoc true true false x y z = ap (λ w. sooner_of w (may false z)) (sooner-at x y) ∙ sym (sooner-at x y)
assoc true false r x y z = refl
assoc false q r x y z = refl

pub sooner-assoc : (a b c : When) → sooner_of (sooner_of a b) c ≡ sooner_of a (sooner_of b c)
sooner-assoc a b c = assoc a.some b.some c.some a.at b.at c.at

least-reached : (x y now : ℕ) → leb (least x y) now ≡ (leb x now || leb y now)
unfolding least
least-reached x y now = under (leb x y) (leb x now) (leb y now) refl refl refl
  where
    under : (p q r : Bool) → leb x y ≡ p → leb x now ≡ q → leb y now ≡ r → leb (pick p x y) now ≡ (q || r)
    under true true r e f g = f
    under true false true e f g = absurd (omega (arith, leb-true x y e, leb-false x now f, leb-true y now g))
    under true false false e f g = f
    under false true true e f g = g
    under false true false e f g = absurd (omega (arith, leb-false x y e, leb-true x now f, leb-false y now g))
    under false false r e f g = g

-- the earlier of two is reached where one of them is
pub reached-sooner : (a b : When) (now : ℕ) → reached_of (sooner_of a b) now ≡ (reached_of a now || reached_of b now)
reached-sooner a b now = under a.some b.some a.at b.at
  where
    one : (q : Bool) → q ≡ (q || false)
    one true = refl
    one false = refl

    under : (p q : Bool) (x y : ℕ) → reached_of (sooner_of (may p x) (may q y)) now ≡ (reached_of (may p x) now || reached_of (may q y) now)
    under true true x y = ap (λ w. reached_of w now) (sooner-at x y) ∙ least-reached x y now
    under true false x y = unfold sooner_of in one (leb x now)
    under false q x y = unfold sooner_of in refl

-- ---- the least of a list

abbrev put : When → ℕ → When
put w t = sooner_of w (at t)

from : (w : When) → sooner_of w none ≡ w → (l : List ℕ) → fold put w l ≡ sooner_of w (fold put none l)
unfolding fold sooner_of
from w h [] = sym h
from w h (t ∷ l) =
    from (put w t) (sooner-assoc w (at t) none) l
    ∙ (sooner-assoc w (at t) (fold put none l) ∙ ap (sooner_of w) (sym (from (at t) refl l)))

pub earliest_cons : (t : ℕ) (l : List ℕ) → earliest_of (t ∷ l) ≡ sooner_of (at t) (earliest_of l)
unfolding earliest_of fold sooner_of
earliest_cons t l = from (at t) refl l

pub earliest_nil : earliest_of [] ≡ none
unfolding earliest_of fold
earliest_nil = refl

pub earliest_one : (t : ℕ) → earliest_of (t ∷ []) ≡ at t
unfolding earliest_of fold sooner_of
earliest_one t = refl

-- an absent one has nothing beside it
pub earliest_proper : (l : List ℕ) → sooner_of (earliest_of l) none ≡ earliest_of l
earliest_proper [] = unfold earliest_of fold sooner_of in refl
earliest_proper (t ∷ l) =
    ap (λ w. sooner_of w none) (earliest_cons t l)
    ∙ (sooner-assoc (at t) (earliest_of l) none ∙ (ap (sooner_of (at t)) (earliest_proper l) ∙ sym (earliest_cons t l)))

pub earliest_append : (l k : List ℕ) → earliest_of (l ++ k) ≡ sooner_of (earliest_of l) (earliest_of k)
unfolding earliest_of
earliest_append l k = fold-append put none l k ∙ from (earliest_of l) (earliest_proper l) k

pub earliest_listed : (b : Bool) (t : ℕ) → earliest_of (listed b t) ≡ pick b (at t) none
earliest_listed true t = earliest_one t
earliest_listed false t = earliest_nil

-- the least of two lists is reached where that of one is
pub reached-append : (l k : List ℕ) (now : ℕ) → reached_of (earliest_of (l ++ k)) now ≡ (reached_of (earliest_of l) now || reached_of (earliest_of k) now)
reached-append l k now = ap (λ w. reached_of w now) (earliest_append l k) ∙ reached-sooner (earliest_of l) (earliest_of k) now

pub reached-cons : (t : ℕ) (l : List ℕ) (now : ℕ) → reached_of (earliest_of (t ∷ l)) now ≡ (leb t now || reached_of (earliest_of l) now)
reached-cons t l now = ap (λ w. reached_of w now) (earliest_cons t l) ∙ reached-sooner (at t) (earliest_of l) now
