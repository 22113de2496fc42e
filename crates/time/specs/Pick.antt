-- A choice by a test, and the rules that proofs close such choices with.
use Rattle.std.specs.Prelude.{Bool, true, false, ◌≡◌, refl}
use Rattle.std.proofs.lemmas.Bool.{false≢true, lt-leb}
use Rattle.std.proofs.Common.{sym, ◌∙◌, le-leb, lt-ltb, le-ltb, eq-eqb, ne_eqb}

-- the first where the test holds, else the second
abbrev pub pick : {A : Type 0} → Bool → A → A → A
pick true a b = a
pick false a b = b

-- both, in order
abbrev pub and : Bool → Bool → Bool
and a b = pick a b false

pub and_left : (a b : Bool) → and a b ≡ true → a ≡ true
and_left true b e = refl
and_left false b e = e

pub and_right : (a b : Bool) → and a b ≡ true → b ≡ true
and_right true b e = e
and_right false b e = absurd (false≢true e)

pub pick-then : {A : Type 0} (t : Bool) (v a b : A) → t ≡ true → v ≡ a → v ≡ pick t a b
pick-then t v a b e p = p ∙ rw e

pub pick_else : {A : Type 0} (t : Bool) (v a b : A) → t ≡ false → v ≡ b → v ≡ pick t a b
pick_else t v a b e p = p ∙ rw e

-- what follows from the test for each of the two holds of the one picked
pub by-test : {A : Type 0} (P : A → Type 0) (b : Bool) (x y : A) → (b ≡ true → P x) → (b ≡ false → P y) → P (pick b x y)
by-test P true x y p q = p refl
by-test P false x y p q = q refl

-- what holds of both holds of the one picked
pub of_choice : {A : Type 0} (P : A → Type 0) (b : Bool) (x y : A) → P x → P y → P (pick b x y)
of_choice P true x y p q = p
of_choice P false x y p q = q

-- a test that a call made
pub tested : (m b r : Bool) → r ≡ m → r ≡ b → m ≡ b
tested m b r p q = sym p ∙ q

pub ruleset picks = (pick-then, pick_else, tested, le-leb, lt-leb, lt-ltb, le-ltb, eq-eqb, ne_eqb)
