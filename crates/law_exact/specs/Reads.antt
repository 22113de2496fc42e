-- What a test says in words: what holds where it holds, and what holds where it fails.
use Rattle.std.specs.Prelude.{ℕ, ◌≤◌, ◌<◌, Bool, true, false, not, ◌&&◌, ◌||◌, ◌↔◌, ◌⊎◌, ◌≡◌, refl, List, [], ◌∷◌, T, ltb, eqb, ℤ, ◌≤ℤ◌, ◌<ℤ◌}
use Rattle.std.proofs.Common.{true≢false, inl, inr, ⊎_elim, ltb-true, ltb-false, lt-ltb, le-ltb, eqb-true, eq-eqb, ne_eqb}
use Rattle.std.proofs.lemmas.Bool.{false≢true, eqb-false}
use Rattle.std.specs.Int.Signed.{lt_z, lt_z_yes, lt_z_no, clash_ℤ}
use Rattle.candidates.specs.Repeats.{among, repeated}
use Rattle.refusal.specs.Refusal.{any_of}

pub record Reads (b : Bool) (Holds Fails : Type 0) : Type 0 where
  pub holds : (b ≡ true) ↔ Holds
  pub fails : (b ≡ false) ↔ Fails

-- ---- lists

-- something holds of each element
abbrev pub Each : {A : Type 0} → (A → Type 0) → List A → Type 0
Each P [] = Unit {0}
Each P (a ∷ l) = P a × Each P l

-- of some element
abbrev pub Some : {A : Type 0} → (A → Type 0) → List A → Type 0
Some P [] = ⊥
Some P (a ∷ l) = P a ⊎ Some P l

-- a number stands twice in a list
abbrev pub Twice : List ℕ → Type 0
Twice [] = ⊥
Twice (x ∷ l) = Some (λ y. y ≡ x) l ⊎ Twice l

-- each two numbers of a list differ
abbrev pub Apart : List ℕ → Type 0
Apart [] = Unit {0}
Apart (x ∷ l) = Each (λ y. y ≡ x → ⊥) l × Apart l

-- ---- tests of numbers

pub reads_less : (a b : ℕ) → Reads (ltb a b) (a < b) (b ≤ a)
reads_less a b = record { holds = (ltb-true a b, lt-ltb a b); fails = (ltb-false a b, le-ltb a b) }

pub reads_same : (a b : ℕ) → Reads (eqb a b) (a ≡ b) (a ≡ b → ⊥)
reads_same a b = record { holds = (eqb-true a b, eq-eqb a b); fails = (eqb-false a b, ne_eqb a b) }

T_of : {b : Bool} → b ≡ true → T b
T_of e = rw e tt

T-not-of : {b : Bool} → b ≡ false → T (not b)
T-not-of e = rw e tt

of_t : (b : Bool) → T b → b ≡ true
of_t true t = refl
of_t false t = absurd t

pub reads_below : (a b : ℤ) → Reads (lt_z a b) (a <ℤ b) (b ≤ℤ a)
reads_below a b =
    record {
      holds = (λ e. lt_z_yes (T_of e), λ h. of_t (lt_z a b) h.lt);
      fails = (λ e. lt_z_no (T-not-of e), under (lt_z a b) refl);
    }
  where
    under : (q : Bool) → lt_z a b ≡ q → b ≤ℤ a → lt_z a b ≡ false
    under true e h = clash_ℤ {a = a} {b = b} (lt_z_yes (T_of e)) h
    under false e h = e

-- ---- tests of tests

pub reads_flag : (b : Bool) → Reads b (b ≡ true) (b ≡ false)
reads_flag b = record { holds = (λ e. e, λ e. e); fails = (λ e. e, λ e. e) }

pub reads_not : {b : Bool} {P Q : Type 0} → Reads b P Q → Reads (not b) Q P
reads_not {b} r = under b r
  where
    under : (b : Bool) {P Q : Type 0} → Reads b P Q → Reads (not b) Q P
    under true r = record { holds = (λ e. absurd (false≢true e), λ q. absurd (true≢false (r.fails.1 q))); fails = (λ e. r.holds.0 refl, λ p. refl) }
    under false r = record { holds = (λ e. r.fails.0 refl, λ q. refl); fails = (λ e. absurd (true≢false e), λ p. absurd (false≢true (r.holds.1 p))) }

pub reads_or : {a b : Bool} {P P' Q Q' : Type 0} → Reads a P P' → Reads b Q Q' → Reads (a || b) (P ⊎ Q) (P' × Q')
reads_or {a} {b} {P} {P'} {Q} {Q'} r q = under a r
  where
    under : (a : Bool) → Reads a P P' → Reads (a || b) (P ⊎ Q) (P' × Q')
    under true r = record { holds = (λ e. inl (r.holds.0 refl), λ x. refl); fails = (λ e. absurd (true≢false e), λ x. r.fails.1 x.0) }
    under false r =
        record {
          holds = (λ e. inr (q.holds.0 e), ⊎_elim (λ p. absurd (false≢true (r.holds.1 p))) q.holds.1);
          fails = (λ e. (r.fails.0 refl, q.fails.0 e), λ x. q.fails.1 x.1);
        }

pub reads_and : {a b : Bool} {P P' Q Q' : Type 0} → Reads a P P' → Reads b Q Q' → Reads (a && b) (P × Q) (P' ⊎ Q')
reads_and {a} {b} {P} {P'} {Q} {Q'} r q = under a r
  where
    under : (a : Bool) → Reads a P P' → Reads (a && b) (P × Q) (P' ⊎ Q')
    under true r =
        record {
          holds = (λ e. (r.holds.0 refl, q.holds.0 e), λ x. q.holds.1 x.1);
          fails = (λ e. inr (q.fails.0 e), ⊎_elim (λ p. absurd (true≢false (r.fails.1 p))) q.fails.1);
        }
    under false r = record { holds = (λ e. absurd (false≢true e), λ x. r.holds.1 x.0); fails = (λ e. inl (r.fails.0 refl), λ x. refl) }

-- the same test in other words
pub reads_as : {b : Bool} {P P' Q Q' : Type 0} → Reads b P P' → P ↔ Q → P' ↔ Q' → Reads b Q Q'
reads_as r f g =
    record {
      holds = (λ e. f.0 (r.holds.0 e), λ x. r.holds.1 (f.1 x));
      fails = (λ e. g.0 (r.fails.0 e), λ x. r.fails.1 (g.1 x));
    }

-- ---- tests of lists

pub reads_any : {A : Type 0} (p : A → Bool) (P Q : A → Type 0) → ((a : A) → Reads (p a) (P a) (Q a)) → (l : List A) → Reads (any_of p l) (Some P l) (Each Q l)
unfolding any_of
reads_any p P Q r [] = record { holds = (λ e. absurd (false≢true e), λ x. absurd x); fails = (λ e. tt, λ x. refl) }
reads_any p P Q r (a ∷ l) = reads_or (r a) (reads_any p P Q r l)

reads_among : (x : ℕ) (l : List ℕ) → Reads (among x l) (Some (λ y. y ≡ x) l) (Each (λ y. y ≡ x → ⊥) l)
unfolding among
reads_among x [] = record { holds = (λ e. absurd (false≢true e), λ h. absurd h); fails = (λ e. tt, λ h. refl) }
reads_among x (y ∷ l) = reads_or (reads_same y x) (reads_among x l)

pub reads_twice : (l : List ℕ) → Reads (repeated l) (Twice l) (Apart l)
unfolding repeated
reads_twice [] = record { holds = (λ e. absurd (false≢true e), λ h. absurd h); fails = (λ e. tt, λ h. refl) }
reads_twice (x ∷ l) = reads_or (reads_among x l) (reads_twice l)
