-- The first place of a list that is tried in parts. Assumes nothing.
use Prim.Native.Nat.{ℕ, suc, ◌+◌}
use mathlib.Core.Bool.{Bool, true, false}
use mathlib.Core.Path.{◌≡◌, refl, sym, ◌∙◌, ap}
use mathlib.Core.List.{List, [], ◌∷◌, ◌++◌}
use native.Mathlib.Omega.{arith}
use lib.ListN.{length, take, drop}
use Rattle.settings.specs.declared.Config.{Config}
use Rattle.settings.specs.declared.Check.{Check}
use Rattle.settings.specs.declared.Check.TheVariants.{NoMessages, MessagesPastSoft, AfterWithinJitter, AfterBelowFloor, AfterTooLong, NoCheck, NoHold, NoRevert, NoTtl, NoSilence, HandshakeTooShort, DrainTooShort, RetentionBelowDrain, HoldTooShort, SoftPastHard}
use Rattle.settings.specs.Settings.{failing, first_at, place_of}
use Rattle.settings.specs.Checks.{check_place}

-- the first part has the place
pub here : (n : ℕ) (a b : List Bool) → (first_at n a ≡ 0 → ⊥) → first_at n a ≡ first_at n (a ++ b)
unfolding first_at
here n [] b h = absurd (h refl)
here n (true ∷ a) b h = refl
here n (false ∷ a) b h = here (suc n) a b h

-- it has none, and the place is that of the rest
pub beyond : (n : ℕ) (a b : List Bool) → first_at (suc n) a ≡ 0 → first_at (suc n) (a ++ b) ≡ first_at (suc n + length a) b
unfolding first_at
beyond n [] b h = rw (same n)
  where
    same : (n : ℕ) → suc n + 0 ≡ suc n
    same n = omega arith
beyond n (true ∷ a) b h = absurd (omega arith)
beyond n (false ∷ a) b h = beyond (suc n) a b h ∙ ap (λ (k : ℕ). first_at k b) (omega arith)

-- every check has a place
place-some : (c : Check) → check_place c ≡ 0 → ⊥
place-some NoMessages e = absurd (omega arith)
place-some MessagesPastSoft e = absurd (omega arith)
place-some AfterWithinJitter e = absurd (omega arith)
place-some AfterBelowFloor e = absurd (omega arith)
place-some AfterTooLong e = absurd (omega arith)
place-some NoCheck e = absurd (omega arith)
place-some NoHold e = absurd (omega arith)
place-some NoRevert e = absurd (omega arith)
place-some NoTtl e = absurd (omega arith)
place-some NoSilence e = absurd (omega arith)
place-some HandshakeTooShort e = absurd (omega arith)
place-some DrainTooShort e = absurd (omega arith)
place-some RetentionBelowDrain e = absurd (omega arith)
place-some HoldTooShort e = absurd (omega arith)
place-some SoftPastHard e = absurd (omega arith)

module _ (cfg : Config) where
  -- the checks by group: triggers, positives, windows
  abbrev one : List Bool
  one = take 5 (failing cfg)

  abbrev two : List Bool
  two = take 5 (drop 5 (failing cfg))

  abbrev three : List Bool
  three = drop 10 (failing cfg)

  pub in_one : (c : Check) → check_place c ≡ first_at 1 one → check_place c ≡ place_of cfg
  unfolding failing place_of
  in_one c e = e ∙ here 1 one (two ++ three) (λ z. place-some c (e ∙ z))

  pub in_two : (c : Check) → 0 ≡ first_at 1 one → check_place c ≡ first_at 6 two → check_place c ≡ place_of cfg
  unfolding failing place_of
  in_two c p e = e ∙ here 6 two three (λ y. place-some c (e ∙ y)) ∙ sym (beyond 0 one (two ++ three) (sym p))

  pub in_three : (r : ℕ) → 0 ≡ first_at 1 one → 0 ≡ first_at 6 two → r ≡ first_at 11 three → r ≡ place_of cfg
  unfolding failing place_of
  in_three r p q e = e ∙ sym (beyond 5 two three (sym q)) ∙ sym (beyond 0 one (two ++ three) (sym p))
