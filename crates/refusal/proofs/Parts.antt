-- Tests that are made in parts: those of l, and then those of m. Assumes nothing.
use mathlib.Core.Bool.{Bool, true, false}
use mathlib.Core.Path.{◌≡◌, refl, sym, ◌∙◌, ap}
use mathlib.Core.List.{List, [], ◌∷◌, ◌++◌}
use Rattle.time.specs.Pick.{pick}
use Rattle.std.specs.Prelude.{Result, Err}
use Rattle.std.proofs.Common.{arith}
use Rattle.refusal.specs.declared.Refusal.{Refusal}
use Rattle.refusal.specs.declared.Refusal.TheVariants as back
use Rattle.refusal.specs.Refused.{Refused, number_of, refused_of}
use Rattle.refusal.specs.Refusal.{any_of, Test, accepted, first}
use Rattle.refusal.specs.First.{rising, any_back}
use Rattle.refusal.proofs.First.{or_left, or_right, none-back}

stays : (l m : List Test) → ((first l).number ≡ 0 → ⊥) → first l ≡ first (l ++ m)
unfolding first
stays [] m h = absurd (h refl)
stays (t ∷ l) m h = under t.back h (stays l m)
  where
    under : (b : Bool) → ((pick b t.answer (first l)).number ≡ 0 → ⊥) → (((first l).number ≡ 0 → ⊥) → first l ≡ first (l ++ m)) → pick b t.answer (first l) ≡ pick b t.answer (first (l ++ m))
    under true h rest = refl
    under false h rest = rest h

passed_over : (l m : List Test) → any_back l ≡ false → first m ≡ first (l ++ m)
unfolding any_of first
passed_over [] m h = refl
passed_over (t ∷ l) m h =
    passed_over l m (or_right t.back (any_back l) h)
    ∙ ap (λ b. pick b t.answer (first (l ++ m))) (sym (or_left t.back (any_back l) h))

-- r is the answer of l
module _ (l : List Test) (r : Refused) (e : r ≡ first l) where
  -- one of l sends back
  pub in_first : (m : List Test) → (r.number ≡ 0 → ⊥) → r ≡ first (l ++ m)
  in_first m h = e ∙ stays l m (λ z. h (ap (λ q. q.number) e ∙ z))

  module _ (rise : rising 0 l ≡ true) (z : r.number ≡ 0) where
    none : any_back l ≡ false
    none = none-back l 0 rise (sym (ap (λ q. q.number) e) ∙ z)

    -- none does, and the answer is that of m
    pub in_next : (m : List Test) (q : Refused) → q ≡ first m → q ≡ first (l ++ m)
    in_next m q f = f ∙ passed_over l m none

-- a refusal has a number
pub numbered_one : (e : Refusal) → number_of e ≡ 0 → ⊥
numbered_one (back.Settings check) h = omega (arith, h)
numbered_one back.Profile h = omega (arith, h)
numbered_one back.Candidates h = omega (arith, h)
numbered_one back.NoCurrent h = omega (arith, h)
numbered_one back.Shared h = omega (arith, h)
numbered_one back.Ladder h = omega (arith, h)
numbered_one back.Draw h = omega (arith, h)
numbered_one back.Slot h = omega (arith, h)
numbered_one back.Tag h = omega (arith, h)
numbered_one back.NoStart h = omega (arith, h)
numbered_one back.Sent h = omega (arith, h)

-- tests in two parts: the first part sends back, ..
pub failed : (l m : List Test) (e : Refusal) (q : Result (Unit {0}) Refusal) → q ≡ Err e → refused_of (Err e) ≡ first l → refused_of q ≡ first (l ++ m)
failed l m e q h f = rw h (in_first l (refused_of (Err e)) f m (numbered_one e))

-- .. or it does not, and the second part decides
pub passed : (l m : List Test) (q : Result (Unit {0}) Refusal) → rising 0 l ≡ true → accepted ≡ first l → refused_of q ≡ first m → refused_of q ≡ first (l ++ m)
passed l m q r h f = in_next l accepted h r refl m (refused_of q) f
