-- Laws of the rows that a frame runs on one part of the state.
use Rattle.std.specs.Prelude.{ℕ, ◌≤◌, Bool, not, ◌≡◌}
use Rattle.std.proofs.Math.Bool.{true, false}
use Rattle.std.proofs.Math.Path.{refl, ap}
use Rattle.std.proofs.Common.{◌∙◌}
use native.Mathlib.Omega.{arith}
use Rattle.time.specs.Pick.{pick}
use Rattle.time.specs.Time.{at, least, later_of}
use Rattle.time.specs.Laws.{least-le}
use Rattle.epoch.specs.declared.Drain.{Drain}
use Rattle.time.specs.Pick.{and}
use Rattle.frame_evidence.specs.Evidence.{prompt_due, shortened}

module _ (d : Drain) (hold now : ℕ) where
  abbrev short : Drain
  short = record { some = d.some; ep = d.ep; deadline = least d.deadline (later_of now hold); evidenced = true }

  -- a drain's deadline never rises
  pub shortened_falls : (moves : Bool) → (shortened d moves hold now).deadline ≤ d.deadline
  unfolding shortened
  shortened_falls moves = under (and moves (and d.some (not d.evidenced)))
    where
      under : (b : Bool) → (pick b short d).deadline ≤ d.deadline
      under true = (least-le d.deadline (later_of now hold)).0
      under false = omega arith

  -- a frame that does not show that the peer moved leaves it
  pub unmoved : shortened d false hold now ≡ d
  unfolding shortened
  unmoved = refl

  -- and it is shortened once
  pub once : (moves : Bool) → d.evidenced ≡ true → shortened d moves hold now ≡ d
  unfolding shortened
  once moves e = ap (λ b. pick (and moves (and d.some (not b))) short d) e ∙ under moves d.some
    where
      under : (a b : Bool) → pick (and a (and b false)) short d ≡ d
      under true true = refl
      under true false = refl
      under false b = refl

-- "A blind probe last prompted at 5000 draws no prompt at 5999 and one at 6000."
pub prompt-early : prompt_due (at 5000) 5999 ≡ false
unfolding prompt_due later_of
prompt-early = refl

pub prompt_in_time : prompt_due (at 5000) 6000 ≡ true
unfolding prompt_due later_of
prompt_in_time = refl
