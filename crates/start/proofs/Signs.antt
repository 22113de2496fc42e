-- What the two signs of a jitter tell. Assumes nothing.
use Rattle.std.specs.Prelude.{ℕ, ◌-◌, ◌*◌, true, false, ◌≡◌, refl, ℤ, pos, negsuc, unsigned_abs, int_lt}
use Rattle.std.proofs.Common.{arith, ltb-true, subst}
use lib.Dec.{T}
use Rattle.time.specs.Time.{sat_add}
use Rattle.start.specs.Start.{trigger_of}

pub less-value : (after : ℕ) (z : ℤ) → int_lt z (pos 0) ≡ true → after - unsigned_abs z * 1000 ≡ trigger_of after z
unfolding trigger_of
less-value after (pos n) e = absurd (omega (arith, ltb-true n 0 e))
less-value after (negsuc n) e = omega arith

pub more-value : (after : ℕ) (z : ℤ) → int_lt z (pos 0) ≡ false → sat_add after (unsigned_abs z * 1000) ≡ trigger_of after z
unfolding trigger_of
more-value after (pos n) e = refl
more-value after (negsuc n) e = absurd (subst T e tt)
