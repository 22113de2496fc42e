use native.Mathlib.Omega.{arith}
use Prim.Native.Nat.{ℕ, ◌+◌, ◌-◌, ◌*◌, ◌^◌, ◌%◌, ◌≤◌, ◌<◌}
use mathlib.Core.Path.{◌≡◌, sym, ◌∙◌, ap}
use native.Mathlib.Nat.{one-mul, mod-eq_of_lt, mul-le-mul}
use lib.Pow.{pow-lt, pow_pos, pow_mono}
use Rattle.time.specs.Time.{sat_mul}
use Rattle.time.specs.Laws.{sat_mul-full}
use Rattle.time.proofs.Std.{mul_stops}
use Rattle.ladder.specs.Schedule.{doubled}
use Rattle.ladder.proofs.doubled.Goals as goal

-- a shift below the width loses nothing
shifted : (k : ℕ) → k < 64 → (1 * 2 ^ k) % 2 ^ 64 ≡ 2 ^ k
shifted k h = rw (one-mul (2 ^ k)) (mod-eq_of_lt (pow-lt {i = k} {j = 64} h))

pub overflow_sub-p : goal.overflow_sub-p
overflow_sub-p c =
    rw (shifted (c.args.i + 1) (omega arith)) (pow_pos (c.args.i + 1))

pub returns-then-i-lt63 : goal.returns-then-i-lt63
unfolding doubled
returns-then-i-lt63 c =
    c.saturating_mul.ensures ∙ mul_stops c.args.first ((1 * 2 ^ (c.args.i + 1)) % 2 ^ 64 - 1) ∙ ap (λ p. sat_mul c.args.first (p - 1)) (shifted (c.args.i + 1) (omega arith))

pub returns-else-i-lt63 : goal.returns-else-i-lt63
unfolding doubled
returns-else-i-lt63 c =
    let p : 2 ^ 64 ≤ 2 ^ (c.args.i + 1) = pow_mono {i = 64} {j = c.args.i + 1} (omega arith) in
    let q : 18446744073709551615 ≤ 2 ^ (c.args.i + 1) - 1 = omega arith in
    let m : 1 * 18446744073709551615 ≤ c.args.first * (2 ^ (c.args.i + 1) - 1) = mul-le-mul c.requires q in
    sym (sat_mul-full c.args.first (2 ^ (c.args.i + 1) - 1) m)
