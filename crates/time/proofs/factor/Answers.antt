use Rattle.time.specs.Time.{factor_of}
use native.Mathlib.Omega.{arith}
use borrow.Author.Tests.{le-ltb, lt-ltb}
use borrow.Author.Rules.{rules}
use native.Mathlib.Nat.{one-mul, mod-eq_of_lt}
use lib.Pow.{pow-lt}
use Rattle.time.proofs.factor.Goals as goal

pub returns-then-exponent-lt32 : goal.returns-then-exponent-lt32
unfolding factor_of
returns-then-exponent-lt32 c = simp (lt-ltb c.args.exponent 32 (omega arith), one-mul, mod-eq_of_lt (pow-lt {i = c.args.exponent} {j = 64} (search rules)))

pub returns-else-exponent-lt32 : goal.returns-else-exponent-lt32
unfolding factor_of
returns-else-exponent-lt32 c = simp (le-ltb c.args.exponent 32 (omega arith))
