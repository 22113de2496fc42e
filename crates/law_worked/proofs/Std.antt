-- What std's operators and two of its methods answer, in the words of the definitions.
use Rattle.std.specs.Prelude.{ℕ, ◌+◌, ◌≡◌, refl, Bool, true, false, ◌&&◌, ◌||◌, min}
use Rattle.std.specs.Bool.{then_some}
use Rattle.time.specs.Pick.{pick, and}
use Rattle.time.specs.Time.{least, whenever}
use Rattle.time.specs.Options.{when_of}
use Rattle.time.proofs.Std.{min_least}

-- `a && b` is both, in order
pub and_met : (a b : Bool) → (a && b) ≡ and a b
and_met true b = refl
and_met false b = refl

-- `a || b` is one or the other
pub either_met : (a b : Bool) → (a || b) ≡ pick a true b
either_met true b = refl
either_met false b = refl

-- `then_some` gives a number that is there where a flag is on
pub whenever_told : (b : Bool) (n : ℕ) → when_of (then_some b n) ≡ whenever b n
whenever_told true n = refl
whenever_told false n = refl

-- `saturating_add(1)` of a `u8` is one more, at most 255
pub one_more_least : (n : ℕ) → min (n + 1) 255 ≡ least (n + 1) 255
one_more_least n = min_least (n + 1) 255
