-- What std's methods on numbers answer, in the words of the definitions.
use Rattle.std.specs.Prelude.{ℕ, ◌+◌, ◌*◌, ◌<◌, ◌≤◌, ◌≡◌, Bool, true, false, leb, min, max, Option, Some, None, SomeIff, unwrap_or}
use Rattle.std.proofs.Common.{refl, arith, leb-true, leb-false, le-leb}
use Rattle.std.proofs.lemmas.Bool.{lt-leb}
use Rattle.time.specs.declared.When.{When}
use Rattle.time.specs.Pick.{pick}
use Rattle.time.specs.Time.{end, later_of, least, most, sat_add, sat_mul, sum_of}
use Rattle.time.specs.Options.{when_of, option_of}

pub min_least : (a b : ℕ) → min a b ≡ least a b
unfolding least
min_least a b = under (leb a b) refl
  where
    under : (q : Bool) → leb a b ≡ q → min a b ≡ pick q a b
    under true e = let h : a ≤ b = leb-true a b e in omega arith
    under false e = let h : b < a = leb-false a b e in omega arith

pub max_most : (a b : ℕ) → max a b ≡ most a b
unfolding most
max_most a b = under (leb a b) refl
  where
    under : (q : Bool) → leb a b ≡ q → max a b ≡ pick q b a
    under true e = let h : a ≤ b = leb-true a b e in omega arith
    under false e = let h : b < a = leb-false a b e in omega arith

pub add_stops : (a b : ℕ) → min (a + b) end ≡ sat_add a b
unfolding sat_add least
add_stops a b = min_least (a + b) end

pub mul_stops : (a b : ℕ) → min (a * b) end ≡ sat_mul a b
unfolding sat_mul least
mul_stops a b = min_least (a * b) end

-- a sum or a product that stops and is capped below where it stops is the exact one capped
pub add_capped : (a b c : ℕ) → c < 18446744073709551616 → min (min (a + b) end) c ≡ least (a + b) c
add_capped a b c h = rw (← min_least (a + b) c) (omega arith)

pub mul_capped : (a b c : ℕ) → c < 18446744073709551616 → min (min (a * b) end) c ≡ least (a * b) c
mul_capped a b c h = rw (← min_least (a * b) c) (omega arith)

pub sum_checked : (a b : ℕ) (r : Option ℕ) → SomeIff r (a + b < 18446744073709551616) (a + b) → when_of r ≡ sum_of a b
unfolding sum_of
sum_checked a b None h = rw (lt-leb (a + b) end (omega arith))
sum_checked a b (Some x) (h, e) = rw (le-leb (a + b) end (omega arith), e)

-- where a sum does not fit, another answer
pub sum_or : (t d : ℕ) (r : Option ℕ) → SomeIff r (t + d < 18446744073709551616) (t + d) → unwrap_or r t ≡ later_of t d
unfolding later_of
sum_or t d None h = rw (lt-leb (t + d) end (omega arith))
sum_or t d (Some x) (h, e) = rw (le-leb (t + d) end (omega arith), e)

-- an option's value, or n, in the words of a number that may be absent
pub unwrap_when : (o : Option ℕ) (n : ℕ) → unwrap_or o n ≡ pick (when_of o).some (when_of o).at n
unwrap_when None n = refl
unwrap_when (Some t) n = refl

pub unwrap_got : (w : When) (n : ℕ) → unwrap_or (option_of w) n ≡ pick w.some w.at n
unwrap_got w n = under w.some
  where
    under : (b : Bool) → unwrap_or (pick b (Some w.at) None) n ≡ pick b w.at n
    under true = refl
    under false = refl

-- an option read as a number that may be absent, and back
pub got_when : (o : Option ℕ) → option_of (when_of o) ≡ o
got_when None = refl
got_when (Some t) = refl

pub ruleset std_words = (min_least, max_most, add_stops, mul_stops, add_capped, mul_capped, sum_checked, sum_or, unwrap_when, unwrap_got)
