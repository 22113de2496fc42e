-- Laws of times: sums that stop, the lesser of two, what is reached.
use Rattle.std.specs.Prelude.{ℕ, ◌≤◌, ◌<◌, ◌+◌, ◌*◌, Bool, true, false, ◌≡◌, refl, ◌⊎◌, leb}
use Rattle.std.proofs.Common.{inl, inr, arith, leb-true, leb-false, le-leb}
use Rattle.std.proofs.lemmas.Bool.{lt-leb}
use Rattle.time.specs.Pick.{pick}
use Rattle.time.specs.Time.{at, end, later_by_of, later_of, least, most, none, sat_mul, sum_of}

-- two numbers are in order one way or the other
pub decide : (a b : ℕ) → (a ≤ b) ⊎ (b < a)
decide a b = under (leb a b) refl
  where
    under : (q : Bool) → leb a b ≡ q → (a ≤ b) ⊎ (b < a)
    under true e = inl (leb-true a b e)
    under false e = inr (leb-false a b e)

-- a product that stops at 2^64 - 1, and is capped below that, is the product capped
pub least-sat_mul : (a b c : ℕ) → c ≤ end → least (sat_mul a b) c ≡ least (a * b) c
unfolding least sat_mul
least-sat_mul a b c h = under (leb (a * b) end) refl
  where
    under : (t : Bool) → leb (a * b) end ≡ t → pick (leb (pick t (a * b) end) c) (pick t (a * b) end) c ≡ pick (leb (a * b) c) (a * b) c
    under true e = refl
    under false e =
        let past : end < a * b = leb-false (a * b) end e in
        rw (lt-leb (a * b) c (omega arith)) (last (leb end c) refl)
      where
        last : (t : Bool) → leb end c ≡ t → pick t end c ≡ c
        last true q = let p : end ≤ c = leb-true end c q in omega arith
        last false q = refl

-- a sum of two durations that may not fit moves an instant as the exact sum does
pub later_by_sum : (t a b : ℕ) → later_by_of t (sum_of a b) ≡ later_of t (a + b)
unfolding later_by_of sum_of later_of
later_by_sum t a b = under (leb (a + b) end) refl
  where
    under : (q : Bool) → leb (a + b) end ≡ q → pick (pick q (at (a + b)) none).some (pick (leb (t + (pick q (at (a + b)) none).at) end) (t + (pick q (at (a + b)) none).at) t) t ≡ pick (leb (t + (a + b)) end) (t + (a + b)) t
    under true e = refl
    under false e =
        let past : end < a + b = leb-false (a + b) end e in
        rw (lt-leb (t + (a + b)) end (omega arith))

-- an instant moved is not before it, and is one of the clock's
pub later-from : (t d : ℕ) → t ≤ later_of t d
unfolding later_of
later-from t d = under (leb (t + d) end)
  where
    under : (q : Bool) → t ≤ pick q (t + d) t
    under true = omega arith
    under false = omega arith

pub later-within : (t d : ℕ) → t ≤ end → later_of t d ≤ end
unfolding later_of
later-within t d h = under (leb (t + d) end) refl
  where
    under : (q : Bool) → leb (t + d) end ≡ q → pick q (t + d) t ≤ end
    under true e = leb-true (t + d) end e
    under false e = h

pub least-left : {a b : ℕ} → a ≤ b → least a b ≡ a
unfolding least
least-left {a} {b} h = rw (le-leb a b h)

pub least-right : {a b : ℕ} → b ≤ a → least a b ≡ b
unfolding least
least-right {a} {b} h = under (leb a b) refl
  where
    under : (q : Bool) → leb a b ≡ q → pick q a b ≡ b
    under true e = let p : a ≤ b = leb-true a b e in omega arith
    under false e = refl

pub least-le : (a b : ℕ) → (least a b ≤ a) × (least a b ≤ b)
unfolding least
least-le a b = under (leb a b) refl
  where
    under : (q : Bool) → leb a b ≡ q → (pick q a b ≤ a) × (pick q a b ≤ b)
    under true e = let p : a ≤ b = leb-true a b e in (omega arith, p)
    under false e = let p : b < a = leb-false a b e in (omega arith, omega arith)

pub most_ge : (a b : ℕ) → (a ≤ most a b) × (b ≤ most a b)
unfolding most
most_ge a b = under (leb a b) refl
  where
    under : (q : Bool) → leb a b ≡ q → (a ≤ pick q b a) × (b ≤ pick q b a)
    under true e = let p : a ≤ b = leb-true a b e in (p, omega arith)
    under false e = let p : b < a = leb-false a b e in (omega arith, omega arith)

-- a product that reaches 2^64 - 1 is 2^64 - 1
pub sat_mul-full : (a b : ℕ) → end ≤ a * b → sat_mul a b ≡ end
unfolding sat_mul
sat_mul-full a b h = under (leb (a * b) end) refl
  where
    under : (q : Bool) → leb (a * b) end ≡ q → pick q (a * b) end ≡ end
    under true e = let p : a * b ≤ end = leb-true (a * b) end e in omega arith
    under false e = refl
