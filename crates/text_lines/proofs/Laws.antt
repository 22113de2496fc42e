-- What a buffer holds once bytes are put, and a number as `io` spells it. Assumes nothing.
use Rattle.std.proofs.Common.{ℕ, zero, suc, ◌+◌, ◌-◌, ◌*◌, ◌/◌, ◌%◌, ◌^◌, ◌≤◌, ◌<◌, Bool, true, false, ◌≡◌, refl, sym, List, arith, sub-one, not-suc-le-zero, length, leb, le-leb, leb-true, leb-false, lt-ltb, le-ltb}
use native.Mathlib.Nat.{pow-succ', one-le-pow, pow-le-pow_right}
use borrow.Author.Tests.{lt-leb}
use Rattle.io.specs.Digits.{last_digits, IsDigitCount}
use Rattle.text_lines.specs.Outputs.{fits, written, written_to, held, held_to, decimal}

-- a test that no sum of the code wraps in
pub leb-sub : (n at len : ℕ) → at ≤ len → leb n (len - at) ≡ leb (at + n) len
leb-sub n at len h = by (leb n (len - at)) refl
  where
    by : (t : Bool) → leb n (len - at) ≡ t → t ≡ leb (at + n) len
    by true e = sym (le-leb (at + n) len (omega (arith, leb-true n (len - at) e)))
    by false e = sym (lt-leb (at + n) len (omega (arith, leb-false n (len - at) e)))

-- what a buffer holds once s is put, by whether s fits
module _ (d : List ℕ) (at : ℕ) (s : List ℕ) where
  pub held-behind : fits d at s ≡ true → (written_to d at s ≡ held_to d at s) × (written d at s ≡ held d at s)
  unfolding held held_to written_to
  held-behind e = (rw e (omega (arith, leb-true (at + length s) (length d) e)), rw e)

  pub held-front : fits d at s ≡ false → length s ≤ length d → (written_to d 0 s ≡ held_to d at s) × (written d 0 s ≡ held d at s)
  unfolding held held_to written_to
  held-front e h = let f : fits d 0 s ≡ true = le-leb (0 + length s) (length d) (omega arith) in (rw (e, f) (omega arith), rw (e, f))

  pub held-apart : fits d at s ≡ false → length d < length s → (0 ≡ held_to d at s) × (d ≡ held d at s)
  unfolding held held_to
  held-apart e h = let f : fits d 0 s ≡ false = lt-leb (0 + length s) (length d) (omega arith) in (rw (e, f), rw (e, f))

-- a number as `io::decimal` spells it, in the fewest digits
fewest : (k r n : ℕ) → r ≤ k → IsDigitCount 10 1 n r → last_digits 10 r n ≡ decimal k n
unfolding decimal
fewest k zero n h f = absurd (not-suc-le-zero f.0)
fewest zero (suc r) n h f = absurd (not-suc-le-zero h)
fewest (suc k) (suc zero) n h f =
    let l : n < 10 = f.1 in
    let e : n % 10 ≡ n = omega arith in
    simp (lt-ltb n 10 l, e)
fewest (suc k) (suc (suc r)) n h f =
    let upper : n < 10 * 10 ^ suc r = rw pow-succ' at f.1 in
    let lower : 10 * 10 ^ r ≤ n = rw (sub-one, pow-succ') at (f.2 (omega arith)) in
    let one≤ : 1 ≤ 10 ^ r = one-le-pow r 10 (omega arith) in
    let rest : last_digits 10 (suc r) (n / 10) ≡ decimal k (n / 10) = fewest k (suc r) (n / 10) (omega arith) (omega arith, omega arith, λ q. rw sub-one (omega arith)) in
    simp (le-ltb n 10 (omega arith), lt-ltb (n % 10) 10 (omega arith), rest)

pub spelled : (n r : ℕ) → n < 2 ^ 64 → IsDigitCount 10 1 n r → last_digits 10 r n ≡ decimal 20 n
spelled n r l f = fewest 20 r n (under (leb r 20) refl) f
  where
    under : (t : Bool) → leb r 20 ≡ t → r ≤ 20
    under true e = leb-true r 20 e
    under false e =
        let h : 20 < r = leb-false r 20 e in
        let p : 10 ^ 20 ≤ 10 ^ (r - 1) = pow-le-pow_right {n = 10} (omega arith) {i = 20} {j = r - 1} (omega arith) in
        omega (arith, f.2 (omega arith))

pub ruleset fits_laws = (leb-sub, le-leb, lt-leb)

pub ruleset held_laws = (held-behind, held-front, held-apart)
