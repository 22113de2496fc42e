-- What a line found in a buffer is, and why a search for one ends. Assumes nothing.
use Rattle.std.proofs.Common.{ℕ, ◌+◌, ◌-◌, ◌*◌, ◌≤◌, ◌<◌, Bool, true, false, cond, ◌≡◌, List, arith, length, refl, min, take, drop}
use Rattle.text_lines.specs.declared.input.Rest.{Rest}
use Rattle.text_lines.specs.declared.input.Rest.TheVariants.{More}
use Rattle.text_lines.specs.Inputs.{Filled, Found, more_comes}
use Rattle.text.specs.Bytes.{index_of}

-- how much longer a line can be looked for: what is held grows with each fill until the input ends
abbrev pub left : List ℕ → ℕ → ℕ → Rest → ℕ
left buf next filled rest = 2 * (length buf - (filled - next)) + cond (more_comes rest) 1 0

pub fill_falls : (before after : List ℕ) (next filled now : ℕ) (r : Rest) → filled ≤ length before → length after ≡ length before
    → Filled before after next filled now r → left after 0 now r < left before next filled More
fill_falls before after next filled now r e l f = by (more_comes r) refl
  where
    by : (t : Bool) → more_comes r ≡ t → 2 * (length after - (now - 0)) + cond t 1 0 < 2 * (length before - (filled - next)) + 1
    by true q = omega (arith, f.within, f.grown, f.more q)
    by false q = omega (arith, f.within, f.grown)

-- a line that ends where a search among the bytes that are held stopped
pub found : (buf now : List ℕ) (next stop filled start end filled' : ℕ) {behind : ℕ} → now ≡ buf → start ≡ next → end ≡ stop → filled' ≡ filled
    → stop ≡ next + index_of 10 (drop next (take filled buf)) → behind ≡ min (stop + 1) filled → Found now start end behind filled'
found buf now next stop filled start end filled' a b c d e f = rw (a, b, c, d) (record { ends = e; follows = f })
