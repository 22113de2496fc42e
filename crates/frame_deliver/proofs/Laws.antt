-- Laws of a frame's copy.
use Rattle.std.specs.Prelude.{ℕ, ◌≤◌, ◌<◌, ◌+◌, ◌-◌, Bool, true, false, ◌≡◌, refl, leb}
use Rattle.std.proofs.Common.{sym, arith, leb-true, leb-false, le-leb}
use Rattle.std.proofs.lemmas.Bool.{lt-leb}

-- the code takes the body's start away and adds nothing, so that no sum wraps
pub room_left : (body n target : ℕ) → body ≤ target → leb n (target - body) ≡ leb (body + n) target
room_left body n target h = under (leb n (target - body)) refl
  where
    under : (q : Bool) → leb n (target - body) ≡ q → q ≡ leb (body + n) target
    under true e = let p : n ≤ target - body = leb-true n (target - body) e in sym (le-leb (body + n) target (omega arith))
    under false e = let p : target - body < n = leb-false n (target - body) e in sym (lt-leb (body + n) target (omega arith))
