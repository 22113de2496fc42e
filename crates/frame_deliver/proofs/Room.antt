-- What a copy that is made has room for.
use Rattle.std.specs.Prelude.{ℕ, ◌≤◌, ◌+◌, Bool, true, false, ◌≡◌, refl, leb}
use Rattle.std.proofs.Common.{leb-true}
use Rattle.time.specs.Pick.{and}
use Rattle.frame_deliver.specs.Deliver.{reaches}

pub reaches-room : (body n floor source target : ℕ) → reaches body n floor source target ≡ true → (n ≤ source) × (body + n ≤ target)
unfolding reaches
reaches-room body n floor source target e =
    let p = both (leb floor n) (and (leb n source) (leb (body + n) target)) e in
    let q = both (leb n source) (leb (body + n) target) p.1 in
    (leb-true n source q.0, leb-true (body + n) target q.1)
  where
    both : (a b : Bool) → and a b ≡ true → (a ≡ true) × (b ≡ true)
    both true b e = (refl, e)
    both false b e = (e, cc)
