-- `deliver` of machine.rs: the plaintext goes to the frame's buffer, all of it or none.
use Rattle.std.specs.Prelude.{ℕ, ◌+◌, Bool, List, [], ◌∷◌, leb, length}
use Rattle.std.proofs.Math.Seq.{paste}
use Rattle.time.specs.Pick.{pick}
use Rattle.numbers.specs.Numbers.{reason_short_plaintext}
use Rattle.events.specs.Events.{Event, Deliver, Reject}
use Rattle.time.specs.Pick.{and}

-- `n` bytes are not below the floor, and stand at the front of a source and from `body` on in a
-- target of these lengths. The sum is exact
unfoldable pub reaches : ℕ → ℕ → ℕ → ℕ → ℕ → Bool
reaches body n floor source target = and (leb floor n) (and (leb n source) (leb (body + n) target))

-- the plaintext is delivered, or refused as too short (20, ShortPlaintext)
unfoldable pub deliver_out : ℕ → ℕ → ℕ → ℕ → ℕ → List ℕ → List ℕ → List Event
deliver_out slot tag body n floor source target =
    pick (reaches body n floor (length source) (length target)) (Deliver slot tag body (body + n) ∷ []) (Reject reason_short_plaintext ∷ [])

-- the target: the source's first `n` bytes from `body` on, every other byte as it was
-- (`paste t body s n` is `take body t ++ take n s ++ drop (body + n) t`)
unfoldable pub deliver_into : ℕ → ℕ → ℕ → List ℕ → List ℕ → List ℕ
deliver_into body n floor source target =
    pick (reaches body n floor (length source) (length target)) (paste target body source n) target
