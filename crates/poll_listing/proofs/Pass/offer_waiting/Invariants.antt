use Rattle.std.proofs.Common.{◌≡◌, ◌≤◌, ◌+◌, length}
use Rattle.candidates.specs.Held.{held_of}
use Rattle.poll_listing.specs.Listing.{offered, waiting_from}
use Rattle.poll_listing.proofs.Pass.offer_waiting.Given as goal

-- The candidates from place i on, offered to what is there, give what all of them give.
abbrev pub invariant-loop-i : goal.invariant-loop-i
invariant-loop-i l =
    (length l.items ≤ length l.initial.items + l.i)
    × (offered l.self.listed.now l.self.time l.initial.items (waiting_from l.c.deadline l.c.seq 0 (held_of l.c.len)) ≡ offered l.self.listed.now l.self.time l.items (waiting_from l.c.deadline l.c.seq l.i (held_of l.c.len)))
