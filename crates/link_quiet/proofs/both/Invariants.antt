use Rattle.std.proofs.Common.{◌≡◌}
use Rattle.time.specs.Time.{reached_of}
use Rattle.candidates.specs.Held.{between, earliest_of}
use Rattle.candidates.specs.Repeats.{rises, rises_from}
use Rattle.link_quiet.proofs.both.Given as goal

-- In one pass: whether a deadline from place i on is reached is whether any is, and whether the numbers
-- rise from place i on is whether all rise.
abbrev pub invariant-loop-i : goal.invariant-loop-i
invariant-loop-i l = (reached_of (earliest_of (between 0 l.v.len l.v.deadline)) l.time ≡ reached_of (earliest_of (between l.i l.v.len l.v.deadline)) l.time) × (rises (between 0 l.v.len l.v.seq) ≡ rises_from l.last (between l.i l.v.len l.v.seq))
