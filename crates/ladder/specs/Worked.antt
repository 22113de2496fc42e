-- P1 to P11 of document 01, one table, against the definitions; P8 to P10 with the number taken, of which
-- request 2 says "P9 then gives 1 and P10 gives 3".
use Rattle.std.specs.Prelude.{ℕ, ◌-◌, true, false, ◌≡◌, List, [], ◌∷◌}
use Rattle.time.specs.Time.{none, at}
use Rattle.ladder.specs.declared.Ladder.{Ladder}
use Rattle.ladder.specs.Schedule.{max_rungs, Rung, Plan, send, keepalive, doubling_of, probes_of, laid}
use Rattle.ladder.specs.Ladder.{anew, next_at_of, due_of, take_of}

abbrev plan : List Rung → ℕ → Plan
plan l d = record { rungs = l; dropped = d }

-- P7's ladder from an origin, with its own schedule
abbrev p7 : ℕ → Ladder
p7 t = anew t (laid max_rungs (probes_of max_rungs 5000 1 10000 3000).rungs)

-- that from origin 0, past n of its rungs
abbrev past : ℕ → Ladder
past n = record { origin = 0; sched = (p7 0).sched; next = n }

-- P11's origin, 2^64 − 1001
abbrev late_origin : ℕ
late_origin = 18446744073709550615

pub record Table : Type 0 where
  pub p1 : doubling_of max_rungs 1000 1 (at 1000) ≡ plan [] 1
  pub p2 : doubling_of max_rungs 1000 1 (at 1001) ≡ plan (send 1000 ∷ []) 0
  pub p3 : doubling_of max_rungs 0 1 none ≡ plan (send 1 ∷ []) 0
  pub p4 : probes_of max_rungs 1000 0 10000 3000 ≡ plan (keepalive 3000 ∷ keepalive 6000 ∷ keepalive 9000 ∷ []) 0
  pub p5 : probes_of max_rungs 1000 0 9000 3000 ≡ plan (keepalive 3000 ∷ keepalive 6000 ∷ []) 0
  pub p6 : probes_of max_rungs 1000 0 20 0 ≡ plan (keepalive 1 ∷ keepalive 2 ∷ keepalive 3 ∷ keepalive 4 ∷ keepalive 5 ∷ keepalive 6 ∷ keepalive 7 ∷ keepalive 8 ∷ keepalive 9 ∷ keepalive 10 ∷ keepalive 11 ∷ keepalive 12 ∷ keepalive 13 ∷ keepalive 14 ∷ keepalive 15 ∷ keepalive 16 ∷ []) 3
  pub p7-plan : probes_of max_rungs 5000 1 10000 3000 ≡ plan (keepalive 3000 ∷ send 5000 ∷ keepalive 8000 ∷ []) 0
  -- nothing taken, and the ladder as it was
  pub p8 : take_of (p7 0) 2999 ≡ record { ladder = p7 0; any = false; taken = 0; send = false; latest = 0; last = false }
  pub p9 : take_of (p7 0) 3000 ≡ record { ladder = past 1; any = true; taken = 1; send = false; latest = 3000; last = false }
  pub p10 : take_of (p7 0) 8000 ≡ record { ladder = past 3; any = true; taken = 3; send = true; latest = 8000; last = true }
  -- due at the origin, and not before
  pub p11 : (next_at_of (p7 late_origin) ≡ at late_origin) × (due_of (p7 late_origin) late_origin ≡ true) × (due_of (p7 late_origin) (late_origin - 1) ≡ false)
