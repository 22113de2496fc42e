-- A state with a record placed in it: where it stands, and what stays as it is.
use Rattle.std.specs.Prelude.{ℕ, ◌+◌, Bool, true, ltb, eqb, set}
use Rattle.time.specs.Pick.{pick}
use Rattle.time.specs.Time.{later_of, sat_add, most}
use Rattle.params.specs.Params.{confirm_of, value_or}
use Rattle.text_calls.specs.declared.Link.{Link}
use Rattle.numbers.specs.Numbers.{cycle_pend_i, cycle_pend_r, wait_held, wait_evidence}
use Rattle.settings.specs.declared.Config.{Config}
use Rattle.epoch.specs.declared.Epoch.{Epoch}
use Rattle.epoch.specs.declared.Drain.{Drain}
use Rattle.cycle.specs.declared.PendI.{PendI}
use Rattle.cycle.specs.declared.PendR.{PendR}
use Rattle.cycle.specs.declared.Cycle.{Cycle}
use Rattle.candidates.specs.declared.Candidates.{Candidates}
use Rattle.candidates.specs.Held.{Candidate}

-- the cycle with an own attempt that completed
unfoldable pub completed : Cycle → PendI → Cycle
completed c p = record { kind = cycle_pend_i; init = c.init; pendi = p; pendr = c.pendr }

-- when the wait of an own attempt ends: at once, with the confirmation window, or after the delay, as which any
-- other number counts, and not before a round trip
unfoldable pub wait_until : Link → ℕ → ℕ → ℕ
wait_until l now wait =
    pick (eqb wait wait_held) now
    (pick (eqb wait wait_evidence) (later_of now (confirm_of l.cfg))
    (later_of now (most l.cfg.delay (value_or 0 l.state.mem.hs_rtt))))

-- the cycle with a peer's attempt that was answered
unfoldable pub answered : Cycle → PendR → Cycle
answered c r = record { kind = cycle_pend_r; init = c.init; pendi = c.pendi; pendr = r }

-- a previous epoch that is there
unfoldable pub kept : Epoch → ℕ → Bool → Drain
kept e deadline evidenced = record { some = true; ep = e; deadline = deadline; evidenced = evidenced }

-- until when it is kept: the drain window after evidence that the peer moved, else the retention
unfoldable pub kept_until : Config → ℕ → Bool → ℕ
kept_until cfg now evidenced = later_of now (pick evidenced cfg.drain cfg.retention)

-- a candidate that came at an instant, with an arrival number and a deadline, and every other number 0
unfoldable pub arrived : ℕ → ℕ → ℕ → Candidate
arrived seq now deadline =
    record { hs = 0; msg1 = 0; ack = 0; carrier = 0; route = 0; born = now; deadline = deadline; bounded = 0; bound = 0; seq = seq }

-- the candidates with one more behind them, which came at an instant; with 32 of them as they were
unfoldable pub added : Candidates → ℕ → ℕ → Candidates
added v now deadline =
    pick (ltb v.len 32)
    (record {
      hs = set v.hs v.len 0;
      msg1 = set v.msg1 v.len 0;
      ack = set v.ack v.len 0;
      carrier = set v.carrier v.len 0;
      route = set v.route v.len 0;
      born = set v.born v.len now;
      deadline = set v.deadline v.len deadline;
      bounded = set v.bounded v.len 0;
      bound = set v.bound v.len 0;
      seq = set v.seq v.len v.next;
      len = v.len + 1;
      next = sat_add v.next 1;
    })
    v
