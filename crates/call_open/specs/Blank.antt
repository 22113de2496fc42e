-- What stands behind a flag that is off, in a case that the cycle is not in, and past a count:
-- zeros. It is no part of the state, and is fixed so that each answer is one equation.
use Rattle.std.specs.Prelude.{false, replicate}
use Rattle.time.specs.Time.{none}
use Rattle.ladder.specs.declared.Ladder.{Ladder}
use Rattle.ladder.specs.Schedule.{max_rungs}
use Rattle.numbers.specs.Numbers.{cycle_idle, wait_held}
use Rattle.epoch.specs.declared.Index.{Index}
use Rattle.epoch.specs.declared.Final.{Final}
use Rattle.epoch.specs.declared.MayLadder.{MayLadder}
use Rattle.epoch.specs.declared.Epoch.{Epoch}
use Rattle.epoch.specs.declared.MayEpoch.{MayEpoch}
use Rattle.epoch.specs.declared.Drain.{Drain}
use Rattle.cycle.specs.declared.Attempt.{Attempt}
use Rattle.cycle.specs.declared.PendI.{PendI}
use Rattle.cycle.specs.declared.PendR.{PendR}
use Rattle.cycle.specs.declared.Cycle.{Cycle}
use Rattle.candidates.specs.declared.Candidates.{Candidates}

abbrev pub no_index : Index
no_index = record { some = false; index = 0 }

-- over `Schedule::EMPTY`
unfoldable pub no_ladder : Ladder
no_ladder = record { origin = 0; sched = record { at = replicate max_rungs 0; keepalive = 0; len = 0 }; next = 0 }

unfoldable pub no_final : Final
no_final = record { some = false; msg = 0; ladder = no_ladder }

unfoldable pub no_repeats : MayLadder
no_repeats = record { some = false; ladder = no_ladder }

unfoldable pub no_epoch : Epoch
no_epoch =
    record {
      tag = 0;
      session = 0;
      sent = 0;
      ids = record { lease = no_index; theirs = no_index; transport = 0 };
      k = false;
      responder = false;
      base = none;
      started = 0;
      route = none;
      ext = 0;
      delegated = false;
      floor = none;
      heard = none;
      moved = none;
      assumed = false;
      fin = no_final;
      elicit = no_repeats;
      prompted = none;
    }

unfoldable pub no_current : MayEpoch
no_current = record { some = false; ep = no_epoch }

unfoldable pub no_drain : Drain
no_drain = record { some = false; ep = no_epoch; deadline = 0; evidenced = false }

unfoldable pub no_attempt : Attempt
no_attempt =
    record {
      hs = 0;
      out = 0;
      lease = no_index;
      transport = 0;
      first = 0;
      ladder = no_ladder;
      deadline = 0;
      resent = false;
    }

unfoldable pub no_pend_i : PendI
no_pend_i =
    record {
      ep = no_epoch;
      wait = wait_held;
      deadline = 0;
      restart = false;
      fin = no_final;
      probes = no_repeats;
      probed = none;
      stayed = false;
      reverted = false;
    }

unfoldable pub no_pend_r : PendR
no_pend_r = record { ep = no_epoch; deadline = 0; restart = false; answer = none }

unfoldable pub idle : Cycle
idle = record { kind = cycle_idle; init = no_attempt; pendi = no_pend_i; pendr = no_pend_r }

unfoldable pub no_candidates : Candidates
no_candidates =
    record {
      hs = replicate 32 0;
      msg1 = replicate 32 0;
      ack = replicate 32 0;
      carrier = replicate 32 0;
      route = replicate 32 0;
      born = replicate 32 0;
      deadline = replicate 32 0;
      bounded = replicate 32 0;
      bound = replicate 32 0;
      seq = replicate 32 0;
      len = 0;
      next = 0;
    }
