-- A cycle with the record of its case changed.
use Rattle.std.specs.Prelude.{Bool}
use Rattle.time.specs.declared.When.{When}
use Rattle.ladder.specs.declared.Ladder.{Ladder}
use Rattle.epoch.specs.declared.Final.{Final}
use Rattle.epoch.specs.declared.MayLadder.{MayLadder}
use Rattle.cycle.specs.declared.Attempt.{Attempt}
use Rattle.cycle.specs.declared.PendI.{PendI}
use Rattle.cycle.specs.declared.Cycle.{Cycle}

abbrev pub put_init : Cycle → Attempt → Cycle
put_init c a = record { kind = c.kind; init = a; pendi = c.pendi; pendr = c.pendr }

abbrev pub put_pend_i : Cycle → PendI → Cycle
put_pend_i c p = record { kind = c.kind; init = c.init; pendi = p; pendr = c.pendr }

-- an attempt with its ladder moved, and whether a resend was sent
abbrev pub moved_init : Attempt → Ladder → Bool → Attempt
moved_init a l b =
    record { hs = a.hs; out = a.out; lease = a.lease; transport = a.transport; first = a.first; ladder = l; deadline = a.deadline; resent = b }

abbrev pub with_fin : PendI → Final → PendI
with_fin p f =
    record {
      ep = p.ep;
      wait = p.wait;
      deadline = p.deadline;
      restart = p.restart;
      fin = f;
      probes = p.probes;
      probed = p.probed;
      stayed = p.stayed;
      reverted = p.reverted;
    }

-- probes moved, when the last probe was sent, and whether the peer was heard to stay
abbrev pub with_probes : PendI → MayLadder → When → Bool → PendI
with_probes p l w b =
    record {
      ep = p.ep;
      wait = p.wait;
      deadline = p.deadline;
      restart = p.restart;
      fin = p.fin;
      probes = l;
      probed = w;
      stayed = b;
      reverted = p.reverted;
    }
