-- An epoch with one of its parts changed.
use Rattle.std.specs.Prelude.{Bool, false}
use Rattle.time.specs.declared.When.{When}
use Rattle.ladder.specs.declared.Ladder.{Ladder}
use Rattle.epoch.specs.declared.Final.{Final}
use Rattle.epoch.specs.declared.MayLadder.{MayLadder}
use Rattle.epoch.specs.declared.Epoch.{Epoch}
use Rattle.epoch.specs.declared.MayEpoch.{MayEpoch}

abbrev pub put_fin : Epoch → Final → Epoch
put_fin e f =
    record {
      tag = e.tag;
      session = e.session;
      sent = e.sent;
      ids = e.ids;
      k = e.k;
      responder = e.responder;
      base = e.base;
      started = e.started;
      route = e.route;
      ext = e.ext;
      delegated = e.delegated;
      floor = e.floor;
      heard = e.heard;
      moved = e.moved;
      assumed = e.assumed;
      fin = f;
      elicit = e.elicit;
      prompted = e.prompted;
    }

-- prompt repeats, and when the last prompt was sealed
abbrev pub put_elicit : Epoch → MayLadder → When → Epoch
put_elicit e l w =
    record {
      tag = e.tag;
      session = e.session;
      sent = e.sent;
      ids = e.ids;
      k = e.k;
      responder = e.responder;
      base = e.base;
      started = e.started;
      route = e.route;
      ext = e.ext;
      delegated = e.delegated;
      floor = e.floor;
      heard = e.heard;
      moved = e.moved;
      assumed = e.assumed;
      fin = e.fin;
      elicit = l;
      prompted = w;
    }

abbrev pub put_prompted : Epoch → When → Epoch
put_prompted e w = put_elicit e e.elicit w

abbrev pub put_assumed : Epoch → Bool → Epoch
put_assumed e b =
    record {
      tag = e.tag;
      session = e.session;
      sent = e.sent;
      ids = e.ids;
      k = e.k;
      responder = e.responder;
      base = e.base;
      started = e.started;
      route = e.route;
      ext = e.ext;
      delegated = e.delegated;
      floor = e.floor;
      heard = e.heard;
      moved = e.moved;
      assumed = b;
      fin = e.fin;
      elicit = e.elicit;
      prompted = e.prompted;
    }

-- a final message with its ladder moved, still kept or not
abbrev pub moved_fin : Final → Bool → Ladder → Final
moved_fin f keep l = record { some = keep; msg = f.msg; ladder = l }

abbrev pub drop_fin : Final → Final
drop_fin f = record { some = false; msg = f.msg; ladder = f.ladder }

abbrev pub drop_ladder : MayLadder → MayLadder
drop_ladder l = record { some = false; ladder = l.ladder }

-- the current epoch's place with another epoch in it
abbrev pub put_ep : MayEpoch → Epoch → MayEpoch
put_ep c e = record { some = c.some; ep = e }
