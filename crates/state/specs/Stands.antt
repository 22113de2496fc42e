-- What stands: "One definition says which parts of the record are the state: not the fields of an
-- absent optional or of a case the cycle is not in, not candidate places past the count, not offsets
-- and map bits past a schedule's length." Two records are the same state where `stands` is the same.
use Rattle.std.specs.Prelude.{ℕ, Bool, List, map, eqb, ℤ}
use Rattle.time.specs.declared.When.{When}
use Rattle.time.specs.Pick.{pick}
use Rattle.ladder.specs.declared.Ladder.{Ladder}
use Rattle.ladder.specs.Schedule.{Rung, max_rungs, rungs_of}
use Rattle.epoch.specs.declared.Index.{Index}
use Rattle.epoch.specs.declared.Final.{Final}
use Rattle.epoch.specs.declared.MayLadder.{MayLadder}
use Rattle.epoch.specs.declared.Epoch.{Epoch}
use Rattle.epoch.specs.declared.Drain.{Drain}
use Rattle.cycle.specs.declared.Attempt.{Attempt}
use Rattle.cycle.specs.declared.PendI.{PendI}
use Rattle.cycle.specs.declared.PendR.{PendR}
use Rattle.cycle.specs.declared.Cycle.{Cycle}
use Rattle.cycle.specs.Kind.{is_init, is_pend_i, is_pend_r, waits_held, waits_evidence}
use Rattle.candidates.specs.declared.Candidates.{Candidates}
use Rattle.candidates.specs.Held.{Candidate, held_by}
use Rattle.state.specs.declared.Memory.{Memory}
use Rattle.state.specs.declared.State.{State}

-- ---- an optional

pub data May (A : Type 0) : Type 0 where
  none : May A
  some : A → May A

abbrev pub may : {A : Type 0} → Bool → A → May A
may b a = pick b (some a) none

abbrev pub when_view : When → May ℕ
when_view w = may w.some w.at

abbrev pub index_view : Index → May ℕ
index_view i = may i.some i.index

-- ---- ladders: "A schedule has at most 16 rungs, each an offset and a kind". The length itself
-- stands too: a state that is sent back may claim more rungs than there are places.

pub record LadderView : Type 0 where
  pub origin : ℕ
  pub len : ℕ
  pub rungs : List Rung
  pub next : ℕ

unfoldable pub ladder_view : Ladder → LadderView
ladder_view l =
    record { origin = l.origin; len = l.sched.len; rungs = rungs_of max_rungs l.sched; next = l.next }

pub record FinalView : Type 0 where
  pub msg : ℕ
  pub ladder : LadderView

abbrev pub final_view : Final → May FinalView
final_view f = may f.some (record { msg = f.msg; ladder = ladder_view f.ladder })

abbrev pub may_ladder_view : MayLadder → May LadderView
may_ladder_view l = may l.some (ladder_view l.ladder)

-- ---- epochs

pub record EpochView : Type 0 where
  pub tag : ℕ
  pub session : ℕ
  pub sent : ℕ
  pub lease : May ℕ
  pub theirs : May ℕ
  pub transport : ℕ
  pub k : Bool
  pub responder : Bool
  pub base : May ℕ
  pub started : ℕ
  pub route : May ℕ
  pub ext : ℕ
  pub delegated : Bool
  pub floor : May ℕ
  pub heard : May ℕ
  pub moved : May ℕ
  pub assumed : Bool
  pub fin : May FinalView
  pub elicit : May LadderView
  pub prompted : May ℕ

unfoldable pub epoch_view : Epoch → EpochView
epoch_view e =
    record {
      tag = e.tag;
      session = e.session;
      sent = e.sent;
      lease = index_view e.ids.lease;
      theirs = index_view e.ids.theirs;
      transport = e.ids.transport;
      k = e.k;
      responder = e.responder;
      base = when_view e.base;
      started = e.started;
      route = when_view e.route;
      ext = e.ext;
      delegated = e.delegated;
      floor = when_view e.floor;
      heard = when_view e.heard;
      moved = when_view e.moved;
      assumed = e.assumed;
      fin = final_view e.fin;
      elicit = may_ladder_view e.elicit;
      prompted = when_view e.prompted;
    }

pub record DrainView : Type 0 where
  pub ep : EpochView
  pub deadline : ℕ
  pub evidenced : Bool

abbrev pub drain_view : Drain → May DrainView
drain_view d = may d.some (record { ep = epoch_view d.ep; deadline = d.deadline; evidenced = d.evidenced })

-- ---- the cycle: the record of its own case

pub record AttemptView : Type 0 where
  pub hs : ℕ
  pub out : ℕ
  pub lease : May ℕ
  pub transport : ℕ
  pub first : ℕ
  pub ladder : LadderView
  pub deadline : ℕ
  pub resent : Bool

pub data Wait : Type 0 where
  held evidence delay : Wait

pub record PendIView : Type 0 where
  pub ep : EpochView
  pub wait : Wait
  pub deadline : ℕ
  pub restart : Bool
  pub fin : May FinalView
  pub probes : May LadderView
  pub probed : May ℕ
  pub stayed : Bool
  pub reverted : Bool

pub record PendRView : Type 0 where
  pub ep : EpochView
  pub deadline : ℕ
  pub restart : Bool
  pub answer : May ℕ

pub data CycleView : Type 0 where
  idle : CycleView
  init : AttemptView → CycleView
  pend_i : PendIView → CycleView
  pend_r : PendRView → CycleView

unfoldable pub attempt_view : Attempt → AttemptView
attempt_view a =
    record {
      hs = a.hs;
      out = a.out;
      lease = index_view a.lease;
      transport = a.transport;
      first = a.first;
      ladder = ladder_view a.ladder;
      deadline = a.deadline;
      resent = a.resent;
    }

unfoldable pub pend_iView : PendI → PendIView
pend_iView p =
    record {
      ep = epoch_view p.ep;
      wait = pick (waits_held p.wait) held (pick (waits_evidence p.wait) evidence delay);
      deadline = p.deadline;
      restart = p.restart;
      fin = final_view p.fin;
      probes = may_ladder_view p.probes;
      probed = when_view p.probed;
      stayed = p.stayed;
      reverted = p.reverted;
    }

unfoldable pub pend_rView : PendR → PendRView
pend_rView p =
    record { ep = epoch_view p.ep; deadline = p.deadline; restart = p.restart; answer = when_view p.answer }

unfoldable pub cycle_view : Cycle → CycleView
cycle_view c =
    pick (is_init c.kind) (init (attempt_view c.init))
    (pick (is_pend_i c.kind) (pend_i (pend_iView c.pendi))
    (pick (is_pend_r c.kind) (pend_r (pend_rView c.pendr)) idle))

-- ---- candidates: those below the count, oldest first. The count itself stands too.

pub record CandidateView : Type 0 where
  pub hs : ℕ
  pub msg1 : ℕ
  pub ack : ℕ
  pub carrier : ℕ
  pub route : ℕ
  pub born : ℕ
  pub deadline : ℕ
  pub bound : May ℕ
  pub seq : ℕ

pub record CandidatesView : Type 0 where
  pub count : ℕ
  pub list : List CandidateView
  pub next : ℕ

unfoldable pub candidate_view : Candidate → CandidateView
candidate_view c =
    record {
      hs = c.hs;
      msg1 = c.msg1;
      ack = c.ack;
      carrier = c.carrier;
      route = c.route;
      born = c.born;
      deadline = c.deadline;
      bound = pick (eqb c.bounded 0) none (some c.bound);
      seq = c.seq;
    }

unfoldable pub candidates_view : Candidates → CandidatesView
candidates_view v = record { count = v.len; list = map candidate_view (held_by v); next = v.next }

-- ---- the state

pub record MemoryView : Type 0 where
  pub peer_epoch : May ℕ
  pub peer_k : May Bool
  pub jitter : ℤ
  pub damp : May ℕ
  pub backoff : May ℕ
  pub abandons : ℕ
  pub last_rx : May ℕ
  pub rx_cur : May ℕ
  pub sent_data : Bool
  pub silence : ℕ
  pub link_since : ℕ
  pub last_cutover : May ℕ
  pub hs_rtt : May ℕ
  pub srtt : May ℕ
  pub setup_rto : May ℕ
  pub reachable : Bool
  pub due : Bool

pub record View : Type 0 where
  pub mem : MemoryView
  pub cur : May EpochView
  pub drain : May DrainView
  pub cycle : CycleView
  pub cands : CandidatesView

unfoldable pub memory_view : Memory → MemoryView
memory_view m =
    record {
      peer_epoch = when_view m.peer_epoch;
      peer_k = may m.peer_k.some m.peer_k.on;
      jitter = m.jitter;
      damp = when_view m.damp;
      backoff = when_view m.backoff;
      abandons = m.abandons;
      last_rx = when_view m.last_rx;
      rx_cur = when_view m.rx_cur;
      sent_data = m.sent_data;
      silence = m.silence;
      link_since = m.link_since;
      last_cutover = when_view m.last_cutover;
      hs_rtt = when_view m.hs_rtt;
      srtt = when_view m.srtt;
      setup_rto = when_view m.setup_rto;
      reachable = m.reachable;
      due = m.due;
    }

unfoldable pub stands : State → View
stands s =
    record {
      mem = memory_view s.mem;
      cur = may s.cur.some (epoch_view s.cur.ep);
      drain = drain_view s.drain;
      cycle = cycle_view s.cycle;
      cands = candidates_view s.cands;
    }
