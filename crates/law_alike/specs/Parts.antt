-- Two records of a part with the same view, field by field.
use Rattle.std.specs.Prelude.{ℕ, Bool, ◌≡◌}
use Rattle.std.proofs.Common.{ap}
use Rattle.time.specs.Pick.{pick}
use Rattle.ladder.specs.declared.Ladder.{Ladder}
use Rattle.ladder.specs.Schedule.{max_rungs, rungs_of}
use Rattle.epoch.specs.declared.Epoch.{Epoch}
use Rattle.cycle.specs.declared.Attempt.{Attempt}
use Rattle.cycle.specs.declared.PendI.{PendI}
use Rattle.cycle.specs.declared.PendR.{PendR}
use Rattle.cycle.specs.Kind.{waits_held, waits_evidence}
use Rattle.state.specs.declared.Bit.{Bit}
use Rattle.state.specs.declared.Memory.{Memory}
use Rattle.state.specs.Stands.{May, may, when_view, index_view, LadderView, ladder_view, final_view, may_ladder_view, EpochView, epoch_view, AttemptView, attempt_view, Wait, held, evidence, delay, PendIView, pend_iView, PendRView, pend_rView, MemoryView, memory_view}
use Rattle.law_alike.specs.Optional.{Same}

-- ---- ladders

pub record AlikeLadder (x y : Ladder) : Type 0 where
  pub origin : x.origin ≡ y.origin
  pub len : x.sched.len ≡ y.sched.len
  pub rungs : rungs_of max_rungs x.sched ≡ rungs_of max_rungs y.sched
  pub next : x.next ≡ y.next

pub ladder_fields : {x y : Ladder} → Same ladder_view x y → AlikeLadder x y
unfolding ladder_view
ladder_fields e =
    record {
      origin = ap (λ (v : LadderView). v.origin) e.eq;
      len = ap (λ (v : LadderView). v.len) e.eq;
      rungs = ap (λ (v : LadderView). v.rungs) e.eq;
      next = ap (λ (v : LadderView). v.next) e.eq;
    }

pub ladder-whole : {x y : Ladder} → AlikeLadder x y → Same ladder_view x y
unfolding ladder_view
ladder-whole h = record { eq = cc }

-- ---- epochs

pub record AlikeEpoch (x y : Epoch) : Type 0 where
  pub tag : x.tag ≡ y.tag
  pub session : x.session ≡ y.session
  pub sent : x.sent ≡ y.sent
  pub lease : Same index_view x.ids.lease y.ids.lease
  pub theirs : Same index_view x.ids.theirs y.ids.theirs
  pub transport : x.ids.transport ≡ y.ids.transport
  pub k : x.k ≡ y.k
  pub responder : x.responder ≡ y.responder
  pub base : Same when_view x.base y.base
  pub started : x.started ≡ y.started
  pub route : Same when_view x.route y.route
  pub ext : x.ext ≡ y.ext
  pub delegated : x.delegated ≡ y.delegated
  pub floor : Same when_view x.floor y.floor
  pub heard : Same when_view x.heard y.heard
  pub moved : Same when_view x.moved y.moved
  pub assumed : x.assumed ≡ y.assumed
  pub fin : Same final_view x.fin y.fin
  pub elicit : Same may_ladder_view x.elicit y.elicit
  pub prompted : Same when_view x.prompted y.prompted

pub epoch_fields : {x y : Epoch} → Same epoch_view x y → AlikeEpoch x y
unfolding epoch_view
epoch_fields e =
    record {
      tag = ap (λ (v : EpochView). v.tag) e.eq;
      session = ap (λ (v : EpochView). v.session) e.eq;
      sent = ap (λ (v : EpochView). v.sent) e.eq;
      lease = record { eq = ap (λ (v : EpochView). v.lease) e.eq };
      theirs = record { eq = ap (λ (v : EpochView). v.theirs) e.eq };
      transport = ap (λ (v : EpochView). v.transport) e.eq;
      k = ap (λ (v : EpochView). v.k) e.eq;
      responder = ap (λ (v : EpochView). v.responder) e.eq;
      base = record { eq = ap (λ (v : EpochView). v.base) e.eq };
      started = ap (λ (v : EpochView). v.started) e.eq;
      route = record { eq = ap (λ (v : EpochView). v.route) e.eq };
      ext = ap (λ (v : EpochView). v.ext) e.eq;
      delegated = ap (λ (v : EpochView). v.delegated) e.eq;
      floor = record { eq = ap (λ (v : EpochView). v.floor) e.eq };
      heard = record { eq = ap (λ (v : EpochView). v.heard) e.eq };
      moved = record { eq = ap (λ (v : EpochView). v.moved) e.eq };
      assumed = ap (λ (v : EpochView). v.assumed) e.eq;
      fin = record { eq = ap (λ (v : EpochView). v.fin) e.eq };
      elicit = record { eq = ap (λ (v : EpochView). v.elicit) e.eq };
      prompted = record { eq = ap (λ (v : EpochView). v.prompted) e.eq };
    }

pub epoch-whole : {x y : Epoch} → AlikeEpoch x y → Same epoch_view x y
unfolding epoch_view
epoch-whole h = record { eq = cc }

-- ---- the cycle's cases

abbrev pub wait_view : ℕ → Wait
wait_view w = pick (waits_held w) held (pick (waits_evidence w) evidence delay)

pub record AlikeAttempt (x y : Attempt) : Type 0 where
  pub hs : x.hs ≡ y.hs
  pub out : x.out ≡ y.out
  pub lease : Same index_view x.lease y.lease
  pub transport : x.transport ≡ y.transport
  pub first : x.first ≡ y.first
  pub ladder : Same ladder_view x.ladder y.ladder
  pub deadline : x.deadline ≡ y.deadline
  pub resent : x.resent ≡ y.resent

pub attempt_fields : {x y : Attempt} → Same attempt_view x y → AlikeAttempt x y
unfolding attempt_view
attempt_fields e =
    record {
      hs = ap (λ (v : AttemptView). v.hs) e.eq;
      out = ap (λ (v : AttemptView). v.out) e.eq;
      lease = record { eq = ap (λ (v : AttemptView). v.lease) e.eq };
      transport = ap (λ (v : AttemptView). v.transport) e.eq;
      first = ap (λ (v : AttemptView). v.first) e.eq;
      ladder = record { eq = ap (λ (v : AttemptView). v.ladder) e.eq };
      deadline = ap (λ (v : AttemptView). v.deadline) e.eq;
      resent = ap (λ (v : AttemptView). v.resent) e.eq;
    }

pub attempt-whole : {x y : Attempt} → AlikeAttempt x y → Same attempt_view x y
unfolding attempt_view
attempt-whole h = record { eq = cc }

pub record AlikePendI (x y : PendI) : Type 0 where
  pub ep : Same epoch_view x.ep y.ep
  pub wait : Same wait_view x.wait y.wait
  pub deadline : x.deadline ≡ y.deadline
  pub restart : x.restart ≡ y.restart
  pub fin : Same final_view x.fin y.fin
  pub probes : Same may_ladder_view x.probes y.probes
  pub probed : Same when_view x.probed y.probed
  pub stayed : x.stayed ≡ y.stayed
  pub reverted : x.reverted ≡ y.reverted

pub pendi_fields : {x y : PendI} → Same pend_iView x y → AlikePendI x y
unfolding pend_iView
pendi_fields e =
    record {
      ep = record { eq = ap (λ (v : PendIView). v.ep) e.eq };
      wait = record { eq = ap (λ (v : PendIView). v.wait) e.eq };
      deadline = ap (λ (v : PendIView). v.deadline) e.eq;
      restart = ap (λ (v : PendIView). v.restart) e.eq;
      fin = record { eq = ap (λ (v : PendIView). v.fin) e.eq };
      probes = record { eq = ap (λ (v : PendIView). v.probes) e.eq };
      probed = record { eq = ap (λ (v : PendIView). v.probed) e.eq };
      stayed = ap (λ (v : PendIView). v.stayed) e.eq;
      reverted = ap (λ (v : PendIView). v.reverted) e.eq;
    }

pub pendi-whole : {x y : PendI} → AlikePendI x y → Same pend_iView x y
unfolding pend_iView
pendi-whole h = record { eq = cc }

pub record AlikePendR (x y : PendR) : Type 0 where
  pub ep : Same epoch_view x.ep y.ep
  pub deadline : x.deadline ≡ y.deadline
  pub restart : x.restart ≡ y.restart
  pub answer : Same when_view x.answer y.answer

pub pendr_fields : {x y : PendR} → Same pend_rView x y → AlikePendR x y
unfolding pend_rView
pendr_fields e =
    record {
      ep = record { eq = ap (λ (v : PendRView). v.ep) e.eq };
      deadline = ap (λ (v : PendRView). v.deadline) e.eq;
      restart = ap (λ (v : PendRView). v.restart) e.eq;
      answer = record { eq = ap (λ (v : PendRView). v.answer) e.eq };
    }

pub pendr-whole : {x y : PendR} → AlikePendR x y → Same pend_rView x y
unfolding pend_rView
pendr-whole h = record { eq = cc }

-- ---- the memory

abbrev pub bit_view : Bit → May Bool
bit_view b = may b.some b.on

pub record AlikeMemory (x y : Memory) : Type 0 where
  pub peer_epoch : Same when_view x.peer_epoch y.peer_epoch
  pub peer_k : Same bit_view x.peer_k y.peer_k
  pub jitter : x.jitter ≡ y.jitter
  pub damp : Same when_view x.damp y.damp
  pub backoff : Same when_view x.backoff y.backoff
  pub abandons : x.abandons ≡ y.abandons
  pub last_rx : Same when_view x.last_rx y.last_rx
  pub rx_cur : Same when_view x.rx_cur y.rx_cur
  pub sent_data : x.sent_data ≡ y.sent_data
  pub silence : x.silence ≡ y.silence
  pub link_since : x.link_since ≡ y.link_since
  pub last_cutover : Same when_view x.last_cutover y.last_cutover
  pub hs_rtt : Same when_view x.hs_rtt y.hs_rtt
  pub srtt : Same when_view x.srtt y.srtt
  pub setup_rto : Same when_view x.setup_rto y.setup_rto
  pub reachable : x.reachable ≡ y.reachable
  pub due : x.due ≡ y.due

pub memory_fields : {x y : Memory} → Same memory_view x y → AlikeMemory x y
unfolding memory_view
memory_fields e =
    record {
      peer_epoch = record { eq = ap (λ (v : MemoryView). v.peer_epoch) e.eq };
      peer_k = record { eq = ap (λ (v : MemoryView). v.peer_k) e.eq };
      jitter = ap (λ (v : MemoryView). v.jitter) e.eq;
      damp = record { eq = ap (λ (v : MemoryView). v.damp) e.eq };
      backoff = record { eq = ap (λ (v : MemoryView). v.backoff) e.eq };
      abandons = ap (λ (v : MemoryView). v.abandons) e.eq;
      last_rx = record { eq = ap (λ (v : MemoryView). v.last_rx) e.eq };
      rx_cur = record { eq = ap (λ (v : MemoryView). v.rx_cur) e.eq };
      sent_data = ap (λ (v : MemoryView). v.sent_data) e.eq;
      silence = ap (λ (v : MemoryView). v.silence) e.eq;
      link_since = ap (λ (v : MemoryView). v.link_since) e.eq;
      last_cutover = record { eq = ap (λ (v : MemoryView). v.last_cutover) e.eq };
      hs_rtt = record { eq = ap (λ (v : MemoryView). v.hs_rtt) e.eq };
      srtt = record { eq = ap (λ (v : MemoryView). v.srtt) e.eq };
      setup_rto = record { eq = ap (λ (v : MemoryView). v.setup_rto) e.eq };
      reachable = ap (λ (v : MemoryView). v.reachable) e.eq;
      due = ap (λ (v : MemoryView). v.due) e.eq;
    }

pub memory_whole : {x y : Memory} → AlikeMemory x y → Same memory_view x y
unfolding memory_view
memory_whole h = record { eq = cc }
