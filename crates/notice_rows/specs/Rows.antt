-- What a decrypt worker and the path tell: the cases `Worker`, `Delegated`, `Undelegated`, `DataSent` and
-- `Path` of machine.rs, each with what `judge` rejects before it.
use Rattle.std.specs.Prelude.{ℕ, Bool, true, false, not, [], ◌∷◌}
use Rattle.time.specs.declared.When.{When}
use Rattle.time.specs.Pick.{pick}
use Rattle.time.specs.Time.{at, most}
use Rattle.numbers.specs.Numbers.{reason_stale_tag, reason_not_delegated, reason_already_delegated, reason_not_offered}
use Rattle.epoch.specs.declared.Epoch.{Epoch}
use Rattle.epoch.specs.Held.{is_tag}
use Rattle.epoch.specs.Put.{put_ep}
use Rattle.cycle.specs.declared.Cycle.{Cycle}
use Rattle.cycle.specs.Held.{is_own, is_peers}
use Rattle.state.specs.declared.Memory.{Memory}
use Rattle.state.specs.declared.State.{State}
use Rattle.state.specs.declared.Given.{Given}
use Rattle.state.specs.Parts.{put_mem, put_cur, put_drain}
use Rattle.events.specs.Events.{Reject}
use Rattle.frame_hear.specs.Hear.{HearStep, heard_current, heard_previous}

-- ---- the slot of a tag, and rejects

-- the pending epoch has the tag, in either role
unfoldable pub is_pending : Cycle → ℕ → Bool
is_pending c tag = pick (is_own c tag) true (is_peers c tag)

-- `slot_of`, "The slot holding the epoch `tag`": a case for each slot, in the order in which they are looked
-- through, and one for a tag that no held epoch has
unfoldable pub by_slot : {A : Type 0} → State → ℕ → A → A → A → A → A
by_slot s tag current previous pending none =
    pick (is_tag s.cur.some s.cur.ep.tag tag) current
    (pick (is_tag s.drain.some s.drain.ep.tag tag) previous
    (pick (is_pending s.cycle tag) pending none))

-- "Their rejects are events with the Rust's reasons": the state remains
abbrev pub rejected : State → ℕ → HearStep
rejected s reason = record { state = s; out = Reject reason ∷ [] }

-- a change without an event
abbrev pub changed : State → HearStep
changed s = record { state = s; out = [] }

-- ---- an epoch, and the epoch of a slot, with another value in place

abbrev pub put_floor : Epoch → When → Epoch
put_floor e w =
    record {
      tag = e.tag;
      session = e.session;
      sent = e.sent;
      ids = e.ids;
      k = e.k;
      responder = e.responder;
      base = e.base;
      started = e.started;
      route = e.route;
      ext = e.ext;
      delegated = e.delegated;
      floor = w;
      heard = e.heard;
      moved = e.moved;
      assumed = e.assumed;
      fin = e.fin;
      elicit = e.elicit;
      prompted = e.prompted;
    }

abbrev pub put_recv : Epoch → Bool → Epoch
put_recv e on =
    record {
      tag = e.tag;
      session = e.session;
      sent = e.sent;
      ids = e.ids;
      k = e.k;
      responder = e.responder;
      base = e.base;
      started = e.started;
      route = e.route;
      ext = e.ext;
      delegated = on;
      floor = e.floor;
      heard = e.heard;
      moved = e.moved;
      assumed = e.assumed;
      fin = e.fin;
      elicit = e.elicit;
      prompted = e.prompted;
    }

abbrev pub put_current : State → Epoch → State
put_current s e = put_cur s (put_ep s.cur e)

abbrev pub put_previous : State → Epoch → State
put_previous s e = put_drain s (record { some = s.drain.some; ep = e; deadline = s.drain.deadline; evidenced = s.drain.evidenced })

-- ---- `Worker`: a frame that a decrypt worker authenticated

-- `Some(ep.floor.map_or(counter, |f| f.max(counter)))`: a counter below the floor leaves it
unfoldable pub raised : When → ℕ → When
raised floor counter = at (pick floor.some (most floor.at counter) counter)

unfoldable pub raised_current : State → ℕ → State
raised_current s counter = put_current s (put_floor s.cur.ep (raised s.cur.ep.floor counter))

unfoldable pub raised_previous : State → ℕ → State
raised_previous s counter = put_previous s (put_floor s.drain.ep (raised s.drain.ep.floor counter))

-- the floor is raised, and then the epoch is heard as a frame's is; a worker never reports a probe. An epoch
-- that is received here is no reject; a pending one is, and does not cut over
unfoldable pub worker_of : State → Given → ℕ → Bool → ℕ → HearStep
worker_of s g tag k counter =
    by_slot s tag
    (heard_current (raised_current s counter) g k false)
    (heard_previous (raised_previous s counter) g)
    (rejected s reason_not_delegated)
    (rejected s reason_stale_tag)

-- ---- `Delegated` and `Undelegated`: where the receive half lives

-- it is where the notice puts it: with a worker, or here
unfoldable pub already : Bool → Bool → Bool
already delegated on = pick on delegated (not delegated)

-- the epoch of the tag is with a worker from now on, or here; `same` rejects one that is so already, and
-- `early` a pending one, which is never offered
unfoldable pub handed : State → ℕ → Bool → ℕ → ℕ → HearStep
handed s tag on same early =
    by_slot s tag
    (pick (already s.cur.ep.delegated on) (rejected s same) (changed (put_current s (put_recv s.cur.ep on))))
    (pick (already s.drain.ep.delegated on) (rejected s same) (changed (put_previous s (put_recv s.drain.ep on))))
    (rejected s early)
    (rejected s reason_stale_tag)

-- "The worker accepted the receive copy of `tag`."
abbrev pub delegated_of : State → ℕ → HearStep
delegated_of s tag = handed s tag true reason_already_delegated reason_not_offered

-- "The worker holding `tag` is gone." The floor stays
abbrev pub undelegated_of : State → ℕ → HearStep
undelegated_of s tag = handed s tag false reason_not_delegated reason_not_delegated

-- ---- `DataSent`: "An application Data message was sealed."

unfoldable pub data_mem : Memory → Memory
data_mem m =
    record {
      peer_epoch = m.peer_epoch;
      peer_k = m.peer_k;
      jitter = m.jitter;
      damp = m.damp;
      backoff = m.backoff;
      abandons = m.abandons;
      last_rx = m.last_rx;
      rx_cur = m.rx_cur;
      sent_data = true;
      silence = m.silence;
      link_since = m.link_since;
      last_cutover = m.last_cutover;
      hs_rtt = m.hs_rtt;
      srtt = m.srtt;
      setup_rto = m.setup_rto;
      reachable = m.reachable;
      due = m.due;
    }

-- also without a current epoch
abbrev pub data_sent_of : State → HearStep
data_sent_of s = changed (put_mem s (data_mem s.mem))

-- ---- `Path`: "Whether a next hop exists, and the session's smoothed round trip."

-- an absent round trip replaces the held one too
unfoldable pub path_mem : Memory → Bool → When → Memory
path_mem m reachable srtt =
    record {
      peer_epoch = m.peer_epoch;
      peer_k = m.peer_k;
      jitter = m.jitter;
      damp = m.damp;
      backoff = m.backoff;
      abandons = m.abandons;
      last_rx = m.last_rx;
      rx_cur = m.rx_cur;
      sent_data = m.sent_data;
      silence = m.silence;
      link_since = m.link_since;
      last_cutover = m.last_cutover;
      hs_rtt = m.hs_rtt;
      srtt = srtt;
      setup_rto = m.setup_rto;
      reachable = reachable;
      due = m.due;
    }

abbrev pub path_of : State → Bool → When → HearStep
path_of s reachable srtt = changed (put_mem s (path_mem s.mem reachable srtt))
