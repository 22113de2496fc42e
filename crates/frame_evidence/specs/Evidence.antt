-- What an authenticated frame tells of each part of the state: the rows of `heard_current`, `revert`
-- and `heard_previous` of machine.rs that change one part alone, in its order.
use Rattle.std.specs.Prelude.{ℕ, Bool, true, false, not, ◌≡◌, List, [], ◌∷◌, leb, ltb}
use Rattle.time.specs.declared.When.{When}
use Rattle.time.specs.Pick.{pick}
use Rattle.time.specs.Time.{at, least, later_of, later_by_of}
use Rattle.ladder.specs.Ladder.{anew}
use Rattle.settings.specs.declared.Config.{Config}
use Rattle.params.specs.Params.{span_of, revert_made}
use Rattle.numbers.specs.Numbers.{wait_evidence}
use Rattle.epoch.specs.declared.Epoch.{Epoch}
use Rattle.epoch.specs.declared.MayEpoch.{MayEpoch}
use Rattle.epoch.specs.declared.Drain.{Drain}
use Rattle.epoch.specs.Put.{put_fin, put_elicit, put_prompted, put_assumed, drop_fin, drop_ladder}
use Rattle.cycle.specs.declared.PendI.{PendI}
use Rattle.cycle.specs.declared.Cycle.{Cycle}
use Rattle.cycle.specs.Kind.{is_pend_i, waits_evidence}
use Rattle.cycle.specs.Put.{put_pend_i, with_probes}
use Rattle.candidates.specs.declared.Candidates.{Candidates}
use Rattle.candidates.specs.Held.{cleared_of, kept_after}
use Rattle.state.specs.declared.Memory.{Memory}
use Rattle.events.specs.Events.{Event, Prompt, no_rungs}
use Rattle.events.specs.Told.{Tells}
use Rattle.events.specs.declared.Log.{Log}
use Rattle.time.specs.Pick.{and}

-- what hearing leaves of an epoch
pub record EpochStep : Type 0 where
  pub ep : Epoch
  pub out : List Event

-- what a function promises that changes an epoch so: the epoch, and its events behind those of the log
abbrev pub Did : EpochStep → Log → Epoch → Log → Type 0
Did t l r l' = (r ≡ t.ep) × Tells t.out l l'

-- ---- an epoch with one of its parts changed

abbrev pub put_heard : Epoch → When → Epoch
put_heard e w =
    record {
      tag = e.tag;
      session = e.session;
      sent = e.sent;
      ids = e.ids;
      k = e.k;
      responder = e.responder;
      base = e.base;
      started = e.started;
      route = e.route;
      ext = e.ext;
      delegated = e.delegated;
      floor = e.floor;
      heard = w;
      moved = e.moved;
      assumed = e.assumed;
      fin = e.fin;
      elicit = e.elicit;
      prompted = e.prompted;
    }

abbrev pub put_moved : Epoch → When → Epoch
put_moved e w =
    record {
      tag = e.tag;
      session = e.session;
      sent = e.sent;
      ids = e.ids;
      k = e.k;
      responder = e.responder;
      base = e.base;
      started = e.started;
      route = e.route;
      ext = e.ext;
      delegated = e.delegated;
      floor = e.floor;
      heard = e.heard;
      moved = w;
      assumed = e.assumed;
      fin = e.fin;
      elicit = e.elicit;
      prompted = e.prompted;
    }

-- ---- tests

-- "a probe does not show that the initiator moved": `probe && cur.probe_blind(..)`
unfoldable pub blind_to : Epoch → Bool → Bool → Bool
blind_to e proof probe = and probe (and proof e.responder)

-- `cur.prompted.is_none_or(|t| now >= later(t, PROMPT_GAP))`, the gap one second
unfoldable pub prompt_due : When → ℕ → Bool
prompt_due w now = pick w.some (leb (later_of w.at 1000) now) true

-- an own completed attempt waits for evidence, and the grace after its last probe has passed
unfoldable pub staying : Cycle → ℕ → ℕ → Bool
staying c g now =
    and (and (is_pend_i c.kind) (waits_evidence c.pendi.wait))
    (and c.pendi.probed.some (leb (later_of c.pendi.probed.at g) now))

-- `!blind && cur.moved.is_none()`
unfoldable pub moves_now : Epoch → Bool → Bool
moves_now e blind = and (not blind) (not e.moved.some)

-- ---- `heard_current`

-- the first frame heard: "cur.heard = Some(now)", no longer assumed, no final message retained
unfoldable pub heard_first : Epoch → ℕ → Epoch
heard_first e now = pick e.heard.some e (put_assumed (put_fin (put_heard e (at now)) (drop_fin e.fin)) false)

-- where it dropped a final message: the smaller node drops every candidate, the other keeps those
-- born after the install
unfoldable pub heard_cands : Candidates → Epoch → Bool → Candidates
heard_cands v e smaller =
    pick (and (not e.heard.some) e.fin.some)
    (pick smaller (cleared_of v) (kept_after v e.started))
    v

-- the first frame that shows that the peer moved: "cur.moved = Some(now)", no more prompt repeats
unfoldable pub moved_first : Epoch → Bool → ℕ → Epoch
moved_first e blind now = pick (moves_now e blind) (put_elicit (put_moved e (at now)) (drop_ladder e.elicit) e.prompted) e

-- it shortens the drain, once, and never moves its deadline back
unfoldable pub shortened : Drain → Bool → ℕ → ℕ → Drain
shortened d moves hold now =
    pick (and moves (and d.some (not d.evidenced)))
    (record { some = d.some; ep = d.ep; deadline = least d.deadline (later_of now hold); evidenced = true })
    d

-- a prompt that is asked for is given where the gap since the last has passed
unfoldable pub prompted_now : Epoch → Bool → ℕ → EpochStep
prompted_now e asks now =
    pick (and asks (prompt_due e.prompted now))
    (record { ep = put_prompted e (at now); out = Prompt e.tag no_rungs ∷ [] })
    (record { ep = e; out = [] })

-- the last row of `heard_current`, "p.stayed = true": the peer was heard where it stays if it did
-- not move
unfoldable pub stayed_now : Cycle → ℕ → ℕ → Cycle
stayed_now c g now = pick (staying c g now) (put_pend_i c (with_probes c.pendi c.pendi.probes c.pendi.probed true)) c

-- its rows on the current epoch: heard, moved where the frame shows it, prompted after a blind probe
unfoldable pub heard_epoch : Epoch → Bool → ℕ → EpochStep
heard_epoch e blind now = prompted_now (moved_first (heard_first e now) blind now) blind now

-- ---- `revert`

-- the assumed epoch: no longer assumed, without prompt repeats and final message
unfoldable pub unassumed : Epoch → Epoch
unassumed e = put_assumed (put_elicit (put_fin e (drop_fin e.fin)) (drop_ladder e.elicit) e.prompted) false

-- it waits for evidence (1) again, with the probes of a revert
unfoldable pub reverted_pend : Epoch → Config → ℕ → PendI
reverted_pend e cfg now =
    record {
      ep = unassumed e;
      wait = wait_evidence;
      deadline = later_of now cfg.revert;
      restart = false;
      fin = drop_fin e.fin;
      probes = record { some = true; ladder = anew now (revert_made cfg).sched };
      probed = at now;
      stayed = false;
      reverted = true;
    }

-- ---- `heard_previous`

-- "self.mem.last_rx = Some(now)"
unfoldable pub heard_any : Memory → ℕ → Memory
heard_any m now =
    record {
      peer_epoch = m.peer_epoch;
      peer_k = m.peer_k;
      jitter = m.jitter;
      damp = m.damp;
      backoff = m.backoff;
      abandons = m.abandons;
      last_rx = at now;
      rx_cur = m.rx_cur;
      sent_data = m.sent_data;
      silence = m.silence;
      link_since = m.link_since;
      last_cutover = m.last_cutover;
      hs_rtt = m.hs_rtt;
      srtt = m.srtt;
      setup_rto = m.setup_rto;
      reachable = m.reachable;
      due = m.due;
    }

-- a current epoch is held, and `cur.assumed && cur.heard.is_none()`
unfoldable pub only_assumed : MayEpoch → Bool
only_assumed cur = and cur.some (and cur.ep.assumed (not cur.ep.heard.some))

-- `confirming`, with a current epoch held: the initiator may not have moved yet, and the time for it
-- is not over
unfoldable pub confirming : MayEpoch → Bool → Config → ℕ → Bool
confirming cur proof cfg now =
    and (and cur.some (and proof cur.ep.responder))
    (and (not cur.ep.moved.some) (ltb now (later_by_of cur.ep.started (span_of cfg))))
