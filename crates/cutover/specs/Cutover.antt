-- `cutover`: a pending epoch becomes current. Part by part, in the order of machine.rs.
use Rattle.std.specs.Prelude.{ℕ, Bool, true, false, not, List, [], ◌∷◌, ◌++◌, ltb, eqb, ℤ}
use Rattle.time.specs.declared.When.{When}
use Rattle.time.specs.Pick.{pick}
use Rattle.time.specs.Time.{at, later_of}
use Rattle.ladder.specs.Ladder.{next_at_of, anew}
use Rattle.settings.specs.declared.Config.{Config}
use Rattle.params.specs.Params.{elicit_made}
use Rattle.numbers.specs.Numbers.{evidence_frame, evidence_restart, evidence_delay}
use Rattle.epoch.specs.declared.Final.{Final}
use Rattle.epoch.specs.declared.Epoch.{Epoch}
use Rattle.epoch.specs.declared.Drain.{Drain}
use Rattle.epoch.specs.Put.{put_fin, put_elicit, drop_fin, drop_ladder}
use Rattle.cycle.specs.Kind.{idled}
use Rattle.candidates.specs.declared.Candidates.{Candidates}
use Rattle.candidates.specs.Held.{cleared_of}
use Rattle.state.specs.declared.Memory.{Memory}
use Rattle.state.specs.declared.State.{State}
use Rattle.state.specs.declared.Given.{Given}
use Rattle.events.specs.Events.{Event, Prompt, Installed, PeerRestarted, Rekeyed, no_rungs}
use Rattle.retire.specs.Retire.{only, retire_out, delegate_out}
use Rattle.time.specs.Pick.{and}
use Rattle.cutover.specs.declared.Pend.{Pend}

abbrev pub is_frame : ℕ → Bool
is_frame evidence = eqb evidence evidence_frame

abbrev pub is_delay : ℕ → Bool
is_delay evidence = eqb evidence evidence_delay

-- ---- the candidates: a proof or a frame drops them all; without evidence from the peer the
-- smaller node, which keeps its completed attempt, drops them. The order of the numbers is used: only Proof and Frame come before Restart.
unfoldable pub prunes : ℕ → Bool → Bool
prunes evidence smaller = pick (ltb evidence evidence_restart) true smaller

unfoldable pub pruned : Candidates → ℕ → Bool → Candidates
pruned v evidence smaller = pick (prunes evidence smaller) (cleared_of v) v

-- ---- the old epoch: retired after a restart, drained otherwise, for the drain window after a
-- frame and up to the ceiling without one
unfoldable pub demoted : Epoch → Bool → ℕ → Config → ℕ → Drain
demoted old restart evidence cfg now =
    record { some = not restart; ep = put_elicit (put_fin old (drop_fin old.fin)) (drop_ladder old.elicit) old.prompted; deadline = later_of now (pick (is_frame evidence) cfg.drain cfg.retention); evidenced = is_frame evidence }

-- the epochs that are given up: the open drain first, the old epoch after a restart
unfoldable pub given_up : Drain → Epoch → Bool → List Event
given_up d old restart = pick d.some (retire_out d.ep) [] ++ pick restart (retire_out old) []

-- ---- the retained final message: only a delayed cutover keeps it, and only while its ladder has
-- a rung; a spent one is dropped with a repair due
unfoldable pub spent : Final → ℕ → Bool
spent f evidence = and f.some (and (is_delay evidence) (not (next_at_of f.ladder).some))

unfoldable pub kept_fin : Final → ℕ → Final
kept_fin f evidence = record { some = and f.some (and (is_delay evidence) (next_at_of f.ladder).some); msg = f.msg; ladder = f.ladder }

-- ---- the new epoch
unfoldable pub heard_now : When → ℕ → ℕ → When
heard_now w evidence now = pick (is_frame evidence) (at now) w

unfoldable pub adopted : Epoch → Final → ℕ → Config → ℕ → Epoch
adopted e fin evidence cfg now =
    record {
      tag = e.tag;
      session = e.session;
      sent = e.sent;
      ids = e.ids;
      k = e.k;
      responder = e.responder;
      base = pick e.base.some e.base (at now);
      started = now;
      route = e.route;
      ext = e.ext;
      delegated = e.delegated;
      floor = e.floor;
      heard = heard_now e.heard evidence now;
      moved = heard_now e.moved evidence now;
      assumed = e.assumed;
      fin = kept_fin fin evidence;
      elicit = pick (heard_now e.moved evidence now).some e.elicit (record { some = true; ladder = anew now (elicit_made cfg).sched });
      prompted = at now;
    }

-- ---- the memory: "Resetting the link's age at every cutover; only a peer restart does."
unfoldable pub heard_frame : Memory → Bool → ℕ → Memory
heard_frame m k now =
    record {
      peer_epoch = m.peer_epoch;
      peer_k = record { some = true; on = k };
      jitter = m.jitter;
      damp = m.damp;
      backoff = m.backoff;
      abandons = m.abandons;
      last_rx = at now;
      rx_cur = at now;
      sent_data = false;
      silence = 0;
      link_since = m.link_since;
      last_cutover = m.last_cutover;
      hs_rtt = m.hs_rtt;
      srtt = m.srtt;
      setup_rto = m.setup_rto;
      reachable = m.reachable;
      due = m.due;
    }

unfoldable pub cut_memory : Memory → Bool → Bool → ℤ → ℕ → Memory
cut_memory m restart due spread now =
    record {
      peer_epoch = m.peer_epoch;
      peer_k = m.peer_k;
      jitter = spread;
      damp = m.damp;
      backoff = m.backoff;
      abandons = 0;
      last_rx = m.last_rx;
      rx_cur = m.rx_cur;
      sent_data = m.sent_data;
      silence = m.silence;
      link_since = pick restart now m.link_since;
      last_cutover = at now;
      hs_rtt = m.hs_rtt;
      srtt = m.srtt;
      setup_rto = m.setup_rto;
      reachable = m.reachable;
      due = pick due true m.due;
    }

unfoldable pub remembered : Memory → Bool → Bool → ℕ → Bool → ℤ → ℕ → Memory
remembered m restart due evidence k spread now =
    pick (is_frame evidence) (heard_frame (cut_memory m restart due spread now) k now) (cut_memory m restart due spread now)

-- ---- what is told of the new epoch
unfoldable pub announced : Epoch → Bool → When → ℕ → Bool → List Event
announced e restart peer evidence workers =
    delegate_out e workers
    ++ (Installed e.tag e.responder evidence
    ∷ (only (and restart peer.some) (PeerRestarted peer.at)
    ++ (Prompt e.tag no_rungs ∷ Rekeyed e.responder ∷ [])))

-- ---- the whole
pub record CutStep : Type 0 where
  pub state : State
  pub out : List Event

unfoldable pub cutover_of : State → Given → ℤ → Pend → ℕ → Bool → CutStep
cutover_of s g spread p evidence k =
    record {
      state = record { mem = remembered s.mem p.restart (spent p.fin evidence) evidence k spread g.now; cur = record { some = true; ep = adopted p.ep p.fin evidence g.cfg g.now }; drain = demoted s.cur.ep p.restart evidence g.cfg g.now; cycle = idled s.cycle; cands = pruned s.cands evidence g.profile.smaller };
      out = given_up s.drain s.cur.ep p.restart ++ announced (adopted p.ep p.fin evidence g.cfg g.now) p.restart s.mem.peer_epoch evidence g.workers;
    }
