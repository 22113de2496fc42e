-- The rows of the poll that change the cycle, one definition each, in the order of `Due`: what a row
-- leaves of the cycle, and its events. A row whose item is no longer there changes nothing.
use Rattle.std.specs.Prelude.{ℕ, ◌+◌, ◌-◌, ◌*◌, Bool, true, false, not, ◌≡◌, List, [], ◌∷◌, ◌++◌, leb, ltb, eqb}
use Rattle.time.specs.Pick.{pick}
use Rattle.time.specs.Time.{at, least, later_of, backoff_of}
use Rattle.ladder.specs.Took.{Took}
use Rattle.ladder.specs.Ladder.{take_of}
use Rattle.settings.specs.declared.Config.{Config}
use Rattle.numbers.specs.Numbers.{kind_msg1, kind_setup, kind_msg3, abandon_unadopted, abandon_unanswered, teardown_opening_failed}
use Rattle.epoch.specs.Put.{moved_fin}
use Rattle.cycle.specs.declared.Cycle.{Cycle}
use Rattle.cycle.specs.declared.PendI.{PendI}
use Rattle.cycle.specs.Kind.{is_init, idled}
use Rattle.cycle.specs.Put.{put_init, put_pend_i, moved_init, with_fin, with_probes}
use Rattle.state.specs.declared.Memory.{Memory}
use Rattle.events.specs.Events.{Event, Send, Prompt, Abandoned, Teardown, Ended}
use Rattle.events.specs.declared.Log.{Log}
use Rattle.events.specs.Told.{Tells}
use Rattle.retire.specs.Retire.{only, retire_out, abandon_out}
use Rattle.time.specs.Pick.{and}
use Rattle.cycle.specs.Held.{is_own, is_peers}

pub record CycleStep : Type 0 where
  pub cycle : Cycle
  pub out : List Event

-- what a row of the cycle promises: the cycle, and its events behind those of the log
abbrev pub DidCycle : CycleStep → Log → Cycle → Log → Type 0
DidCycle t l c l' = (c ≡ t.cycle) × Tells t.out l l'

-- with whether the link ends
pub record FailStep : Type 0 where
  pub cycle : Cycle
  pub mem : Memory
  pub out : List Event
  pub ends : Bool

-- ---- Unadopted: a peer's epoch that no frame adopted is retired, its answer kept in the record

unfoldable pub unadopted_due : Cycle → ℕ → CycleStep
unadopted_due c tag =
    pick (is_peers c tag)
    (record { cycle = idled c; out = only c.pendr.answer.some (Ended tag) ++ (retire_out c.pendr.ep ++ (Abandoned abandon_unadopted ∷ [])) })
    (record { cycle = c; out = [] })

-- ---- Probe: a rung of a completed own attempt. A probe is sent with a prompt under the pending
-- epoch unless the grace would pass the deadline; every rung prompts under the current epoch. All that is
-- told carries the number of the one take

-- "late": the grace would pass the deadline, and the epoch did not come back from a revert
unfoldable pub late_for : PendI → ℕ → ℕ → Bool
late_for p g now = and (not p.reverted) (ltb p.deadline (later_of now g))

unfoldable pub probing : Cycle → Took → ℕ → ℕ → ℕ → CycleStep
probing c t g now current =
    pick (and t.send (not (late_for c.pendi g now)))
    (record { cycle = put_pend_i c (with_probes c.pendi (record { some = c.pendi.probes.some; ladder = t.ladder }) (at now) false); out = only c.pendi.fin.some (Send c.pendi.fin.msg kind_msg3 t.taken) ++ (Prompt c.pendi.ep.tag t.taken ∷ Prompt current t.taken ∷ []) })
    (record { cycle = put_pend_i c (with_probes c.pendi (record { some = c.pendi.probes.some; ladder = t.ladder }) c.pendi.probed c.pendi.stayed); out = Prompt current t.taken ∷ [] })

unfoldable pub probe_due : Cycle → Bool → ℕ → ℕ → ℕ → ℕ → CycleStep
probe_due c cur current g tag now =
    pick (and (and cur (and (is_own c tag) c.pendi.probes.some)) (take_of c.pendi.probes.ladder now).any)
    (probing c (take_of c.pendi.probes.ladder now) g now current)
    (record { cycle = c; out = [] })

-- ---- Delayed: the retained final message of a delayed cutover is sent again, with the number of rungs taken

unfoldable pub delayed_due : Cycle → ℕ → ℕ → CycleStep
delayed_due c tag now =
    pick (and (and (is_own c tag) c.pendi.fin.some) (take_of c.pendi.fin.ladder now).any)
    (record { cycle = put_pend_i c (with_fin c.pendi (moved_fin c.pendi.fin c.pendi.fin.some (take_of c.pendi.fin.ladder now).ladder)); out = Send c.pendi.fin.msg kind_msg3 (take_of c.pendi.fin.ladder now).taken ∷ [] })
    (record { cycle = c; out = [] })

-- ---- Resend: the own attempt's first message is sent again, with the number of rungs taken. While
-- opening, a larger node with a candidate holds a young resend back; the rungs are taken all the same, and
-- their number is not told

-- msg1 of two messages, else the setup
abbrev pub first_kind : ℕ → ℕ
first_kind messages = pick (eqb messages 2) kind_msg1 kind_setup

unfoldable pub resend_taken : Cycle → Took → Bool → ℕ → ℕ → CycleStep
resend_taken c t holds young messages =
    pick (and holds (ltb t.latest young))
    (record { cycle = put_init c (moved_init c.init t.ladder c.init.resent); out = [] })
    (record { cycle = put_init c (moved_init c.init t.ladder true); out = Send c.init.out (first_kind messages) t.taken ∷ [] })

unfoldable pub resend_due : Cycle → Bool → ℕ → ℕ → ℕ → CycleStep
resend_due c holds young messages now =
    pick (and (and (is_init c.kind) (ltb now c.init.deadline)) (take_of c.init.ladder now).any)
    (resend_taken c (take_of c.init.ladder now) holds young messages)
    (record { cycle = c; out = [] })

-- ---- Expire: an unanswered attempt is abandoned and the next one waits. While opening, with no
-- candidate left, the link has failed

-- one more abandoned attempt, and the instant that its backoff ends
unfoldable pub abandoned_mem : Memory → Config → ℕ → ℕ → Memory
abandoned_mem m cfg now extra =
    record {
      peer_epoch = m.peer_epoch;
      peer_k = m.peer_k;
      jitter = m.jitter;
      damp = m.damp;
      backoff = at (later_of now (backoff_of (least (m.abandons + 1) 255 - 1) cfg.check cfg.hold + extra * 1000));
      abandons = least (m.abandons + 1) 255;
      last_rx = m.last_rx;
      rx_cur = m.rx_cur;
      sent_data = m.sent_data;
      silence = m.silence;
      link_since = m.link_since;
      last_cutover = m.last_cutover;
      hs_rtt = m.hs_rtt;
      srtt = m.srtt;
      setup_rto = m.setup_rto;
      reachable = m.reachable;
      due = m.due;
    }

unfoldable pub expire_due : Cycle → Memory → Config → Bool → ℕ → ℕ → FailStep
expire_due c m cfg alone now extra =
    pick (and (is_init c.kind) (leb c.init.deadline now))
    (record { cycle = idled c; mem = abandoned_mem m cfg now extra; out = abandon_out c.init abandon_unanswered ++ only alone (Teardown teardown_opening_failed); ends = alone })
    (record { cycle = c; mem = m; out = []; ends = false })
