-- A start reply: "opened or not, with the numbers of the handshake, the message, the transport and
-- the lease or none", it "leaves what `Rekey::start` leaves, with the silence count of `poll`".
use Rattle.std.specs.Prelude.{ℕ, ◌+◌, Bool, false, not, ◌&&◌, List, [], ◌∷◌, ◌++◌, eqb, ltb}
use Rattle.time.specs.declared.When.{When}
use Rattle.time.specs.Pick.{pick}
use Rattle.time.specs.Time.{at, later_of, sat_mul, least, most}
use Rattle.ladder.specs.declared.Schedule.{Schedule}
use Rattle.ladder.specs.Schedule.{max_rungs, made_of, doubling_of}
use Rattle.ladder.specs.Ladder.{anew}
use Rattle.settings.specs.declared.Config.{Config}
use Rattle.params.specs.Params.{value_or, rung_of, budget_of, first_made}
use Rattle.numbers.specs.Numbers.{start_silence, cycle_init, refused_no_start}
use Rattle.cycle.specs.declared.Attempt.{Attempt}
use Rattle.state.specs.declared.Memory.{Memory}
use Rattle.state.specs.declared.State.{State}
use Rattle.state.specs.declared.Profile.{Profile}
use Rattle.start.specs.Start.{silence_interval, start_kind, called_for}
use Rattle.refusal.specs.Refused.{Refused}
use Rattle.refusal.specs.Refusal.{Test, first, by, link_tests}
use Rattle.answer.specs.Outcome.{Outcome, done, outcome_by}
use Rattle.call_reply.specs.declared.StartReply.{StartReply}

-- ---- the attempt's schedule and deadline, by the profile

-- `SETUP_RTT`: a handshake of three messages measures its round trip. `start` asks for a current
-- epoch too, and a start that is called for has one
abbrev pub measures : Profile → Bool
measures p = eqb p.messages 3

-- `hs_rtt` or 0, or `srtt` where that is longer
unfoldable pub setup_rtt : Memory → ℕ
setup_rtt m = most (value_or 0 m.hs_rtt) (value_or 0 m.srtt)

-- twice that, at least one second, at least `setup_rto`, at most the settings' rung
unfoldable pub setup_first : Memory → Config → ℕ
setup_first m cfg = least (most (most (sat_mul (setup_rtt m) 2) 1000) (value_or 0 m.setup_rto)) (rung_of cfg)

-- `Schedule::doubling(first, u8::MAX, Some(cfg.handshake))`
unfoldable pub setup_sched : Memory → Config → Schedule
setup_sched m cfg = (made_of max_rungs (doubling_of max_rungs (setup_first m cfg) 255 (at cfg.handshake))).sched

-- else the first message's own
unfoldable pub attempt_sched : Memory → Config → Profile → Schedule
attempt_sched m cfg p = pick (measures p) (setup_sched m cfg) (first_made cfg).sched

unfoldable pub attempt_time : Config → Profile → ℕ
attempt_time cfg p = pick (measures p) cfg.handshake (budget_of cfg)

-- `Attempt { .. }`: it starts now, and nothing of it was sent again
unfoldable pub attempt_of : Memory → Config → Profile → ℕ → StartReply → Attempt
attempt_of m cfg p now r =
    record {
      hs = r.hs;
      out = r.msg;
      lease = r.lease;
      transport = r.transport;
      first = now;
      ladder = anew now (attempt_sched m cfg p);
      deadline = later_of now (attempt_time cfg p);
      resent = false;
    }

-- ---- the memory

-- `start == Start::Silence && self.silence_interval() < self.params.cfg.after`
unfoldable pub raises_silence : Memory → Config → When → Bool
raises_silence m cfg kind = eqb kind.at start_silence && ltb (silence_interval m cfg) cfg.after

-- "silence.saturating_add(1)", in eight bits
unfoldable pub silence_after : Memory → Config → When → ℕ
silence_after m cfg kind = pick (raises_silence m cfg kind) (least (m.silence + 1) 255) m.silence

-- "self.mem.due = false"
unfoldable pub memory_after : Memory → Config → When → Memory
memory_after m cfg kind =
    record {
      peer_epoch = m.peer_epoch;
      peer_k = m.peer_k;
      jitter = m.jitter;
      damp = m.damp;
      backoff = m.backoff;
      abandons = m.abandons;
      last_rx = m.last_rx;
      rx_cur = m.rx_cur;
      sent_data = m.sent_data;
      silence = silence_after m cfg kind;
      link_since = m.link_since;
      last_cutover = m.last_cutover;
      hs_rtt = m.hs_rtt;
      srtt = m.srtt;
      setup_rto = m.setup_rto;
      reachable = m.reachable;
      due = false;
    }

-- ---- the state

-- `Cycle::Init` (1) with the attempt; the kind is that of a start at the reply's own instant
unfoldable pub started_of : State → Config → Profile → ℕ → StartReply → State
started_of s cfg p now r =
    record {
      mem = memory_after s.mem cfg (start_kind s cfg p now);
      cur = s.cur;
      drain = s.drain;
      cycle = record { kind = cycle_init; init = attempt_of s.mem cfg p now r; pendi = s.cycle.pendi; pendr = s.cycle.pendr };
      cands = s.cands;
    }

-- a start that opened nothing left `start` before it changed the state, and `poll` counts no silence
unfoldable pub taken_of : State → Config → Profile → ℕ → StartReply → State
taken_of s cfg p now r = pick r.opened (started_of s cfg p now r) s

-- ---- the call

-- 1 to 6, then "10. A start reply comes while no start is called for or the sent count has reached
-- `hard`": a start is called for only below `hard`
unfoldable pub replied_tests : State → Config → Profile → ℕ → List Test
replied_tests s cfg p now = link_tests s cfg p ++ by refused_no_start (not (called_for s cfg p now)) ∷ []

unfoldable pub reply_refused : State → Config → Profile → ℕ → Refused
reply_refused s cfg p now = first (replied_tests s cfg p now)

-- "Its answer has no event."
unfoldable pub reply_of : State → Config → Profile → ℕ → StartReply → Outcome
reply_of s cfg p now r = outcome_by (reply_refused s cfg p now) s (done (taken_of s cfg p now r) [])
