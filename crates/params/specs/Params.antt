-- The values that params.rs derives from the settings, in exact arithmetic; `-` stops at 0.
use Rattle.std.specs.Prelude.{ℕ, ◌+◌, ◌-◌, ◌*◌, ◌/◌}
use Rattle.time.specs.declared.When.{When}
use Rattle.time.specs.Pick.{pick}
use Rattle.time.specs.Time.{end, none, at, sat_add, sum_of, least, most}
use Rattle.time.specs.Options.{option_of}
use Rattle.ladder.specs.declared.Schedule.{Schedule}
use Rattle.ladder.specs.declared.Made.{Made}
use Rattle.ladder.specs.Schedule.{max_rungs, made_of, doubling_of, probes_of, rungs_of, last_send_of}
use Rattle.settings.specs.declared.Config.{Config}
use Rattle.settings.specs.Settings.{place_of}
use Rattle.params.specs.declared.Params.{Params}

-- a number that may be absent, or n in its place (`unwrap_or`)
abbrev pub value_or : ℕ → When → ℕ
value_or n w = pick w.some w.at n

-- ---- schedules, each from one second on (`RUNG`)

-- doubling resends with no end
abbrev pub endless : ℕ → Made
endless count = made_of max_rungs (doubling_of max_rungs 1000 count none)

-- doubling resends before an end
abbrev pub ending : ℕ → ℕ → Made
ending count last = made_of max_rungs (doubling_of max_rungs 1000 count (at last))

-- the same with keepalives, a gap apart
abbrev pub probing : ℕ → ℕ → ℕ → Made
probing count last gap = made_of max_rungs (probes_of max_rungs 1000 count last gap)

-- "The offset of the last" send, 0 where none sends
unfoldable pub last_offset : Schedule → ℕ
last_offset s = value_or 0 (last_send_of (rungs_of max_rungs s))

-- `msg1_span`: "whether or not it falls inside the attempt budget"
unfoldable pub msg1_span : ℕ → ℕ
msg1_span resends = last_offset (endless resends).sched

-- ---- durations

-- "The confirmation window: the handshake timeout plus one check."
unfoldable pub confirm_of : Config → ℕ
confirm_of cfg = sat_add cfg.handshake cfg.check

-- "The confirmation window plus one drain window": absent where no instant can be moved by it
unfoldable pub span_of : Config → When
span_of cfg = sum_of (confirm_of cfg) cfg.drain

-- "The cap on the first rung of a rekey setup": a third of the difference, in whole seconds
unfoldable pub rung_of : Config → ℕ
rung_of cfg = (cfg.handshake - cfg.check) / 1000 / 3 * 1000

-- "The longest gap between frames": half of the drain window less 2 seconds
unfoldable pub gap_of : Config → ℕ
gap_of cfg = (cfg.drain - 2000) / 2

-- "the smaller of this span plus one check and the handshake timeout"
unfoldable pub budget_of : Config → ℕ
budget_of cfg = least (msg1_span cfg.resends + cfg.check) cfg.handshake

-- ---- what each schedule is for

-- "IK msg1 and first-handshake setup resends."
unfoldable pub first_made : Config → Made
first_made cfg = ending cfg.resends (budget_of cfg)

-- "Resends of a retained final message in the current epoch."
unfoldable pub fin_made : Config → Made
fin_made cfg = endless cfg.resends

-- "Rekey msg3 probe rungs and keepalive-only rungs."
unfoldable pub probes_made : Config → Made
probes_made cfg = probing cfg.resends (confirm_of cfg) (gap_of cfg)

-- "Probe rungs after a revert": `REVERT_PROBES` of them
unfoldable pub revert_made : Config → Made
revert_made cfg = probing 3 cfg.revert (gap_of cfg)

-- "Prompt repeats after a cutover": `ELICIT_REPEATS` of them
unfoldable pub elicit_made : Config → Made
elicit_made cfg = endless 2

-- "Rekey msg3 resends of a delayed cutover": `DELAY_RESENDS` of them
unfoldable pub delayed_made : Config → Made
delayed_made cfg = endless 4

-- "The cap on the probe grace": half of the confirmation window after the last probe
unfoldable pub grace_of : Config → ℕ
grace_of cfg = (confirm_of cfg - last_offset (probes_made cfg).sched) / 2

-- ---- a hold for a link's responder

abbrev pub holding : Config → ℕ → Config
holding cfg hold =
    record {
      after = cfg.after;
      jitter = cfg.jitter;
      messages = cfg.messages;
      handshake = cfg.handshake;
      check = cfg.check;
      drain = cfg.drain;
      retention = cfg.retention;
      hold = hold;
      revert = cfg.revert;
      dampening = cfg.dampening;
      ttl = cfg.ttl;
      young = cfg.young;
      link_age = cfg.link_age;
      session_age = cfg.session_age;
      floor_link = cfg.floor_link;
      floor_session = cfg.floor_session;
      floor_cutover = cfg.floor_cutover;
      silence = cfg.silence;
      resends = cfg.resends;
      soft = cfg.soft;
      hard = cfg.hard;
      delay = cfg.delay;
      arrival = cfg.arrival;
    }

-- "its msg1 resend span, the handshake timeout and the dampening window", at most 2^64 - 1
abbrev pub retry_of : Config → ℕ
retry_of cfg = least (msg1_span cfg.resends + cfg.handshake + cfg.dampening) end

-- `with_hold`: "the longest of the drain ceiling, the time a peer that lost the answer to its
-- rekey takes to try again, .. and `silence`"
unfoldable pub with_hold_of : Config → ℕ → Config
with_hold_of cfg silence = holding cfg (most (most cfg.retention (retry_of cfg)) silence)

-- ---- `Params::new`

-- every derived value
unfoldable pub params_of : Config → Params
params_of cfg =
    record {
      cfg = cfg;
      confirm = confirm_of cfg;
      span = option_of (span_of cfg);
      grace = grace_of cfg;
      rung = rung_of cfg;
      gap = gap_of cfg;
      budget = budget_of cfg;
      first = (first_made cfg).sched;
      fin = (fin_made cfg).sched;
      probes = (probes_made cfg).sched;
      revert = (revert_made cfg).sched;
      elicit = (elicit_made cfg).sched;
      delayed = (delayed_made cfg).sched;
      inert = record { first = (first_made cfg).dropped; probes = (probes_made cfg).dropped };
    }

-- the place of the first check that refuses the settings, 0 where they are accepted, and the derived values, which
-- mean something only then
pub record NewParams : Type 0 where
  pub place : ℕ
  pub params : Params

unfoldable pub new_of : Config → NewParams
new_of cfg = record { place = place_of cfg; params = params_of cfg }
