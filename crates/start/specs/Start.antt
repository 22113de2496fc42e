-- When an own rekey starts, and the earliest instant at which one can.
use Rattle.std.specs.Prelude.{ℕ, ◌+◌, ◌-◌, ◌*◌, Bool, false, not, ◌&&◌, ◌||◌, List, [], ◌∷◌, ◌++◌, leb, ltb, ℤ, pos, negsuc, Option, Some, None}
use Rattle.time.specs.declared.When.{When}
use Rattle.time.specs.Pick.{pick}
use Rattle.time.specs.Time.{none, at, later_of, sat_add, least, most, backoff_of}
use Rattle.settings.specs.declared.Config.{Config}
use Rattle.numbers.specs.declared.start.Start.{Start}
use Rattle.numbers.specs.Numbers.{start_scheduled, start_silence}
use Rattle.numbers.specs.Cases.{start_no}
use Rattle.cycle.specs.Kind.{is_idle}
use Rattle.state.specs.Parts.{listed}
use Rattle.state.specs.declared.Memory.{Memory}
use Rattle.state.specs.declared.State.{State}
use Rattle.state.specs.declared.Profile.{Profile}

-- ---- the two triggers

-- "Trigger: `after` plus jitter times 1000 ms, never below 0. .. The sum stops at 2^64 − 1."
unfoldable pub trigger_of : ℕ → ℤ → ℕ
trigger_of after (pos n) = sat_add after (n * 1000)
trigger_of after (negsuc n) = after - (n + 1) * 1000

-- "Silence: the setting doubled per count, at most `after`."
unfoldable pub silence_interval : Memory → Config → ℕ
silence_interval m cfg = backoff_of m.silence cfg.silence cfg.after

-- `latest`: the later of an instant that may be absent and one that is there
unfoldable pub latest_of : When → ℕ → ℕ
latest_of w t = pick w.some (most w.at t) t

-- an instant that is there and still ahead
abbrev pub ahead : When → ℕ → Bool
ahead w now = w.some && ltb now w.at

-- an instant that is a floor or more ago, or absent
abbrev pub aged : When → ℕ → ℕ → Bool
aged w floor now = not w.some || leb floor (now - w.at)

-- the last of some instants
unfoldable pub latest_in : List ℕ → ℕ
latest_in [] = 0
latest_in (t ∷ l) = most t (latest_in l)

-- an instant that may be absent, as a list
abbrev pub instants : When → List ℕ
instants w = listed w.some w.at

-- ---- what `start_kind` and `start_at` read: the memory, the settings, and of the current epoch its
-- start and its sent count

-- "A met soft limit passes dampening and backoff"
abbrev pub soft_met : Config → ℕ → Bool
soft_met cfg sent = leb cfg.soft sent

abbrev pub enough_sent : Config → ℕ → Bool
enough_sent cfg sent = leb cfg.messages sent

module _ (m : Memory) (cfg : Config) (started : ℕ) where
  -- `trigger_at`
  unfoldable pub trigger_at : ℕ
  trigger_at = later_of started (trigger_of cfg.after m.jitter)

  -- `silence_at`
  unfoldable pub silence_at : ℕ
  silence_at = later_of (latest_of m.rx_cur started) (silence_interval m cfg)

  -- the floors: the link, the epoch and the last cutover are old enough
  unfoldable pub floors_passed : ℕ → Bool
  floors_passed now =
      leb cfg.floor_link (now - m.link_since)
      && (leb cfg.floor_session (now - started)
      && aged m.last_cutover cfg.floor_cutover now)

  -- the ends of the floors
  unfoldable pub floor_ends : List ℕ
  floor_ends =
      later_of m.link_since cfg.floor_link ∷ later_of started cfg.floor_session
      ∷ listed m.last_cutover.some (later_of m.last_cutover.at cfg.floor_cutover)

  -- and of dampening
  unfoldable pub damped_ends : List ℕ
  damped_ends = floor_ends ++ instants m.damp

  -- and of the backoff
  unfoldable pub backed_ends : List ℕ
  backed_ends = damped_ends ++ instants m.backoff

  -- what a start by silence waits for
  unfoldable pub silence_waits : List ℕ
  silence_waits = backed_ends ++ silence_at ∷ []

module _ (m : Memory) (cfg : Config) (sent : ℕ) where
  -- dampening holds a start back
  unfoldable pub damped_now : ℕ → Bool
  damped_now now = not (soft_met cfg sent) && ahead m.damp now

  -- the backoff after abandoned attempts holds a start back, but not a repair
  unfoldable pub backed_now : Bool → ℕ → Bool
  backed_now repair now = not (soft_met cfg sent) && (not repair && ahead m.backoff now)

module _ (m : Memory) (cfg : Config) (started sent : ℕ) where
  -- a repair is due, or a limit of the sent count is met, or the time has come
  unfoldable pub triggered_now : ℕ → Bool
  triggered_now now = m.due || (soft_met cfg sent || (enough_sent cfg sent || leb (trigger_at m cfg started) now))

  unfoldable pub scheduled_now : ℕ → Bool
  scheduled_now now = triggered_now now && not (backed_now m cfg sent m.due now)

  -- data was sent, and nothing was heard for the silence interval
  unfoldable pub silent_now : ℕ → Bool
  silent_now now = m.sent_data && (leb (silence_at m cfg started) now && not (backed_now m cfg sent false now))

  -- `start_kind` past its first tests: 0 is Scheduled, 1 is Silence
  unfoldable pub kind_of : Bool → ℕ → When
  kind_of silence now =
      pick (floors_passed m cfg started now && not (damped_now m cfg sent now))
      (pick (scheduled_now now) (at start_scheduled) (pick (silence && silent_now now) (at start_silence) none))
      none

  -- what a scheduled start waits for
  unfoldable pub scheduled_waits : List ℕ
  scheduled_waits =
      pick (soft_met cfg sent) (floor_ends m cfg started)
      (pick m.due (damped_ends m cfg started)
      (pick (enough_sent cfg sent) (backed_ends m cfg started) (backed_ends m cfg started ++ trigger_at m cfg started ∷ [])))

  -- the last of these below the soft limit, from the ends of dampening and of the backoff
  unfoldable pub scheduled_after : ℕ → ℕ → ℕ
  scheduled_after damped backed = pick m.due damped (pick (enough_sent cfg sent) backed (most (trigger_at m cfg started) backed))

  -- `start_at` past its first tests: "The earliest instant a start condition can next hold."
  unfoldable pub at_of : Bool → ℕ
  at_of silence =
      pick (silence && m.sent_data)
      (least (latest_in scheduled_waits) (latest_in (silence_waits m cfg started)))
      (latest_in scheduled_waits)

-- ---- on the state

-- their first tests: there is a current epoch, the cycle is idle, no final message is held, the peer can be reached
unfoldable pub may_start : State → Bool
may_start s = s.cur.some && (is_idle s.cycle.kind && (not s.cur.ep.fin.some && s.mem.reachable))

-- `start_kind`
unfoldable pub start_kind : State → Config → Profile → ℕ → When
start_kind s cfg p now = pick (may_start s) (kind_of s.mem cfg s.cur.ep.started s.cur.ep.sent p.silence now) none

-- `start_at`, absent without a current epoch
unfoldable pub start_at : State → Config → Profile → When
start_at s cfg p = pick (may_start s) (at (at_of s.mem cfg s.cur.ep.started s.cur.ep.sent p.silence)) none

-- "A start is called for while `start_kind` yields at the instant and the sent count is below `hard`"
unfoldable pub called_for : State → Config → Profile → ℕ → Bool
called_for s cfg p now = (start_kind s cfg p now).some && ltb s.cur.ep.sent cfg.hard

-- ---- what the functions promise

-- the kind of a start, where there is one
abbrev pub kind_given : Option Start → When
kind_given None = none
kind_given (Some k) = at (start_no k)
