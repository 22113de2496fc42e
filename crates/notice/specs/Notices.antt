-- The five notices as calls: "Each takes what a poll takes except the extra, and its case's fields." No
-- answer depends on the worker flag or on the spread, which is tested; only a worker's depends on the instant.
use Rattle.std.specs.Prelude.{ℕ, Bool, ℤ}
use Rattle.time.specs.declared.When.{When}
use Rattle.settings.specs.declared.Config.{Config}
use Rattle.state.specs.declared.State.{State}
use Rattle.state.specs.declared.Profile.{Profile}
use Rattle.refusal.specs.Refusal.{before_frame}
use Rattle.answer.specs.Outcome.{Outcome, done, outcome_by}
use Rattle.frame_hear.specs.Hear.{HearStep, given_of}
use Rattle.notice_rows.specs.Rows.{worker_of, delegated_of, undelegated_of, data_sent_of, path_of}

-- sent back by 1 to 7, which are a frame's; accepted, what its case leaves and tells
unfoldable pub notice_by : State → Config → Profile → ℤ → HearStep → Outcome
notice_by s cfg profile spread step = outcome_by (before_frame s cfg profile spread) s (done step.state step.out)

-- a worker authenticated a frame under the tag, with that key bit and counter
abbrev pub worker_answer : State → Config → Profile → ℕ → Bool → ℤ → ℕ → Bool → ℕ → Outcome
worker_answer s cfg profile time workers spread tag k counter =
    notice_by s cfg profile spread (worker_of s (given_of cfg profile time workers) tag k counter)

-- a worker accepted the receive copy of the epoch of the tag
abbrev pub delegated_answer : State → Config → Profile → ℤ → ℕ → Outcome
delegated_answer s cfg profile spread tag = notice_by s cfg profile spread (delegated_of s tag)

-- the worker that held it is gone
abbrev pub undelegated_answer : State → Config → Profile → ℤ → ℕ → Outcome
undelegated_answer s cfg profile spread tag = notice_by s cfg profile spread (undelegated_of s tag)

-- an application message was sealed
abbrev pub data_sent_answer : State → Config → Profile → ℤ → Outcome
data_sent_answer s cfg profile spread = notice_by s cfg profile spread (data_sent_of s)

-- whether a next hop exists, and the smoothed round trip
abbrev pub path_answer : State → Config → Profile → ℤ → Bool → When → Outcome
path_answer s cfg profile spread reachable srtt = notice_by s cfg profile spread (path_of s reachable srtt)
