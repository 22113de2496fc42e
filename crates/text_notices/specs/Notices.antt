-- The notices on a row of arguments: each is the call's own definition, with every argument read at its place.
use Rattle.std.specs.Prelude.{ℕ, List, eqb}
use Rattle.time.specs.Pick.{pick}
use Rattle.settings.specs.declared.Config.{Config}
use Rattle.state.specs.declared.State.{State}
use Rattle.state.specs.declared.Profile.{Profile}
use Rattle.answer.specs.Outcome.{Outcome}
use Rattle.notice.specs.Notices.{worker_answer, delegated_answer, undelegated_answer, data_sent_answer, path_answer}
use Rattle.text_args.specs.Args.{number_at, flag_at, signed_at, when_at}
use Rattle.text_notices.specs.Places.{at_now, at_workers, at_spread, at_tag, worker_k, worker_counter, path_reachable, path_srtt}

-- a worker authenticated a frame
unfoldable pub worker_on : State → Config → Profile → List ℕ → Outcome
worker_on s cfg profile a =
    worker_answer s cfg profile (number_at a at_now) (flag_at a at_workers) (signed_at a at_spread) (number_at a at_tag) (flag_at a worker_k)
    (number_at a worker_counter)

-- a worker accepted a receive copy
unfoldable pub delegated_on : State → Config → Profile → List ℕ → Outcome
delegated_on s cfg profile a = delegated_answer s cfg profile (signed_at a at_spread) (number_at a at_tag)

-- a worker is gone
unfoldable pub undelegated_on : State → Config → Profile → List ℕ → Outcome
undelegated_on s cfg profile a = undelegated_answer s cfg profile (signed_at a at_spread) (number_at a at_tag)

-- an application message was sealed
unfoldable pub data_sent_on : State → Config → Profile → List ℕ → Outcome
data_sent_on s cfg profile a = data_sent_answer s cfg profile (signed_at a at_spread)

-- the path
unfoldable pub path_on : State → Config → Profile → List ℕ → Outcome
path_on s cfg profile a = path_answer s cfg profile (signed_at a at_spread) (flag_at a path_reachable) (when_at a path_srtt)

-- ---- the notices by number; crate `text_words` has the same names for code

abbrev pub call_worker : ℕ
call_worker = 5

abbrev pub call_delegated : ℕ
call_delegated = 6

abbrev pub call_undelegated : ℕ
call_undelegated = 7

abbrev pub call_data_sent : ℕ
call_data_sent = 8

-- any other number is a `path`
unfoldable pub notice_on : ℕ → State → Config → Profile → List ℕ → Outcome
notice_on call s cfg profile a =
    pick (eqb call call_worker) (worker_on s cfg profile a)
    (pick (eqb call call_delegated) (delegated_on s cfg profile a)
    (pick (eqb call call_undelegated) (undelegated_on s cfg profile a)
    (pick (eqb call call_data_sent) (data_sent_on s cfg profile a) (path_on s cfg profile a))))
