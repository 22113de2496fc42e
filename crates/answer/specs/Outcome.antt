-- What a call gives: sent back by a number, or finished with a state, events and a count.
use Rattle.std.specs.Prelude.{ℕ, List, [], eqb}
use Rattle.time.specs.Pick.{pick}
use Rattle.events.specs.Events.{Event}
use Rattle.state.specs.declared.State.{State}
use Rattle.refusal.specs.Refused.{Refused}

pub record Outcome : Type 0 where
  -- "A call is accepted when no number sends it back": 0, or the number
  pub number : ℕ
  -- "with the check's place in 1"
  pub place : ℕ
  pub state : State
  -- what it had written into the log before it withdrew prompts; nothing, where it withdraws none
  pub written : List Event
  -- its events
  pub out : List Event
  -- "the count of items listed by its passes": 0, of a call that is no poll
  pub count : ℕ

-- what the tests said
abbrev pub refused_of : Outcome → Refused
refused_of o = record { number = o.number; place = o.place }

-- "The answer is the number alone, with the check's place in 1; state and buffers remain."
abbrev pub sent_back : Refused → State → Outcome
sent_back r s = record { number = r.number; place = r.place; state = s; written = []; out = []; count = 0 }

-- an accepted call leaves the state s, and tells `out`
abbrev pub finished : State → List Event → List Event → ℕ → Outcome
finished s written out count = record { number = 0; place = 0; state = s; written = written; out = out; count = count }

-- a call that makes no passes and withdraws nothing
abbrev pub done : State → List Event → Outcome
done s out = finished s [] out 0

-- sent back where the tests give a number
unfoldable pub outcome_by : Refused → State → Outcome → Outcome
outcome_by r s o = pick (eqb r.number 0) o (sent_back r s)
