-- What the quiet test promises: its answer, and what it says of a poll.
use Rattle.std.specs.Prelude.{Bool, true, ◌≡◌, [], ℤ}
use Rattle.state.specs.declared.State.{State}
use Rattle.state.specs.declared.Given.{Given}
use Rattle.answer.specs.Outcome.{done}
use Rattle.poll.specs.Poll.{poll_of}
use Rattle.law_runs.specs.Runs.{quiet}
use Rattle.law_runs.specs.Link.{Call, a_poll, link}

-- the poll that is asked about
abbrev pub polled : Given → ℤ → Call
polled g spread = a_poll g.cfg g.profile g.now g.workers spread g.extra

pub record Tells (s : State) (g : Given) (spread : ℤ) (r : Bool) : Type 0 where
  -- quiet as demand 3 has it: accepted, with none of the four conditions
  pub told : r ≡ quiet link (polled g spread) s
  -- such a poll has no event and a count of 0, and gives the state back
  pub still :
      r ≡ true
      → poll_of s g.cfg g.profile g.now g.workers spread g.extra
      ≡ done s []
