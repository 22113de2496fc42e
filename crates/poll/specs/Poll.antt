-- The poll as document 01 has it: sent back by number, or three passes over the items that are due,
-- then the teardown tests, the start and the offers.
use Rattle.std.specs.Prelude.{ℕ, Bool, ℤ}
use Rattle.settings.specs.declared.Config.{Config}
use Rattle.state.specs.declared.State.{State}
use Rattle.state.specs.declared.Profile.{Profile}
use Rattle.state.specs.declared.Given.{Given}
use Rattle.refusal.specs.Refusal.{before_poll}
use Rattle.poll_loop.specs.Passes.{Ended, three_passes}
use Rattle.answer.specs.Outcome.{Outcome, finished, outcome_by}
use Rattle.poll_close.specs.Closing.{unsealed, closing}

-- "A poll reads a state, settings, profile, instant, worker flag and two draws."
abbrev pub given_to : Config → Profile → ℕ → Bool → ℕ → Given
given_to cfg p now workers extra = record { cfg = cfg; profile = p; now = now; workers = workers; extra = extra }

-- what the passes left, and what follows them
abbrev pub settled : Given → Ended → Outcome
settled g t =
    finished t.work.state (unsealed t.work.state g t.work.ended t.work.out)
    (closing t.work.state g t.work.ended t.work.out)
    t.count

-- an accepted poll
unfoldable pub accepted_poll : State → Given → ℤ → Outcome
accepted_poll s g spread = settled g (three_passes s g spread)

unfoldable pub poll_of : State → Config → Profile → ℕ → Bool → ℤ → ℕ → Outcome
poll_of s cfg p now workers spread extra =
    outcome_by (before_poll s cfg p spread extra) s (accepted_poll s (given_to cfg p now workers extra) spread)
