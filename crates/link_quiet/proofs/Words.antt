-- The laws by which it is told whether the least of some instants is reached.
use Rattle.wake.proofs.Earliest.{reached-append}
use Rattle.link_quiet.specs.Due.{nothing-due, one-due, rung-due}

pub ruleset due_words = (nothing-due, one-due, reached-append)

pub ruleset rung_words = (rung-due)
