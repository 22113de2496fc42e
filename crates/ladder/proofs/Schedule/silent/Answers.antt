use Rattle.ladder.specs.Schedule.{rung_at}
use borrow.Author.Rules.{rules}
use Rattle.ladder.proofs.Schedule.silent.Goals as goal

pub returns : goal.returns
unfolding rung_at
returns c = search rules
