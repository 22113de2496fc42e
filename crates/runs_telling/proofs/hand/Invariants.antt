use Rattle.std.proofs.Common.{[]}
use Rattle.text_lines.specs.Puts.{Begins}
use Rattle.runs_telling.proofs.hand.Given as goal

abbrev pub invariant-loop-words : goal.invariant-loop-words
invariant-loop-words g l = Begins [] l.fn.out l.out
