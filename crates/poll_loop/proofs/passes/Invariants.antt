use Rattle.poll_loop.proofs.Laws.{Along}
use Rattle.poll_loop.proofs.passes.Given as goal

-- What is left of the passes, after the work so far, gives the whole.
abbrev pub invariant-passes : goal.invariant-passes
invariant-passes l = Along l.initial.s l.g l.spread l.initial.log l._pass l.listed l.s l.ended l.log
