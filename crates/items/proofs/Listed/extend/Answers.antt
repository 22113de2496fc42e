use Rattle.std.proofs.Common.{sym, append-nil}
use Rattle.items.proofs.Laws.{noted-more, noted-all}
use Rattle.items.proofs.Listed.extend.Goals as goal

pub loop-x-init : goal.loop-x-init
loop-x-init c = λ _. sym (append-nil _)

pub loop-x-preserved : goal.loop-x-preserved
loop-x-preserved c = noted-more _ _ _ _ _ _ c.loop-x-test.true c.loop-x.invariant c.note.ensures

pub returns : goal.returns
returns c = noted-all _ _ _ _ _ c.loop-x-test.false c.as_slice-x-items.ensures.value c.loop-x.invariant
