use Rattle.poll_pass.specs.Laws.{runs_none, runs-next}
use Rattle.poll_pass.proofs.run.Goals as goal

pub loop-item-init : goal.loop-item-init
loop-item-init c = runs_none _ _ _ _ _

pub loop-item-preserved : goal.loop-item-preserved
loop-item-preserved c = runs-next _ _ _ _ _ _ c.loop-item-test.true c.loop-item.invariant c.step-ended.ensures
