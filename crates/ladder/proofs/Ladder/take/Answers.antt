use Rattle.std.proofs.Common.{sym, ◌∙◌, arith}
use Rattle.ladder.proofs.SoFar.{nothing-yet, next-below, one-more, none-left}
use Rattle.ladder.proofs.Ladder.take.Goals as goal

pub loop-ladder-init : goal.loop-ladder-init
loop-ladder-init c = nothing-yet c.args.self c.args.now

pub step-requires-clause-rung : goal.step-requires-clause-rung
step-requires-clause-rung c = next-below c.loop-ladder.ladder c.args.now (sym c.due.ensures.1 ∙ c.loop-ladder-test.true)

pub loop-ladder-smaller : goal.loop-ladder-smaller
loop-ladder-smaller c =
    let h = next-below c.loop-ladder.ladder c.args.now (sym c.due.ensures.1 ∙ c.loop-ladder-test.true) in
    rw c.step.ensures.moved (omega arith)

pub loop-ladder-preserved : goal.loop-ladder-preserved
loop-ladder-preserved c =
    one-more c.args.self c.loop-ladder.ladder c.step.new.self c.loop-ladder.so_far c.step.result c.args.now c.loop-ladder.invariant
    (sym c.due.ensures.1 ∙ c.loop-ladder-test.true)
    c.step.ensures.moved
    c.step.ensures.step
    c.step.ensures.count
    c.step.ensures.last

pub returns : goal.returns
returns c = none-left c.args.self c.loop-ladder.ladder c.loop-ladder.so_far c.args.now c.loop-ladder.invariant (sym c.due.ensures.1 ∙ c.loop-ladder-test.false)
