use Rattle.std.proofs.Common.{sym, ◌∙◌, arith}
use mir.Facts.{to_z-of_z}
use Rattle.poll_loop.proofs.Laws.{along_start, along_over, along_ended, along_none, along-next, leaves_as}
use Rattle.poll_loop.proofs.passes.Goals as goal
use Rattle.poll_loop.proofs.passes.Goals.{else-passes-test, then-passes-test+then-ended, then-passes-test+else-ended+then-is_empty}

pub passes-init : goal.passes-init
passes-init c = along_start _ _ _ _ _ c.new-listed.ensures

pub passes-preserved : goal.passes-preserved
passes-preserved c =
    along-next _ _ _ _ _ _ _ _ _ c.passes.invariant _ c.collect-items.ensures.items c.passes-test.true c.if-ended.false (sym c.is_empty.ensures ∙ c.if-is_empty.false) c.collect-items.ensures.room _
    (c.extend.ensures (omega (arith, c.collect-items.ensures.room, c.passes.invariant.room, c.passes-test.true))) _ _ _ c.run-ended.ensures

pub returns : goal.returns
returns c =
    elim c.passes-test.branch [
      | else-passes-test w ↦ leaves_as _ _ (to_z-of_z c.ranges.spread) c.len.ensures.value (along_over _ _ _ _ _ _ _ _ _ c.passes.invariant w.passes-test.false)
      | then-passes-test+then-ended w ↦ leaves_as _ _ (to_z-of_z c.ranges.spread) c.len.ensures.value (along_ended _ _ _ _ _ _ _ _ _ c.passes.invariant w.passes-test.true w.if-ended.true)
      | then-passes-test+else-ended+then-is_empty w ↦ leaves_as _ _ (to_z-of_z c.ranges.spread) c.len.ensures.value (along_none _ _ _ _ _ _ _ _ _ c.passes.invariant _ w.collect-items.ensures.items w.passes-test.true w.if-ended.false (sym w.is_empty.ensures ∙ w.if-is_empty.true))
    ]
