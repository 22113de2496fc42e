use Rattle.std.proofs.Common.{◌≡◌, ◌-◌, ◌+◌, sym, ◌∙◌, ap, map}
use Rattle.std.proofs.Math.Nat.{sub-zero}
use Rattle.time.specs.Lists.{fold, range, range-next, range-end}
use Rattle.time.specs.Options.{when_of}
use Rattle.time.specs.Time.{none}
use Rattle.ladder.specs.Schedule.{last_of, last_send_of, rung_at, rungs_of}
use Rattle.ladder.proofs.Schedule.last_send.Goals as goal
use Rattle.ladder.proofs.Schedule.last_send.Goals.{then-not-silent, else-not-silent}

pub loop-i-init : goal.loop-i-init
loop-i-init c = simp sub-zero

pub loop-i-preserved : goal.loop-i-preserved
unfolding fold last_of rung_at
loop-i-preserved c =
    c.loop-i.invariant
    ∙ (ap (λ l. fold last_of (when_of c.loop-i.found) (map (rung_at c.args.self) l)) (range-next c.loop-i.i c.rungs-n.result c.loop-i-test.true)
    ∙ ap (λ w. fold last_of w (map (rung_at c.args.self) (range (c.loop-i.i + 1) (c.rungs-n.result - (c.loop-i.i + 1))))) step)
  where
    step : last_of (when_of c.loop-i.found) (rung_at c.args.self c.loop-i.i) ≡ when_of c.if-not-silent.found
    step = elim c.if-not-silent.branch [ then-not-silent w ↦ rw (w.found-is, ← c.silent.ensures, w.if-not-silent.true) | else-not-silent w ↦ rw (w.found-is, ← c.silent.ensures, w.if-not-silent.false) ]

pub returns : goal.returns
unfolding fold last_send_of rungs_of
returns c =
    sym
    (ap (λ k. fold last_of none (map (rung_at c.args.self) (range 0 k))) (sym c.rungs-n.ensures.value)
    ∙ (c.loop-i.invariant
    ∙ ap (λ l. fold last_of (when_of c.loop-i.found) (map (rung_at c.args.self) l)) (range-end c.loop-i.i c.rungs-n.result c.loop-i-test.false)))
