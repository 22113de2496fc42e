use mir.Facts.{to_z-of_z}
use Rattle.time.proofs.Std.{add_stops}
use Rattle.start.proofs.Signs.{less-value, more-value}
use Rattle.start.proofs.trigger.Goals as goal

pub returns-then-jitter-lt0 : goal.returns-then-jitter-lt0
returns-then-jitter-lt0 c =
    let e = to_z-of_z c.ranges.jitter in
    let h = simp e at c.if-jitter-lt0.true in
    simp (c.saturating_sub.ensures, c.unsigned_abs-seconds.ensures.value, e) (less-value c.args.after c.args.jitter h)

pub returns-else-jitter-lt0 : goal.returns-else-jitter-lt0
returns-else-jitter-lt0 c =
    let e = to_z-of_z c.ranges.jitter in
    let h = simp e at c.if-jitter-lt0.false in
    simp (c.saturating_add.ensures, c.unsigned_abs-seconds.ensures.value, e, add_stops) (more-value c.args.after c.args.jitter h)
