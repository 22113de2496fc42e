use mir.Facts.{to_z-of_z}
use Rattle.poll_item.proofs.Laws.{other_past}
use Rattle.poll_item.proofs.other.Goals as goal

pub returns : goal.returns
returns c =
    let e = simp (to_z-of_z c.ranges.spread) at c.row.ensures in
    rw (← other_past c.args.s.now c.args.g c.args.spread c.args.due.kind c.args.due.key, ← c.from.ensures) e
