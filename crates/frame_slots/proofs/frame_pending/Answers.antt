use Rattle.frame_slots.specs.Frame.{pending_frame}
use Rattle.retire.proofs.Told.{tells_then}
use mir.Facts.{to_z-of_z}
use Rattle.frame_slots.proofs.frame_pending.Goals as goal

pub returns : goal.returns
unfolding pending_frame
returns c =
    let told = simp (to_z-of_z c.ranges.spread) at c.cutover-state.ensures.told in
    (simp (c.cutover-state.ensures.state, c.pend_of-pend.ensures, to_z-of_z c.ranges.spread), (c.deliver.ensures.target, simp (← c.pend_of-pend.ensures) (tells_then c.end_pending.ensures (tells_then told c.deliver.ensures.told))))
