use Rattle.wake.specs.Due.{cycle_with}
use Rattle.wake.specs.Wake.{pending_waits, cycle_instants, stored_instants}
use Rattle.wake.proofs.stored_next.Goals as goal

pub returns : goal.returns
unfolding stored_instants cycle_instants pending_waits cycle_with
returns c = c.standing_next.ensures (cycle_instants c.args.s.now.cycle) (c.cycle_next.ensures _ c.pending_next-pending.ensures)
