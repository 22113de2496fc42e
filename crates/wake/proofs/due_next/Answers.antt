use Rattle.wake.specs.Due.{cycle_due, cycle_with, due_instants}
use Rattle.wake.proofs.due_next.Goals as goal

pub returns : goal.returns
unfolding due_instants cycle_due cycle_with
returns c = c.standing_next.ensures (cycle_due c.args.s.now.cycle) (c.cycle_next.ensures _ c.pending_due-pending.ensures)
