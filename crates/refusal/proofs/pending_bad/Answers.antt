use Rattle.refusal.proofs.Standing.{pending_tested}
use Rattle.refusal.proofs.pending_bad.Goals as goal

pub returns : goal.returns
returns c = pending_tested (λ e. e.now) c.args.c.now c.pending.result _ c.pending.ensures c.is_some_and.ensures
