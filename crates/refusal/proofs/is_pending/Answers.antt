use Rattle.std.proofs.Common.{◌∙◌}
use Rattle.refusal.proofs.Standing.{pending_there}
use Rattle.refusal.proofs.is_pending.Goals as goal

pub returns : goal.returns
returns c = c.is_some.ensures ∙ pending_there (λ e. e.now) c.args.c.now c.pending.result c.pending.ensures
