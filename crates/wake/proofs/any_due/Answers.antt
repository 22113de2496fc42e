use Rattle.std.proofs.Common.{sym, ◌∙◌, ap}
use Rattle.time.specs.Time.{reached_of}
use Rattle.wake.proofs.Laws.{due-reached}
use Rattle.wake.proofs.any_due.Goals as goal

pub returns : goal.returns
returns c = c.is_reached.ensures ∙ (ap (λ w. reached_of w c.args.now) c.due_next.ensures ∙ sym (due-reached _ _))
