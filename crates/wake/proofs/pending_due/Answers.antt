use Rattle.std.proofs.Common.{sym, [], ◌∷◌, Some}
use Rattle.wake.specs.Due.{may_instants, fin_instants, pending_due}
use Rattle.wake.proofs.Earliest.{earliest_one}
use Rattle.wake.proofs.Parts.{least_named, sooner_named}
use Rattle.wake.proofs.pending_due.Goals as goal

pub returns-in-Held : goal.returns-in-Held
unfolding pending_due
returns-in-Held c = rw c.in-Held.ensures.held (sym (earliest_one _))

pub returns-in-Evidence : goal.returns-in-Evidence
unfolding pending_due
returns-in-Evidence c =
    rw (c.in-Evidence.ensures.held, c.in-Evidence.ensures.evidence)
    (sooner_named _ (Some c.args.p.now.deadline) _ (may_instants c.args.p.now.probes) (c.args.p.now.deadline ∷ []) c.sooner.ensures (least_named _ _ c.may_next.ensures) (sym (earliest_one _)))

pub returns-in-Delay : goal.returns-in-Delay
unfolding pending_due
returns-in-Delay c =
    rw (c.in-Delay.ensures.held, c.in-Delay.ensures.evidence)
    (sooner_named _ (Some c.args.p.now.deadline) _ (fin_instants c.args.p.now.fin) (c.args.p.now.deadline ∷ []) c.sooner-in-Delay.ensures (least_named _ _ c.fin_next.ensures) (sym (earliest_one _)))
