use Rattle.std.proofs.Common.{sym, [], ◌∷◌, ◌++◌, Some}
use Rattle.wake.specs.Due.{may_instants, fin_instants}
use Rattle.wake.specs.Wake.{pending_waits}
use Rattle.wake.proofs.Earliest.{earliest_one}
use Rattle.wake.proofs.Parts.{least_named, sooner_named}
use Rattle.wake.proofs.pending_next.Goals as goal

pub returns : goal.returns
unfolding pending_waits
returns c =
    let p = c.args.p.now in
    sooner_named (Some p.deadline) _ _ (p.deadline ∷ []) (may_instants p.probes ++ fin_instants p.fin) c.sooner.ensures (sym (earliest_one _))
    (sooner_named _ _ _ (may_instants p.probes) (fin_instants p.fin) c.sooner-ladders.ensures (least_named _ _ c.may_next.ensures) (least_named _ _ c.fin_next.ensures))
