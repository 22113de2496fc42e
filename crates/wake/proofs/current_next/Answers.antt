use Rattle.std.proofs.Common.{sym}
use Rattle.wake.specs.Due.{fin_instants, elicit_instants, current_instants}
use Rattle.wake.proofs.Earliest.{earliest_nil}
use Rattle.wake.proofs.Parts.{least_named, sooner_named}
use Rattle.wake.proofs.current_next.Goals as goal

pub returns-then-e : goal.returns-then-e
unfolding current_instants
returns-then-e c =
    let ep = c.args.e.now.ep in
    rw c.if-e.true
    (sooner_named _ _ _ (fin_instants ep.fin) (elicit_instants ep.moved.some ep.elicit) c.sooner.ensures (least_named _ _ c.fin_next.ensures) (least_named _ _ c.elicit_next-elicit.ensures))

pub returns-else-e : goal.returns-else-e
unfolding current_instants
returns-else-e c = rw c.if-e.false (sym earliest_nil)
