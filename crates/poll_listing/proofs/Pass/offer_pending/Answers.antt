use Rattle.std.proofs.Common.{arith}
use Rattle.numbers.specs.Numbers.{item_probe, item_delayed}
use Rattle.wake.specs.Due.{may_instants, fin_instants, pending_items}
use Rattle.poll_listing.specs.Laws.{offer-fewer, one-named, both-named}
use Rattle.poll_listing.proofs.Pass.offer_pending.Goals as goal

pub returns-in-Held : goal.returns-in-Held
unfolding pending_items
returns-in-Held c = rw c.in-Held.ensures.held (offer-fewer 2 (omega arith) (one-named c.new.ensures c.offer.ensures))

pub returns-in-Evidence : goal.returns-in-Evidence
unfolding pending_items
returns-in-Evidence c =
    rw (c.in-Evidence.ensures.held, c.in-Evidence.ensures.evidence)
    (both-named item_probe (may_instants c.args.p.now.probes) c.new-in-Evidence.ensures (rw c.may_next-next.ensures at c.offer_both.ensures))

pub returns-in-Delay : goal.returns-in-Delay
unfolding pending_items
returns-in-Delay c =
    rw (c.in-Delay.ensures.held, c.in-Delay.ensures.evidence)
    (both-named item_delayed (fin_instants c.args.p.now.fin) c.new-in-Delay.ensures (rw c.fin_next-next.ensures at c.offer_both-in-Delay.ensures))
