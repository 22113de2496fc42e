use Rattle.wake.specs.Due.{current_items}
use Rattle.poll_listing.specs.Laws.{offer-nothing, offer-then}
use Rattle.poll_listing.proofs.Pass.offer_current.Goals as goal

pub returns-then-e : goal.returns-then-e
unfolding current_items
returns-then-e c =
    rw (c.if-e.true, ← c.fin_next.ensures, ← c.elicit_next-elicit.ensures) (offer-then c.offer_next.ensures c.offer_next-then-e.ensures)

pub returns-else-e : goal.returns-else-e
unfolding current_items
returns-else-e c = rw c.if-e.false (offer-nothing 2)
