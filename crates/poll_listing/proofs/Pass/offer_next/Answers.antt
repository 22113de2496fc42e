use Rattle.poll_listing.specs.Laws.{offer-nothing}
use Rattle.poll_listing.proofs.Pass.offer_next.Goals as goal

pub returns-in_default : goal.returns-in_default
returns-in_default c = rw c.in_default.is (offer-nothing 1)
