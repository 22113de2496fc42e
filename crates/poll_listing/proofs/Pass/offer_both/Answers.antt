use Rattle.poll_listing.specs.Laws.{offer-then}
use Rattle.poll_listing.proofs.Pass.offer_both.Goals as goal

pub returns : goal.returns
returns c = offer-then c.offer_next.ensures c.offer.ensures
