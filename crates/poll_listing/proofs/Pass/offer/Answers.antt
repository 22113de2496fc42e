use Rattle.std.proofs.Common.{sym, ◌∙◌}
use Rattle.items.specs.Arrays.{item_of}
use Rattle.poll_listing.specs.Laws.{offer-old, offer-new, offer-later}
use Rattle.poll_listing.proofs.Pass.offer.Goals.{else-item-self-via-then-item-self+else-not-contains, else-item-self-via-else-item-self}
use Rattle.poll_listing.proofs.Pass.offer.Goals as goal

pub returns-then-not-contains : goal.returns-then-not-contains
returns-then-not-contains c =
    offer-new (item_of c.args.item) c.if-item-self.true (sym c.contains.ensures ∙ c.if-not-contains.true) c.requires c.insert.ensures

pub returns-else-item-self : goal.returns-else-item-self
returns-else-item-self c =
    elim c.else-item-self.branch [
      | else-item-self-via-then-item-self+else-not-contains w ↦ offer-old (item_of c.args.item) w.if-item-self.true (sym w.contains.ensures ∙ w.if-not-contains.false)
      | else-item-self-via-else-item-self w ↦ offer-later (item_of c.args.item) w.if-item-self.false
    ]
