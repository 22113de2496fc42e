use Rattle.std.proofs.Common.{◌∙◌}
use Rattle.items.specs.Items.{before}
use Rattle.items.proofs.Laws.{three-less}
use Rattle.items.proofs.Item.is_before.Goals as goal

pub returns : goal.returns
unfolding before
returns c =
    c.lt.ensures
    ∙ three-less c.args.self.at c.args.other.at c.args.self.due.kind c.args.other.due.kind c.args.self.due.key c.args.other.due.key
