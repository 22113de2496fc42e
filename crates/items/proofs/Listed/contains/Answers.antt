use Rattle.std.proofs.Common.{refl, ◌∙◌, ap}
use Rattle.items.specs.Items.{listed_in}
use Rattle.items.specs.Arrays.{due_of}
use Rattle.items.proofs.Laws.{listed-any}
use Rattle.items.proofs.Listed.contains.Goals as goal

pub returns : goal.returns
returns c =
    c.contains.ensures.value
    ∙ (listed-any _ (due_of c.args.due) (λ d. refl) _ ∙ ap (listed_in (due_of c.args.due)) c.self.view_is)
