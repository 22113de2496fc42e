use Rattle.items.specs.Arrays.{item_of}
use Rattle.items.proofs.Laws.{copied-first}
use Rattle.items.proofs.Items.of.Goals as goal

pub returns : goal.returns
returns c = copied-first item_of _ _ _ _ _ c.min-len.ensures c.copy_from_slice.ensures.after
