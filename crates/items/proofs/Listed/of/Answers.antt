use Rattle.items.specs.Arrays.{due_of}
use Rattle.items.proofs.Laws.{copied-first}
use Rattle.items.proofs.Listed.of.Goals as goal

pub returns : goal.returns
returns c = copied-first due_of _ _ _ _ _ c.min-len.ensures c.copy_from_slice.ensures.after
