use Rattle.items.proofs.Laws.{place-first}
use Rattle.items.proofs.place.Goals as goal

pub returns : goal.returns
returns c = rw (c.unwrap_or.ensures, c.first_after.ensures) (place-first _ _)
