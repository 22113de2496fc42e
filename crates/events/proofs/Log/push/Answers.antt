use Rattle.std.proofs.Common.{rules, refl}
use Rattle.events.specs.Log.{at, stored}
use borrow.Author.Tests.{le-ltb}
use Rattle.events.proofs.Laws.{copied}
use Rattle.events.proofs.Log.push.Goals as goal

pub returns-then-self-lt96 : goal.returns-then-self-lt96
returns-then-self-lt96 c =
    record {
      stores = copied _ _ _ _ c.if-self-lt96.true (search rules) (search rules) c.copy_from_slice.ensures.after;
      same_reference = refl;
    }

pub returns-else-self-lt96 : goal.returns-else-self-lt96
unfolding at stored
returns-else-self-lt96 c = record { stores = simp (le-ltb _ _ c.if-self-lt96.false); same_reference = refl }
