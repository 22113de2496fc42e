-- What the wake clause of the third demand wants of a state: where the wake is absent or later than now, a poll has nothing to do.
use Rattle.std.specs.Prelude.{ℕ}
use mathlib.Core.List.{List, map}
use Rattle.items.specs.Items.{Item}

-- ---- the instants of items

abbrev pub instants_of : List Item → List ℕ
instants_of l = map (λ i. i.at) l
