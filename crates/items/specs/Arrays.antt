-- What the lists of items hold, as definitions see it, and where an item is put.
use Rattle.std.specs.Prelude.{ℕ, suc, List, [], ◌∷◌}
use Rattle.time.specs.Pick.{pick}
use Rattle.items.specs.declared.Due.{Due}
use Rattle.items.specs.declared.Item.{Item as Timed}
use Rattle.items.specs.Items.{Item, item, before}

-- the most items of a pass: 32 candidates and eight more
abbrev pub most : ℕ
most = 40

-- what three passes list at most
abbrev pub most_listed : ℕ
most_listed = 120

-- an item of the code
abbrev pub item_of : Timed → Item
item_of i = item i.at i.due.kind i.due.key

-- a listed item, which has no instant
abbrev pub due_of : Due → Item
due_of d = item 0 d.kind d.key

-- where an item is put
unfoldable pub place_for : Item → List Item → ℕ
place_for x [] = 0
place_for x (y ∷ l) = pick (before x y) 0 (suc (place_for x l))
