-- The items of a pass, in the order in which a poll acts on them.
use Rattle.std.specs.Prelude.{ℕ, Bool, true, false, not, ◌&&◌, ◌||◌, List, [], ◌∷◌, ltb, eqb}
use Rattle.time.specs.Pick.{pick}
use Rattle.time.specs.Lists.{fold}

-- `(C::Instant, Due)` (machine.rs): an instant, the kind's place in `enum Due`, and the
-- tag or sequence number, 0 for a kind that has none
pub record Item : Type 0 where
  pub at : ℕ
  pub kind : ℕ
  pub key : ℕ

abbrev pub item : ℕ → ℕ → ℕ → Item
item t k x = record { at = t; kind = k; key = x }

-- the smaller of two numbers comes first, and where they are equal the rest decides
abbrev pub less_by : ℕ → ℕ → Bool → Bool
less_by a b rest = pick (eqb a b) rest (ltb a b)

-- "ordered by instant, then by kind as `Due` names them, then by tag or sequence number"
unfoldable pub before : Item → Item → Bool
before a b = less_by a.at b.at (less_by a.kind b.kind (ltb a.key b.key))

-- an item put before the first that it comes before, and so after those equal to it
unfoldable pub insert : Item → List Item → List Item
insert x [] = x ∷ []
insert x (y ∷ l) = pick (before x y) (x ∷ y ∷ l) (y ∷ insert x l)

-- `due.sort()` (machine.rs, `poll`)
unfoldable pub sorted : List Item → List Item
sorted l = fold (λ s x. insert x s) [] l

-- each item not after the next, the first not before x
unfoldable pub ordered_from : Item → List Item → Bool
ordered_from x [] = true
ordered_from x (y ∷ l) = not (before y x) && ordered_from y l

unfoldable pub ordered : List Item → Bool
ordered [] = true
ordered (x ∷ l) = ordered_from x l

-- the same kind and key, whatever the instants
abbrev pub names : Item → Item → Bool
names a b = eqb a.kind b.kind && eqb a.key b.key

-- "that no earlier pass listed": `done.contains(d)`, which has no instants
unfoldable pub listed_in : Item → List Item → Bool
listed_in x [] = false
listed_in x (y ∷ l) = names y x || listed_in x l

-- an item as `done` holds it
abbrev pub untimed : Item → Item
untimed d = item 0 d.kind d.key
