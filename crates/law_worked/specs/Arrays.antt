-- Items and names of items as three lists of numbers, one to a field of an item.
use Rattle.std.specs.Prelude.{ℕ, ◌≤◌, ◌+◌, ◌-◌, List, [], ◌∷◌, ◌++◌, map, ◌≡◌, ltb, length, get_or, take, drop}
use Rattle.std.proofs.Math.Seq.{slice}
use Rattle.time.specs.Pick.{pick}
use Rattle.time.specs.Lists.{range}
use Rattle.time.specs.Time.{least}
use Rattle.items.specs.Items.{Item, item, insert, untimed}
use Rattle.items.specs.Arrays.{most, most_listed}

-- the item at place i
abbrev pub item_at : List ℕ → List ℕ → List ℕ → ℕ → Item
item_at at kind key i = item (get_or at i 0) (get_or kind i 0) (get_or key i 0)

-- the items from place i up to place n
unfoldable pub items_from : List ℕ → List ℕ → List ℕ → ℕ → ℕ → List Item
items_from at kind key i n = map (item_at at kind key) (range i (n - i))

-- the first n items
abbrev pub items_of : List ℕ → List ℕ → List ℕ → ℕ → List Item
items_of at kind key n = items_from at kind key 0 n

-- x put at place i of n: what stands there and after it, up to n, moves up by one
unfoldable pub opened : ℕ → ℕ → ℕ → List ℕ → List ℕ
opened i n x l = take i l ++ (x ∷ (slice i n l ++ drop (n + 1) l))

-- a listed item, which has no instant
abbrev pub list_at : List ℕ → List ℕ → ℕ → Item
list_at kind key i = item 0 (get_or kind i 0) (get_or key i 0)

-- the listed items from place i up to place n
unfoldable pub list_from : List ℕ → List ℕ → ℕ → ℕ → List Item
list_from kind key i n = map (list_at kind key) (range i (n - i))

-- what earlier passes listed: the first n, 120 at most
abbrev pub list_of : List ℕ → List ℕ → ℕ → List Item
list_of kind key n = list_from kind key 0 (least n most_listed)

-- the items of a pass by kind and key: the first n, 40 at most
abbrev pub first_of : List ℕ → List ℕ → ℕ → List Item
first_of kind key n = list_from kind key 0 (least n most)

-- three lists of n places
pub record Wide (n : ℕ) (a k x : List ℕ) : Type 0 where
  pub at : length a ≡ n
  pub kind : length k ≡ n
  pub key : length x ≡ n

-- one more, where there is room
abbrev pub counted : ℕ → ℕ → ℕ
counted limit n = pick (ltb n limit) (n + 1) n

-- an item put in its place among n, where there is room
pub record Inserted (at kind key : List ℕ) (n : ℕ) (x : Item) (at' kind' key' : List ℕ) (r : ℕ) : Type 0 where
  pub count : r ≡ counted most n
  pub items : items_of at' kind' key' r ≡ pick (ltb n most) (insert x (items_of at kind key n)) (items_of at kind key n)
  pub full : most ≤ n → (at' ≡ at) × (kind' ≡ kind) × (key' ≡ key)

-- an item's name put after n, where there is room
pub record Noted (kind key : List ℕ) (n : ℕ) (x : Item) (kind' key' : List ℕ) (r : ℕ) : Type 0 where
  pub count : r ≡ counted most_listed n
  pub list : list_of kind' key' r ≡ pick (ltb n most_listed) (list_of kind key n ++ (untimed x ∷ [])) (list_of kind key n)
  pub full : most_listed ≤ n → (kind' ≡ kind) × (key' ≡ key)

-- the names of a pass's items put after n
pub record Extended (kind key : List ℕ) (n : ℕ) (pk px : List ℕ) (m : ℕ) (kind' key' : List ℕ) (r : ℕ) : Type 0 where
  pub list : list_of kind' key' r ≡ list_of kind key n ++ list_from pk px 0 m
  pub count : r ≡ n + m
