-- What is offered to a pass and what a pass collects, over three lists of numbers.
use Rattle.std.specs.Prelude.{ℕ, ◌≤◌, ◌+◌, ◌≡◌, List, ◌++◌, length}
use Rattle.time.specs.declared.When.{When}
use Rattle.items.specs.Items.{Item}
use Rattle.items.specs.Arrays.{most}
use Rattle.state.specs.declared.State.{State}
use Rattle.start.specs.Start.{instants}
use Rattle.wake.specs.Due.{items_at}
use Rattle.poll_listing.specs.Listing.{pass_items, offered}
use Rattle.law_worked.specs.Arrays.{items_of}

-- up to two items of one tag: the instant and the kind of each
pub record Two : Type 0 where
  pub first : When
  pub kind : ℕ
  pub second : When
  pub kind2 : ℕ
  pub key : ℕ

-- an item of the first kind and one of the second, where their instants are there
unfoldable pub two_items : Two → List Item
two_items t = items_at t.kind t.key (instants t.first) ++ items_at t.kind2 t.key (instants t.second)

-- the items of l, k at most, are offered to the first n
pub record Offered (done : List Item) (time : ℕ) (l : List Item) (k : ℕ) (at kind key : List ℕ) (n : ℕ) (at' kind' key' : List ℕ) (r : ℕ) : Type 0 where
  pub items : items_of at' kind' key' r ≡ offered done time (items_of at kind key n) l
  pub count : r ≤ n + k

-- the items of a pass stand in order in the first r places
pub record Collected (done : List Item) (s : State) (time : ℕ) (at kind key : List ℕ) (r : ℕ) : Type 0 where
  pub items : items_of at kind key r ≡ pass_items done s time
  pub count : r ≡ length (pass_items done s time)
  pub room : r ≤ most
