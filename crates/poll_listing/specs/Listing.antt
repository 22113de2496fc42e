-- What a pass lists: `due` of machine.rs without what earlier passes listed, in order.
use Rattle.std.specs.Prelude.{ℕ, ◌≤◌, ◌+◌, ◌-◌, not, ◌≡◌, List, map, length, get_or}
use Rattle.time.specs.Lists.{fold, range, kept}
use Rattle.numbers.specs.Numbers.{item_candidate}
use Rattle.items.specs.Items.{Item, item, insert, sorted, listed_in}
use Rattle.state.specs.declared.State.{State}
use Rattle.wake.specs.Due.{is_due, due_items}

-- "that no earlier pass listed"
abbrev pub unlisted : List Item → List Item → List Item
unlisted done l = kept (λ i. not (listed_in i done)) l

-- "every item of `due` whose instant is not after now and that no earlier pass listed"
unfoldable pub fresh : List Item → State → ℕ → List Item
fresh done s now = unlisted done (due_items s now)

-- "ordered by instant, then by kind as `Due` names them, then by tag or sequence number"
unfoldable pub pass_items : List Item → State → ℕ → List Item
pass_items done s now = sorted (fresh done s now)

-- ---- the same, one item after another

-- the items of a list that are due and not listed, each put in its place among those there
unfoldable pub offered : List Item → ℕ → List Item → List Item → List Item
offered done now have l = fold (λ s i. insert i s) have (unlisted done (kept (is_due now) l))

-- the candidates' items from place i up to place n
unfoldable pub waiting_from : List ℕ → List ℕ → ℕ → ℕ → List Item
waiting_from deadline seq i n = map (λ j. item (get_or deadline j 0) item_candidate (get_or seq j 0)) (range i (n - i))

-- ---- what the functions promise

-- the items of l, k at most, are offered to those there
pub record Offered (done : List Item) (time : ℕ) (l : List Item) (k : ℕ) (have have' : List Item) : Type 0 where
  pub items : have' ≡ offered done time have l
  pub count : length have' ≤ length have + k
