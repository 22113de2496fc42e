-- The passes of a poll: the loop of `poll` (machine.rs).
use Rattle.std.specs.Prelude.{ℕ, zero, suc, ◌+◌, Bool, false, ◌≡◌, List, [], ◌++◌, map, eqb, ℤ, length}
use Rattle.time.specs.Pick.{pick}
use Rattle.items.specs.Items.{Item, untimed}
use Rattle.state.specs.declared.State.{State}
use Rattle.state.specs.declared.Given.{Given}
use Rattle.events.specs.declared.Log.{Log}
use Rattle.events.specs.Told.{Tells}
use Rattle.poll_listing.specs.Listing.{pass_items}
use Rattle.poll_pass.specs.Pass.{Work, work_of, pass_of}

-- what the passes leave, and "the count of items listed by its passes"
pub record Ended : Type 0 where
  pub work : Work
  pub count : ℕ

abbrev pub ended : Work → ℕ → Ended
ended w count = record { work = w; count = count }

-- what is listed after a pass over some items: `done.extend(..)`
abbrev pub noting : List Item → List Item → List Item
noting done items = done ++ map untimed items

-- at most n passes: none after the link has ended, and none where every item was listed
unfoldable pub passes_of : ℕ → Given → ℤ → List Item → ℕ → Work → Ended
passes_of zero g spread done count w = ended w count
passes_of (suc n) g spread done count w =
    let items : List Item = pass_items done w.state g.now in
    pick w.ended (ended w count)
    (pick (eqb (length items) 0) (ended w count)
    (passes_of n g spread (noting done items) (count + length items) (pass_of g spread items w)))

-- "A poll makes at most three passes and leaves on an empty one."
unfoldable pub three_passes : State → Given → ℤ → Ended
three_passes s g spread = passes_of 3 g spread [] 0 (work_of s [] false)

-- ---- what the passes promise

-- the state, the events behind those of the log, whether the link ended, and the count
pub record Leaves (t : Ended) (l : Log) (s : State) (ended : Bool) (count : ℕ) (l' : Log) : Type 0 where
  pub state : s ≡ t.work.state
  pub tells : Tells t.work.out l l'
  pub ends : ended ≡ t.work.ended
  pub counts : count ≡ t.count
