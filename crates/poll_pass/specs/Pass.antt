-- One pass of a poll: `expire_pass` of machine.rs.
use Rattle.std.specs.Prelude.{Bool, true, ◌≡◌, List, ◌++◌, ℤ}
use Rattle.time.specs.Pick.{pick}
use Rattle.time.specs.Lists.{fold}
use Rattle.items.specs.Items.{Item}
use Rattle.state.specs.declared.State.{State}
use Rattle.state.specs.declared.Given.{Given}
use Rattle.events.specs.Events.{Event}
use Rattle.events.specs.declared.Log.{Log}
use Rattle.events.specs.Told.{Tells}
use Rattle.poll_cut.specs.Cut.{Step}
use Rattle.poll_item.specs.Item.{item_step}

-- the state, the events so far, and whether the link has ended
pub record Work : Type 0 where
  pub state : State
  pub out : List Event
  pub ended : Bool

abbrev pub work_of : State → List Event → Bool → Work
work_of s out ended = record { state = s; out = out; ended = ended }

-- what a step leaves after what was there
abbrev pub did : Work → Step → Work
did w t = work_of t.state (w.out ++ t.out) (pick w.ended true t.ends)

-- one item of a pass
unfoldable pub run_item : Given → ℤ → Work → Item → Work
run_item g spread w i = did w (item_step w.state g spread i.kind i.key)

-- `expire_pass`: every item in order, also after one that ends the link
unfoldable pub pass_of : Given → ℤ → List Item → Work → Work
pass_of g spread items w = fold (run_item g spread) w items

-- ---- what the functions promise

-- the work is done: its state, its events behind those of the log, and whether the link has ended
pub record Runs (w : Work) (l : Log) (s : State) (ended : Bool) (l' : Log) : Type 0 where
  pub state : s ≡ w.state
  pub tells : Tells w.out l l'
  pub ends : ended ≡ w.ended
