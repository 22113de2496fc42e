-- What a function promises that writes to a log.
use Rattle.std.specs.Prelude.{ℕ, ◌≡◌, List}
use Rattle.events.specs.Events.{Event}
use Rattle.events.specs.Log.{Appends, at, stored}
use Rattle.events.specs.declared.Log.{Log}

-- the events `out` stand behind those of the log, in order and as far as there is room
pub record Tells (out : List Event) (l l' : Log) : Type 0 where
  pub appends : Appends out l.len l.words.now l'.len l'.words.now
  pub same_reference : l'.words.ghost_name ≡ l.words.ghost_name

-- the eight words stand at the next place, if there is one
pub record Stores (w : List ℕ) (l l' : Log) : Type 0 where
  pub stores : at l'.len l'.words.now ≡ stored (at l.len l.words.now) w
  pub same_reference : l'.words.ghost_name ≡ l.words.ghost_name
