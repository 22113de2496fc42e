-- What taking rungs tells: the records that the definitions speak of, and how the code's answer is read as one.
use Rattle.std.specs.Prelude.{ℕ, Bool, true, false, leb, Option, Some, None}
use Rattle.ladder.specs.declared.Ladder.{Ladder}
use Rattle.ladder.specs.declared.Taken.{Taken}

-- what the rungs taken so far tell, with the cursor behind them
pub record Taking : Type 0 where
  pub next : ℕ
  pub any : Bool
  pub send : Bool
  pub latest : ℕ

-- a moved ladder, and what was taken from it: whether some rung was due, how many were, whether one was no
-- keepalive, the offset of the last one, and whether none is left
pub record Took : Type 0 where
  pub ladder : Ladder
  pub any : Bool
  pub taken : ℕ
  pub send : Bool
  pub latest : ℕ
  pub last : Bool

-- a ladder behind a take with what was taken, as one record
abbrev pub took_of : Ladder → Option Taken → Took
took_of l None = record { ladder = l; any = false; taken = 0; send = false; latest = 0; last = leb l.sched.len l.next }
took_of l (Some t) = record { ladder = l; any = true; taken = t.taken; send = t.send; latest = t.latest; last = t.last }

-- the same while rungs are still being taken
abbrev pub so_far : Ladder → Option Taken → Taking
so_far l None = record { next = l.next; any = false; send = false; latest = 0 }
so_far l (Some t) = record { next = l.next; any = true; send = t.send; latest = t.latest }

-- how many were taken so far
abbrev pub count_of : Option Taken → ℕ
count_of None = 0
count_of (Some t) = t.taken

-- whether one of them was no keepalive
abbrev pub sent_of : Option Taken → Bool
sent_of None = false
sent_of (Some t) = t.send
