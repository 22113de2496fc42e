-- Ladders: a schedule anchored at an instant, with a cursor.
use Rattle.std.specs.Prelude.{ℕ, ◌+◌, Bool, true, false, List, [], ◌∷◌, leb, ltb, length, get_or, drop}
use Rattle.time.specs.declared.When.{When}
use Rattle.time.specs.Pick.{pick}
use Rattle.time.specs.Lists.{fold, take_while}
use Rattle.time.specs.Time.{none, at, later_of, reached_of}
use Rattle.ladder.specs.declared.Schedule.{Schedule}
use Rattle.ladder.specs.declared.Ladder.{Ladder}
use Rattle.ladder.specs.Took.{Taking, Took}
use Rattle.ladder.specs.Schedule.{Rung, max_rungs, rungs_of, held_of}

abbrev pub anew : ℕ → Schedule → Ladder
anew t s = record { origin = t; sched = s; next = 0 }

-- a ladder with its cursor at rung n
abbrev pub moved_to : Ladder → ℕ → Ladder
moved_to l n = record { origin = l.origin; sched = l.sched; next = n }

-- the rungs that are not taken yet
unfoldable pub remaining : Ladder → List Rung
remaining l = drop l.next (rungs_of max_rungs l.sched)

-- the instant of the first of some rungs
abbrev pub first_at : ℕ → List Rung → When
first_at origin [] = none
first_at origin (r ∷ l) = at (later_of origin r.offset)

-- "next instant"
unfoldable pub next_at_of : Ladder → When
next_at_of l = first_at l.origin (remaining l)

-- a rung is due where its instant is not after now
unfoldable pub due_of : Ladder → ℕ → Bool
due_of l now = reached_of (next_at_of l) now

abbrev pub is_due : ℕ → ℕ → Rung → Bool
is_due origin now r = leb (later_of origin r.offset) now

-- the rungs that are taken at now: those due, up to the first that is not
unfoldable pub due_rungs : Ladder → ℕ → List Rung
due_rungs l now = take_while (is_due l.origin now) (remaining l)

-- one rung taken moves the cursor and tells of its kind and offset
unfoldable pub taking : Taking → Rung → Taking
taking t r = record { next = t.next + 1; any = true; send = pick r.silent t.send true; latest = r.offset }

-- nothing taken yet
abbrev pub untaken : Ladder → Taking
untaken l = record { next = l.next; any = false; send = false; latest = 0 }

-- what n rungs taken tell of a ladder
abbrev pub told : Ladder → ℕ → Taking → Took
told l n t =
    record { ladder = record { origin = l.origin; sched = l.sched; next = t.next }; any = t.any; taken = n; send = t.send; latest = t.latest; last = leb l.sched.len t.next }

-- "Taking rungs moves the ladder past every due rung and tells whether one was a send, the latest
-- offset, and whether none is left." "Taking rungs from a ladder also tells the number taken."
unfoldable pub take_of : Ladder → ℕ → Took
take_of l now = told l (length (due_rungs l now)) (fold taking (untaken l) (due_rungs l now))

-- the instant of rung i, as the code finds it
unfoldable pub instant_of : Ladder → ℕ → When
instant_of l i = pick (ltb i (held_of max_rungs l.sched)) (at (later_of l.origin (get_or l.sched.at i 0))) none

-- the rungs that are taken from rung i on
unfoldable pub due_from : Ladder → ℕ → ℕ → List Rung
due_from l now i = take_while (is_due l.origin now) (drop i (rungs_of max_rungs l.sched))
