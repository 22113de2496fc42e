-- Schedules: a short list of rungs, made from a rule, kept or dropped by a test.
use Rattle.std.specs.Prelude.{ℕ, ◌+◌, ◌-◌, ◌*◌, ◌/◌, ◌%◌, ◌^◌, Bool, true, false, not, List, [], ◌∷◌, ◌++◌, map, ltb, eqb, length, get_or, take, replicate}
use Rattle.time.specs.declared.When.{When}
use Rattle.time.specs.Pick.{pick}
use Rattle.time.specs.Lists.{fold, range, kept}
use Rattle.time.specs.Time.{none, at, least, most, sat_mul}
use Rattle.ladder.specs.declared.Schedule.{Schedule}
use Rattle.ladder.specs.declared.Made.{Made}

-- "A schedule has at most 16 rungs". Every definition below takes the limit as an argument, and
-- the code uses them at this one.
abbrev pub max_rungs : ℕ
max_rungs = 16

-- a rung, "each an offset and a kind": a keepalive is silent, any other is a send
pub record Rung : Type 0 where
  pub offset : ℕ
  pub silent : Bool

abbrev pub send : ℕ → Rung
send t = record { offset = t; silent = false }

abbrev pub keepalive : ℕ → Rung
keepalive t = record { offset = t; silent = true }

-- what a constructor is to give: the rungs in order, and how many it left out
pub record Plan : Type 0 where
  pub rungs : List Rung
  pub dropped : ℕ

-- the rungs that find room, "and counts what it drops, up to 255"; d were dropped before
unfoldable pub cut : ℕ → List Rung → ℕ → Plan
cut limit l d = record { rungs = take limit l; dropped = least (d + (length l - limit)) 255 }

-- "A gap or first of 0 counts as 1."
abbrev pub positive : ℕ → ℕ
positive n = most n 1

-- the offset of resend i: first, 3 first, 7 first and so on, at most 2^64 - 1
unfoldable pub doubled : ℕ → ℕ → ℕ
doubled first i = sat_mul first (2 ^ (i + 1) - 1)

-- "`doubling` keeps an offset only strictly below the end"
abbrev pub before : When → ℕ → Bool
before end t = pick end.some (ltb t end.at) true

abbrev pub past : When → ℕ → Bool
past end t = not (before end t)

-- the offsets asked for
abbrev pub offsets : ℕ → ℕ → List ℕ
offsets first count = map (doubled (positive first)) (range 0 count)

-- `doubling`
unfoldable pub doubling_of : ℕ → ℕ → ℕ → When → Plan
doubling_of limit first count end =
    cut limit
    (map send (kept (before end) (offsets first count)))
    (length (kept (past end) (offsets first count)))

-- keepalives, gap apart after last, each more than gap before next
unfoldable pub keepalives : ℕ → ℕ → ℕ → List Rung
keepalives gap last next = map (λ i. keepalive (last + i * gap)) (range 1 ((next - last - 1) / gap))

-- the sends with keepalives between the origin, each send and the end
unfoldable pub filled : ℕ → ℕ → ℕ → List ℕ → List Rung
filled gap end last [] = keepalives gap last end
filled gap end last (t ∷ l) = keepalives gap last t ++ (send t ∷ filled gap end t l)

-- a plan of sends with keepalives added
abbrev pub added : ℕ → ℕ → ℕ → Plan → Plan
added limit gap end p = cut limit (filled (positive gap) end 0 (map (λ r. r.offset) p.rungs)) p.dropped

-- "`probes` adds keepalives": to the sends that `doubling` gives
unfoldable pub probes_of : ℕ → ℕ → ℕ → ℕ → ℕ → Plan
probes_of limit first count end gap = added limit gap end (doubling_of limit first count (at end))

-- ---- the record that holds a list of rungs

-- bit i of the map is set where rung i is a keepalive
unfoldable pub bits_of : List Rung → ℕ
bits_of [] = 0
bits_of (r ∷ l) = pick r.silent 1 0 + 2 * bits_of l

-- a list of rungs laid out, unused places 0
unfoldable pub laid : ℕ → List Rung → Schedule
laid limit l =
    record { at = map (λ r. r.offset) l ++ replicate (limit - length l) 0; keepalive = bits_of l; len = length l }

unfoldable pub made_of : ℕ → Plan → Made
made_of limit p = record { sched = laid limit p.rungs; dropped = p.dropped }

-- rung i of a schedule
unfoldable pub rung_at : Schedule → ℕ → Rung
rung_at s i = record { offset = get_or s.at i 0; silent = eqb ((s.keepalive / 2 ^ i) % 2) 1 }

-- how many rungs a schedule has, whatever its length claims
unfoldable pub held_of : ℕ → Schedule → ℕ
held_of limit s = least s.len limit

-- the rungs of a schedule
unfoldable pub rungs_of : ℕ → Schedule → List Rung
rungs_of limit s = map (rung_at s) (range 0 (held_of limit s))

-- the offset of the last rung that sends
unfoldable pub last_of : When → Rung → When
last_of w r = pick r.silent w (at r.offset)

unfoldable pub last_send_of : List Rung → When
last_send_of l = fold last_of none l
