-- The log of an answer: words that the caller lends, 96 places of eight words, and how many of the
-- places are taken.
use Rattle.std.specs.Prelude.{ℕ, ◌+◌, ◌-◌, ◌*◌, ◌≡◌, List, [], ◌∷◌, map, ltb, get_or}
use Rattle.std.proofs.lemmas.List.Edits.{sets}
use Rattle.time.specs.Pick.{pick}
use Rattle.time.specs.Time.{least}
use Rattle.time.specs.Lists.{range}
use Rattle.events.specs.Events.{Event, words_of}

pub record Log : Type 0 where
  pub len : ℕ
  pub words : List ℕ

unfoldable pub at : ℕ → List ℕ → Log
at n ws = record { len = n; words = ws }

-- "No answer has more than 96."
abbrev pub max_events : ℕ
max_events = 96

-- eight words put at the next place; a full log stays as it is
unfoldable pub stored : Log → List ℕ → Log
stored v w = pick (ltb v.len max_events) (at (v.len + 1) (sets v.words (v.len * 8) w)) v

unfoldable pub pushed : Log → Event → Log
pushed v e = stored v (words_of e)

-- the log with each event of a list put in, in order
abbrev pub logged : Log → List Event → Log
logged v [] = v
logged v (e ∷ es) = logged (pushed v e) es

-- what a function promises that tells the events `out`: of `len` events in the words ws it makes `n` in
-- ws', those of `out` behind the others, in order and as far as there is room
abbrev pub Appends : List Event → ℕ → List ℕ → ℕ → List ℕ → Type 0
Appends out len ws n ws' = at n ws' ≡ logged (at len ws) out

-- the eight words of place i
abbrev pub place_of : List ℕ → ℕ → List ℕ
place_of ws i =
    get_or ws (i * 8) 0
    ∷ get_or ws (i * 8 + 1) 0
    ∷ get_or ws (i * 8 + 2) 0
    ∷ get_or ws (i * 8 + 3) 0
    ∷ get_or ws (i * 8 + 4) 0
    ∷ get_or ws (i * 8 + 5) 0
    ∷ get_or ws (i * 8 + 6) 0
    ∷ get_or ws (i * 8 + 7) 0
    ∷ []

-- how many places a length takes: one that claims more than there are counts as all of them
unfoldable pub taken_of : ℕ → ℕ
taken_of n = least n max_events

-- the places from i up to n, as lists of eight words
unfoldable pub places_of : List ℕ → ℕ → ℕ → List (List ℕ)
places_of ws i n = map (place_of ws) (range i (n - i))

-- what a log holds, in order
unfoldable pub held : Log → List (List ℕ)
held v = places_of v.words 0 (taken_of v.len)
