-- What is asked of a log: a word of it, and whether an epoch was offered.
use Rattle.std.specs.Prelude.{ℕ, ◌+◌, ◌*◌, Bool, true, false, List, [], ◌∷◌, ltb, eqb, get_or}
use Rattle.time.specs.Pick.{pick}
use Rattle.numbers.specs.Numbers.{event_delegate}
use Rattle.events.specs.Events.{Event, words_of}
use Rattle.events.specs.Log.{Log, max_events, places_of, held}

-- word k of place i; 0 outside
unfoldable pub word_of : List ℕ → ℕ → ℕ → ℕ
word_of ws i k = pick (ltb i max_events) (pick (ltb k 8) (get_or ws (i * 8 + k) 0) 0) 0

-- whether a test holds of one of a list
unfoldable pub any_of : {A : Type 0} → (A → Bool) → List A → Bool
any_of p [] = false
any_of p (a ∷ l) = pick (p a) true (any_of p l)

-- whether words are those of a Delegate of that tag
abbrev pub words_offer : ℕ → List ℕ → Bool
words_offer tag w = pick (eqb (get_or w 0 0) event_delegate) (eqb (get_or w 1 0) tag) false

abbrev pub offers : ℕ → Event → Bool
offers tag e = words_offer tag (words_of e)

-- whether a Delegate of that tag is held (machine.rs, `offered`)
unfoldable pub offered_in : Log → ℕ → Bool
offered_in v tag = any_of (words_offer tag) (held v)

-- what a loop at place i of n has still to ask
unfoldable pub any_from : (List ℕ → Bool) → List ℕ → ℕ → ℕ → Bool
any_from p ws n i = any_of p (places_of ws i n)
