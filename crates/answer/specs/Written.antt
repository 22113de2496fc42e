-- What a call that tells events leaves in the words that it was lent.
use Rattle.std.specs.Prelude.{ℕ, ◌≤◌, ◌*◌, ◌≡◌, List, [], ◌∷◌, ◌++◌, map, length, drop}
use Rattle.events.specs.Events.{Event, words_of}
use Rattle.events.specs.Log.{at, max_events, held}

-- the words of events in order, eight to each
unfoldable pub words_in : List Event → List ℕ
words_in [] = []
words_in (e ∷ es) = words_of e ++ words_in es

-- events written over the front of words: their own, and then the words that stood behind them
unfoldable pub over : List Event → List ℕ → List ℕ
over es ws = words_in es ++ drop (length es * 8) ws

-- A call answers that number, 0 where it is accepted, and the length `len`, and tells `out`; ws are
-- the lent words before it and ws' those after. `first` is what it had written before it withdrew
-- prompts: nothing, where a call withdraws none.
pub record Written (number : ℕ) (first out : List Event) (len : ℕ) (ws ws' : List ℕ) : Type 0 where
  -- the length is how many events there are
  pub many : len ≡ length out
  -- "No answer has more than 96."
  pub few : len ≤ max_events
  -- read back, the places up to the length are the events in order
  pub events : held (at len ws') ≡ map words_of out
  -- and every word: the events, behind them what withdrawn ones left, and then what was there before
  pub words : ws' ≡ over out (over first ws)
  -- a call that is sent back leaves every word
  pub untouched : (number ≡ 0 → ⊥) → ws' ≡ ws
