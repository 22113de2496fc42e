-- Two runs of one machine, the second without some of the polls: demand 3, over any machine.
use Rattle.std.specs.Prelude.{◌≡◌, List, [], ◌∷◌, ◌++◌, Bool, true, false, not, ◌&&◌, ◌↔◌, ℕ, zero, suc, ◌≤◌, ◌<◌}
use Rattle.std.proofs.Math.Option.{Option, none, some}

-- "A run takes a list of polls, frames, start replies and told sent counts", and, by request 1, notices: a
-- call is a poll, or another one with its name
pub data Kind (Name : Type 0) : Type 0 where
  poll : Kind Name
  named : Name → Kind Name

-- an answer: sent back by number, with the check's place; or events in order, with a count if it has one
pub data Answer (Event : Type 0) : Type 0 where
  back : ℕ → ℕ → Answer Event
  gave : List Event → Option ℕ → Answer Event

-- a call's result: its answer, the bytes that it left in its buffers, and the state
pub record Out (State Event Bytes : Type 0) : Type 0 where
  pub said : Answer Event
  pub bytes : Bytes
  pub next : State

-- what a shared call gave
pub record Heard (Event Bytes : Type 0) : Type 0 where
  pub said : Answer Event
  pub bytes : Bytes

-- a line of the log: "with call kind and instant"
pub record Entry (Name Event : Type 0) : Type 0 where
  pub kind : Kind Name
  pub at : ℕ
  pub said : Answer Event

-- "each refusal's number, with the check's place in 1, and, of each answer with an event or a count
-- above 0, its events in order and its count, if it has one"
abbrev pub logged : {Event : Type 0} → Answer Event → Bool
logged (back n p) = true
logged (gave (e ∷ es) c) = true
logged (gave [] none) = false
logged (gave [] (some zero)) = false
logged (gave [] (some (suc n))) = true

abbrev pub only_if : {A : Type 0} → Bool → A → List A
only_if true a = a ∷ []
only_if false a = []

-- "A call is accepted when no number sends it back"
abbrev pub goes_on : {Event : Type 0} → Answer Event → Bool
goes_on (back n p) = false
goes_on (gave es c) = true

-- an absent wake, or one later than the instant
abbrev pub Late : Option ℕ → ℕ → Type 0
Late none t = Unit {0}
Late (some w) t = t < w

-- what a run is made of; the four conditions are those on the state that a call gets
pub record Machine : Type 1 where
  pub State : Type 0
  pub Event : Type 0
  -- the names of the calls that are no polls
  pub Name : Type 0
  pub Bytes : Type 0
  pub Call : Type 0
  pub kind_of : Call → Kind Name
  pub at_of : Call → ℕ
  pub step : Call → State → Out State Event Bytes
  -- the bytes in the buffers that a call is given
  pub given : Call → Bytes
  -- what stands in a state: two records are one state where it is the same
  pub View : Type 0
  pub stands : State → View
  -- an accepted state
  pub Ok : State → Type 0
  pub due : Call → State → Bool
  pub start_called : Call → State → Bool
  pub teardown : Call → State → Bool
  pub offer : Call → State → Bool
  pub workers : Call → Bool
  -- "an epoch .., an attempt .., a candidate"
  pub held : State → Bool
  -- the wake, taken for a call's state, settings and profile
  pub wake : Call → State → Option ℕ
  -- no start of the state is after the instant
  pub Early : State → ℕ → Type 0

module _ (M : Machine) where
  abbrev pub next : M.Call → M.State → M.State
  next c s = (M.step c s).next

  abbrev pub accepted : M.Call → M.State → Bool
  accepted c s = goes_on (M.step c s).said

  -- "accepted with no item due, no start called for, no teardown standing and no offer owed"
  abbrev pub quiet : M.Call → M.State → Bool
  quiet c s = accepted c s && (not (M.due c s) && (not (M.start_called c s) && (not (M.teardown c s) && not (M.offer c s))))

  abbrev pub entry : M.Call → M.State → Entry M.Name M.Event
  entry c s = record { kind = M.kind_of c; at = M.at_of c; said = (M.step c s).said }

  abbrev pub log_one : M.Call → M.State → List (Entry M.Name M.Event)
  log_one c s = only_if (logged (M.step c s).said) (entry c s)

  -- "Each call gets the state that the one before it left"
  abbrev pub log_of : M.State → List M.Call → List (Entry M.Name M.Event)
  log_of s [] = []
  log_of s (c ∷ cs) = log_one c s ++ log_of (next c s) cs

  -- "The end state is what the last call leaves, or the first state where the list is empty."
  abbrev pub end_of : M.State → List M.Call → M.State
  end_of s [] = s
  end_of s (c ∷ cs) = end_of (next c s) cs

  abbrev pub heard : M.Call → M.State → Heard M.Event M.Bytes
  heard c s = record { said = (M.step c s).said; bytes = (M.step c s).bytes }

  abbrev pub heard_of : M.State → List M.Call → List (Heard M.Event M.Bytes)
  heard_of s [] = []
  heard_of s (c ∷ cs) = heard c s ∷ heard_of (next c s) cs

  -- a choice of polls of a list, to be left out
  pub data LeftOut : List M.Call → Type 0 where
    done : LeftOut []
    stays : {c : M.Call} {cs : List M.Call} → LeftOut cs → LeftOut (c ∷ cs)
    out : {c : M.Call} {cs : List M.Call} → M.kind_of c ≡ poll → LeftOut cs → LeftOut (c ∷ cs)

  -- "The second run .. gets the same calls with the same arguments, without the polls left out."
  abbrev pub second : {cs : List M.Call} → LeftOut cs → List M.Call
  second done = []
  second (stays {c = c} d) = c ∷ second d
  second (out p d) = second d

  -- each poll left out was quiet in the first run
  abbrev pub AllQuiet : M.State → {cs : List M.Call} → LeftOut cs → Type 0
  AllQuiet s done = Unit {0}
  AllQuiet s (stays {c = c} d) = AllQuiet (next c s) d
  AllQuiet s (out {c = c} p d) = (quiet c s ≡ true) × AllQuiet (next c s) d

  -- what the first run gave at the calls that both make
  abbrev pub heard_shared : M.State → {cs : List M.Call} → LeftOut cs → List (Heard M.Event M.Bytes)
  heard_shared s done = []
  heard_shared s (stays {c = c} d) = heard c s ∷ heard_shared (next c s) d
  heard_shared s (out {c = c} p d) = heard_shared (next c s) d

  -- the state that each call of a run gets
  abbrev pub states_of : M.State → List M.Call → List M.State
  states_of s [] = []
  states_of s (c ∷ cs) = s ∷ states_of (next c s) cs

  -- the states that the first run's calls got, of those that both make
  abbrev pub states_shared : M.State → {cs : List M.Call} → LeftOut cs → List M.State
  states_shared s done = []
  states_shared s (stays {c = c} d) = s ∷ states_shared (next c s) d
  states_shared s (out {c = c} p d) = states_shared (next c s) d

  -- no later call is before c, and no later poll is at c's instant if c is a poll
  abbrev pub After : M.Call → List M.Call → Type 0
  After c [] = Unit {0}
  After c (d ∷ ds) = (M.at_of c ≤ M.at_of d) × (M.kind_of c ≡ poll → M.kind_of d ≡ poll → M.at_of c < M.at_of d) × After c ds

  -- the clock never goes back, and polls strictly rise
  abbrev pub Rises : List M.Call → Type 0
  Rises [] = Unit {0}
  Rises (c ∷ cs) = After c cs × Rises cs

  -- the first state's starts are not after any instant of the list
  abbrev pub EarlyFor : M.State → List M.Call → Type 0
  EarlyFor s [] = Unit {0}
  EarlyFor s (c ∷ cs) = M.Early s (M.at_of c) × EarlyFor s cs

  -- Demand 3, whole: one claim about every list and every choice of polls left out.
  --
  -- For every list of polls, frames, start replies and told sent counts, refused ones included, from any
  -- one accepted state, and whichever of its polls a second run leaves out: the two runs have equal logs
  -- and end states exactly when each poll left out was, in the first, accepted with no item due, no start
  -- called for, no teardown standing and no offer owed. Each call gets the state that the last one left,
  -- and nobody else writes it. In that first state link start, last cutover and epoch starts are not after
  -- any instant of the list. The clock never goes back; polls strictly rise. In every such run, with
  -- workers off and an epoch, attempt or candidate held, an absent wake, or one later than an accepted
  -- poll, taken for that poll's state, settings and profile, marks a poll with none of the four.
  --
  -- By request 1 the list may have notices too, which count among the calls that both runs make.
  --
  -- What is proved is more: only the wake clause (`wakes`) supposes an accepted first state and its starts.
  -- End states are compared by what stands in them (`exactly`), and are equal as records too (`records`).
  pub record Demand3 : Type 0 where
    pub exactly :
        (s : M.State) (cs : List M.Call) (d : LeftOut cs) → Rises cs
        → ((log_of s cs ≡ log_of s (second d)) × (M.stands (end_of s cs) ≡ M.stands (end_of s (second d)))) ↔ AllQuiet s d
    -- the logs alone decide
    pub logs : (s : M.State) (cs : List M.Call) (d : LeftOut cs) → Rises cs → log_of s cs ≡ log_of s (second d) → AllQuiet s d
    -- quiet polls left out: the end states are equal as records too, leftovers and all
    pub records : (s : M.State) (cs : List M.Call) (d : LeftOut cs) → AllQuiet s d → end_of s cs ≡ end_of s (second d)
    -- "each shared call has also given the same answer and left the same bytes in its buffers"; and it got
    -- the same state
    pub shared :
        (s : M.State) (cs : List M.Call) (d : LeftOut cs) → Rises cs → log_of s cs ≡ log_of s (second d)
        → (heard_shared s d ≡ heard_of s (second d)) × (states_shared s d ≡ states_of s (second d))
    -- "state and buffers remain", leftovers too, where a call is sent back
    pub remains : (c : M.Call) (s : M.State) → accepted c s ≡ false → (next c s ≡ s) × ((M.step c s).bytes ≡ M.given c)
    -- what stands decides: two records of one state give the same answer and bytes, leave one state, and
    -- are quiet, wake and hold alike, whether the call is accepted or not
    pub decides :
        (c : M.Call) (s t : M.State) → M.stands s ≡ M.stands t
        → (heard c s ≡ heard c t) × (M.stands (next c s) ≡ M.stands (next c t))
        × (quiet c s ≡ quiet c t) × (M.wake c s ≡ M.wake c t) × (M.held s ≡ M.held t)
    -- and so does every list of calls
    pub one_state :
        (s t : M.State) (cs : List M.Call) → M.stands s ≡ M.stands t
        → (log_of s cs ≡ log_of t cs) × (heard_of s cs ≡ heard_of t cs) × (M.stands (end_of s cs) ≡ M.stands (end_of t cs))
    -- the wake clause at each poll c of a run: end_of s before is the state that it gets. It alone supposes
    -- an accepted first state, and that no start is after an instant of the list.
    pub wakes :
        (s : M.State) (before : List M.Call) (c : M.Call) (after : List M.Call)
        → M.Ok s → Rises (before ++ (c ∷ after)) → EarlyFor s (before ++ (c ∷ after)) → M.kind_of c ≡ poll
        → accepted c (end_of s before) ≡ true → M.workers c ≡ false → M.held (end_of s before) ≡ true
        → Late (M.wake c (end_of s before)) (M.at_of c) → quiet c (end_of s before) ≡ true
    -- the second run is such a run too, so the wake clause holds of its polls
    pub again : (s : M.State) (cs : List M.Call) (d : LeftOut cs) → Rises cs → EarlyFor s cs → Rises (second d) × EarlyFor s (second d)

  -- what the demand follows from, call by call
  pub record Laws : Type 0 where
    pub kept : (c : M.Call) (s : M.State) → M.Ok s → M.Ok (next c s)
    pub ages : (c : M.Call) (s : M.State) (t : ℕ) → M.Ok s → M.at_of c ≤ t → M.Early s t → M.Early (next c s) t
    pub still : (c : M.Call) (s : M.State) → M.kind_of c ≡ poll → quiet c s ≡ true → (logged (M.step c s).said ≡ false) × (next c s ≡ s)
    pub speaks : (c : M.Call) (s : M.State) → M.kind_of c ≡ poll → quiet c s ≡ false → logged (M.step c s).said ≡ true
    pub back : (c : M.Call) (s : M.State) → accepted c s ≡ false → (next c s ≡ s) × ((M.step c s).bytes ≡ M.given c)
    pub one :
        (c : M.Call) (s t : M.State) → M.stands s ≡ M.stands t
        → (heard c s ≡ heard c t) × (M.stands (next c s) ≡ M.stands (next c t))
        × (quiet c s ≡ quiet c t) × (M.wake c s ≡ M.wake c t) × (M.held s ≡ M.held t)
    pub late :
        (c : M.Call) (s : M.State) → M.Ok s → M.Early s (M.at_of c) → M.kind_of c ≡ poll
        → accepted c s ≡ true → M.workers c ≡ false → M.held s ≡ true → Late (M.wake c s) (M.at_of c) → quiet c s ≡ true
