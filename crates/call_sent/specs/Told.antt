-- A told sent count: "The current epoch's sent count is told by a call of its own, which changes
-- nothing while there is no current epoch."
use Rattle.std.specs.Prelude.{ℕ, Bool, ◌&&◌, List, [], ◌∷◌, ◌++◌, ltb}
use Rattle.time.specs.Pick.{pick}
use Rattle.numbers.specs.Numbers.{refused_sent}
use Rattle.epoch.specs.declared.Epoch.{Epoch}
use Rattle.epoch.specs.Put.{put_ep}
use Rattle.state.specs.declared.State.{State}
use Rattle.state.specs.Parts.{put_cur}
use Rattle.refusal.specs.Refusal.{Test, numbered, first, by, state_tests}
use Rattle.answer.specs.Outcome.{Outcome, done, outcome_by}

abbrev pub put_sent : Epoch → ℕ → Epoch
put_sent e n =
    record {
      tag = e.tag;
      session = e.session;
      sent = n;
      ids = e.ids;
      k = e.k;
      responder = e.responder;
      base = e.base;
      started = e.started;
      route = e.route;
      ext = e.ext;
      delegated = e.delegated;
      floor = e.floor;
      heard = e.heard;
      moved = e.moved;
      assumed = e.assumed;
      fin = e.fin;
      elicit = e.elicit;
      prompted = e.prompted;
    }

-- 11. "A told sent count is below the held one." Without a current epoch none is held.
unfoldable pub below_held : Bool → ℕ → ℕ → Bool
below_held some sent count = some && ltb count sent

-- 3 to 6, then 11
unfoldable pub told_tests : State → ℕ → List Test
told_tests s count = state_tests s ++ by refused_sent (below_held s.cur.some s.cur.ep.sent count) ∷ []

unfoldable pub told_number : State → ℕ → ℕ
told_number s count = (first (told_tests s count)).number

-- the current epoch's sent count is the one told
unfoldable pub told_state : State → ℕ → State
told_state s count = pick s.cur.some (put_cur s (put_ep s.cur (put_sent s.cur.ep count))) s

-- it has no event
unfoldable pub told_of : State → ℕ → Outcome
told_of s count = outcome_by (numbered (told_number s count)) s (done (told_state s count) [])
