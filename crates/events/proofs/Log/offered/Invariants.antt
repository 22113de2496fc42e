use mathlib.Core.Path.{◌≡◌}
use Rattle.events.specs.Log.{at, taken_of}
use Rattle.events.specs.Queries.{words_offer, any_from, offered_in}
use Rattle.events.proofs.Log.offered.Given as goal

abbrev pub invariant-loop-i : goal.invariant-loop-i
invariant-loop-i l =
    any_from (words_offer l.tag) l.self.words.now (taken_of l.self.len) l.i ≡ offered_in (at l.self.len l.self.words.now) l.tag
