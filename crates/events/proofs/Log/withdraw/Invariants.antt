use mathlib.Core.Path.{◌≡◌}
use Rattle.time.specs.Options.{when_of}
use Rattle.events.specs.Log.{at, taken_of}
use Rattle.events.specs.Withdraw.{words_stay, sifting, withdrawn}
use Rattle.events.proofs.Log.withdraw.Given as goal

abbrev pub invariant-loop-i : goal.invariant-loop-i
invariant-loop-i l =
    record {
      same_reference : l.self.words.ghost_name ≡ l.fn.self.words.ghost_name;
      withdrawn : sifting (words_stay (when_of l.cur) (when_of l.pend)) (taken_of l.fn.self.len) l.i (at l.self.len l.self.words.now) ≡ withdrawn (when_of l.cur) (when_of l.pend) (at l.fn.self.len l.fn.self.words.now);
    }
