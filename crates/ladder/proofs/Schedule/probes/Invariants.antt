use Rattle.std.proofs.Common.{◌≡◌}
use lib.ListN.{drop}
use Rattle.time.specs.Lists.{fold}
use Rattle.ladder.specs.Schedule.{max_rungs, filled}
use Rattle.ladder.specs.Laws.{Fresh}
use Rattle.ladder.specs.Fill.{put_of}
use Rattle.ladder.proofs.Schedule.probes.Given as goal

-- what is put from this send on is all that is put
abbrev pub invariant-loop-at : goal.invariant-loop-at
invariant-loop-at l =
    Fresh l.made
    × (fold (put_of max_rungs) l.initial.made (filled l.g l.end 0 l.at-items) ≡ fold (put_of max_rungs) l.made (filled l.g l.end l.last (drop l.at-index l.at-items)))
