use Prim.Native.Nat.{◌≤◌, ◌-◌, ◌+◌, ◌*◌}
use mathlib.Core.Path.{◌≡◌}
use mathlib.Core.List.{map}
use Rattle.time.specs.Lists.{fold, range}
use Rattle.ladder.specs.Schedule.{max_rungs, keepalive}
use Rattle.ladder.specs.Laws.{Fresh}
use Rattle.ladder.specs.Fill.{put_of}
use Rattle.ladder.proofs.Made.fill.Given as goal

-- what is put from i on is all that is put; until the room is used up nothing is dropped
abbrev pub invariant-loop-i : goal.invariant-loop-i
invariant-loop-i l =
    (l.i ≤ l.n)
    × (Fresh l.made
    × ((l.made.dropped ≡ l.initial.made.dropped)
    × ((l.made.sched.len ≡ l.initial.made.sched.len + l.i)
    × (fold (put_of max_rungs) l.initial.made (map (λ k. keepalive (l.last + k * l.gap)) (range 1 l.all)) ≡ fold (put_of max_rungs) l.made (map (λ k. keepalive (l.last + k * l.gap)) (range (l.i + 1) (l.all - l.i)))))))

abbrev pub decreases-loop-i : goal.decreases-loop-i
decreases-loop-i l = l.n - l.i
