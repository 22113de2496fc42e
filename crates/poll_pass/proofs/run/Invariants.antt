use Rattle.std.specs.Prelude.{[], map, take}
use Rattle.items.specs.Arrays.{item_of}
use Rattle.poll_pass.specs.Pass.{work_of, pass_of, Runs}
use Rattle.poll_pass.proofs.run.Given as goal

-- The items so far are done.
abbrev pub invariant-loop-item : goal.invariant-loop-item
invariant-loop-item l =
    Runs (pass_of l.g l.spread (map item_of (take l.item-index l.item-items)) (work_of l.initial.s [] l.initial.ended)) l.initial.log l.s l.ended l.log
