use native.Mathlib.Omega.{arith}
use borrow.Author.Tests.{lt-ltb, le-ltb}
use Rattle.ladder.specs.Schedule.{max_rungs}
use Rattle.ladder.specs.Fill.{put_of, pushed}
use Rattle.ladder.proofs.Laws.{mark_fits}
use Rattle.ladder.proofs.Made.put.Goals as goal

pub overflow_add-sched : goal.overflow_add-sched
overflow_add-sched c =
    record { fits = rw c.mark-bit.ensures (mark_fits c.args.self c.args.silent c.requires (omega arith)) }

pub returns-then-len-lt-MAX_LEN : goal.returns-then-len-lt-MAX_LEN
unfolding put_of pushed
returns-then-len-lt-MAX_LEN c = simp (c.mark-bit.ensures, lt-ltb c.args.self.sched.len max_rungs (omega arith))

pub returns-else-len-lt-MAX_LEN : goal.returns-else-len-lt-MAX_LEN
unfolding put_of
returns-else-len-lt-MAX_LEN c = simp (c.lose.ensures, le-ltb c.args.self.sched.len max_rungs (omega arith))
