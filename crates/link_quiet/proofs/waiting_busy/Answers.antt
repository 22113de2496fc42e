use Rattle.std.proofs.Common.{◌≤◌, ◌<◌, arith, lt-ltb, le-ltb}
use Rattle.candidates.specs.Repeats.{repeated}
use Rattle.link_quiet.specs.Busy.{waiting_busy}
use Rattle.link_quiet.specs.Due.{nothing-due, none-held}
use Rattle.link_quiet.proofs.waiting_busy.Goals as goal

pub returns-in-0 : goal.returns-in-0
unfolding waiting_busy repeated
returns-in-0 c =
    let v = c.args.s.now.cands in
    simp (le-ltb 32 v.len (omega (arith, c.in-0.is)), none-held v.len v.deadline c.in-0.is, none-held v.len v.seq c.in-0.is, nothing-due)

pub returns-in-1-to-32 : goal.returns-in-1-to-32
unfolding waiting_busy
returns-in-1-to-32 c =
    let h : c.args.s.now.cands.len ≤ 32 = omega arith in
    simp (le-ltb _ _ h, ← c.both.ensures)

pub returns-in_default : goal.returns-in_default
unfolding waiting_busy
returns-in_default c =
    let h : 32 < c.args.s.now.cands.len = omega arith in
    simp (lt-ltb _ _ h)
