use Rattle.std.proofs.Common.{rules, arith}
use mir.Facts.{to_z-of_z}
use Rattle.frame_hear.specs.Hear.{given_of}
use Rattle.notice_rows.specs.Rows.{worker_of}
use Rattle.notice_rows.proofs.Most.{worker-most}
use Rattle.notice.proofs.Answer.{notice_back, notice-on}
use Rattle.notice.proofs.worker.Goals as goal

pub returns-in-Err-clause-worker : goal.returns-in-Err-clause-worker
returns-in-Err-clause-worker c =
    let e = simp (to_z-of_z c.ranges.spread) at c.in-Err.ensures in
    notice_back _ _ _ _ (worker_of c.args.s (given_of c.args.cfg c.args.p c.args.time c.args.workers) c.args.tag c.args.k c.args.counter) _ _ e c.sent_back.ensures _

pub returns-clause-worker : goal.returns-clause-worker
returns-clause-worker c =
    let e = simp (to_z-of_z c.ranges.spread) at c.in_default.ensures in
    notice-on _ _ _ _ (worker_of c.args.s (given_of c.args.cfg c.args.p c.args.time c.args.workers) c.args.tag c.args.k c.args.counter) _ e 6 (omega arith) (worker-most _ _ _ _ _) _ _ c.finish.ensures (simp (c.worker-left.ensures.0, c.given-g.ensures)) _ _ (search rules) (simp (← c.given-g.ensures) (search rules))
