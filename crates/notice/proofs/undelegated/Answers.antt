use Rattle.std.proofs.Common.{rules, arith}
use mir.Facts.{to_z-of_z}
use Rattle.notice_rows.specs.Rows.{undelegated_of}
use Rattle.notice_rows.proofs.Most.{handed-most}
use Rattle.notice.proofs.Answer.{notice_back, notice-on}
use Rattle.notice.proofs.undelegated.Goals as goal

pub returns-in-Err-clause-undelegated : goal.returns-in-Err-clause-undelegated
returns-in-Err-clause-undelegated c =
    let e = simp (to_z-of_z c.ranges.spread) at c.in-Err.ensures in
    notice_back _ _ _ _ (undelegated_of c.args.s c.args.tag) _ _ e c.sent_back.ensures _

pub returns-clause-undelegated : goal.returns-clause-undelegated
returns-clause-undelegated c =
    let e = simp (to_z-of_z c.ranges.spread) at c.in_default.ensures in
    notice-on _ _ _ _ (undelegated_of c.args.s c.args.tag) _ e 1 (omega arith) (handed-most _ _ _ _ _) _ _ c.finish.ensures c.undelegated-left.ensures.0 _ _ (search rules) (search rules)
