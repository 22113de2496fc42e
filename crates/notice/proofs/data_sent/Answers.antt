use Rattle.std.proofs.Common.{rules, refl, arith}
use mir.Facts.{to_z-of_z}
use Rattle.notice_rows.specs.Rows.{data_sent_of}
use Rattle.notice.proofs.Answer.{notice_back, notice-on}
use Rattle.notice.proofs.data_sent.Goals as goal

pub returns-in-Err-clause-sent : goal.returns-in-Err-clause-sent
returns-in-Err-clause-sent c =
    let e = simp (to_z-of_z c.ranges.spread) at c.in-Err.ensures in
    notice_back _ _ _ _ (data_sent_of c.args.s) _ _ e c.sent_back.ensures _

pub returns-clause-sent : goal.returns-clause-sent
returns-clause-sent c =
    let e = simp (to_z-of_z c.ranges.spread) at c.in_default.ensures in
    notice-on _ _ _ _ (data_sent_of c.args.s) _ e 0 (omega arith) (omega arith) _ _ c.finish.ensures (simp c.data_sent.ensures) _ _ (search rules) refl
