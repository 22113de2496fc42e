use Rattle.std.proofs.Common.{rules, refl, arith}
use mir.Facts.{to_z-of_z}
use Rattle.notice_rows.specs.Rows.{path_of}
use Rattle.notice.proofs.Answer.{notice_back, notice-on}
use Rattle.notice.proofs.path.Goals as goal

pub returns-in-Err-clause-path : goal.returns-in-Err-clause-path
returns-in-Err-clause-path c =
    let e = simp (to_z-of_z c.ranges.spread) at c.in-Err.ensures in
    notice_back _ _ _ _ (path_of c.args.s c.args.reachable c.args.srtt) _ _ e c.sent_back.ensures _

pub returns-clause-path : goal.returns-clause-path
returns-clause-path c =
    let e = simp (to_z-of_z c.ranges.spread) at c.in_default.ensures in
    notice-on _ _ _ _ (path_of c.args.s c.args.reachable c.args.srtt) _ e 0 (omega arith) (omega arith) _ _ c.finish.ensures (simp c.path.ensures) _ _ (search rules) refl
