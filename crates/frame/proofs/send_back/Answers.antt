use Rattle.std.proofs.Common.{rules}
use mir.Facts.{to_z-of_z}
use Rattle.frame.proofs.Laws.{refused_first, refused_own}
use Rattle.frame.proofs.send_back.Goals as goal

pub returns-in_err-before_frame : goal.returns-in_err-before_frame
returns-in_err-before_frame c =
    let e = simp (to_z-of_z c.ranges.spread) at c.in_err-before_frame.ensures in
    refused_first _ _ _ _ _ _ c.in_err-before_frame.field-0.0 c.from_residual.result (search rules) e

pub returns : goal.returns
returns c =
    let e = simp (to_z-of_z c.ranges.spread) at c.in_ok-before_frame.ensures in
    refused_own _ _ _ _ _ _ _ e c.frame_back.ensures
