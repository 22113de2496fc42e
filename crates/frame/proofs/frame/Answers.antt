use Rattle.std.proofs.Common.{rules, refl}
use mir.Facts.{to_z-of_z}
use Rattle.refusal.proofs.Parts.{numbered_one}
use Rattle.frame.proofs.Answer.{frame_back, frame_on}
use Rattle.frame.proofs.frame.Goals as goal

pub returns-in-Err : goal.returns-in-Err
returns-in-Err c =
    let e = simp (to_z-of_z c.ranges.spread) at c.in-Err.ensures in
    let q = frame_back c.args.s c.args.cfg c.args.profile c.args.time c.args.workers c.args.spread c.args.p c.args.body c.args.source.now c.args.target.now _ e _ (numbered_one _) c.sent_back.ensures c.args.log.now in
    record { frame = q.0; target = q.1.0; exact = q.1.1 }

pub returns : goal.returns
returns c =
    let e = simp (to_z-of_z c.ranges.spread) at c.in_default.ensures in
    let told = simp (c.given-g.ensures, to_z-of_z c.ranges.spread) at c.frame_accepted-left.ensures.1.1 in
    let z = to_z-of_z c.ranges.spread in
    let q = frame_on c.args.s c.args.cfg c.args.profile c.args.time c.args.workers c.args.spread c.args.p c.args.body c.args.source.now c.args.target.now _ e _ refl _ _ c.finish.ensures (simp (c.frame_accepted-left.ensures.0, c.given-g.ensures, z)) _ _ (search rules) (search (rules, told.appends)) _ (simp (c.frame_accepted-left.ensures.1.0, c.given-g.ensures, z)) in
    record { frame = q.0; target = q.1.0; exact = q.1.1 }
