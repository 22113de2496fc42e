use Rattle.std.proofs.Common.{rules}
use mir.Facts.{to_z-of_z}
use Rattle.poll.proofs.Answer.{poll-back, poll-on}
use Rattle.poll.proofs.poll.Goals as goal

pub returns-in-Err-clause-poll : goal.returns-in-Err-clause-poll
returns-in-Err-clause-poll c =
    let e = simp (to_z-of_z c.ranges.spread) at c.in-Err.ensures in
    poll-back _ _ _ _ _ _ _ _ _ e c.sent_back.ensures _

pub returns-clause-poll : goal.returns-clause-poll
returns-clause-poll c =
    let e = simp (to_z-of_z c.ranges.spread) at c.in_default.ensures in
    let h = simp (to_z-of_z c.ranges.spread) at c.passes-t.ensures in
    poll-on _ _ _ _ _ _ _ _ _ _ _ _ _ _ _ _ c.new-told.ensures.words (search rules) (search rules) e c.new-told.ensures.empty h c.close.ensures
    (cc)
