use Rattle.std.proofs.Common.{rules, ◌∙◌, ap}
use mir.Facts.{to_z-of_z}
use Rattle.answer.specs.Answers.{back_with}
use Rattle.answer.proofs.Answers.{answers_refused}
use Rattle.call_open.specs.Open.{open_of, fresh_state}
use Rattle.call_open.proofs.Answer.{open-on}
use Rattle.call_open.proofs.open.Goals as goal

pub returns-in-Err-clause-open : goal.returns-in-Err-clause-open
unfolding open_of
returns-in-Err-clause-open c =
    let e = simp (to_z-of_z c.ranges.spread) at c.in-Err.ensures in
    answers_refused _ _ _ _ _ e (c.sent_back.ensures ∙ ap (back_with _) c.blank.ensures) _

pub returns-clause-open : goal.returns-clause-open
unfolding fresh_state
returns-clause-open c =
    let e = simp (to_z-of_z c.ranges.spread) at c.in_default.ensures in
    open-on _ _ _ _ _ _ _ _ e _ _ _ c.finish.ensures (simp (c.alone-s.ensures, c.new_memory.ensures, c.first_epoch-ep.ensures, to_z-of_z c.ranges.spread)) _ _ (search rules) (rw (← c.first_epoch-ep.ensures) (search rules))
