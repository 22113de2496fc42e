use Rattle.std.proofs.Common.{sym, [], ◌∷◌, Some}
use Rattle.wake.specs.Due.{ladder_instants, cycle_with}
use Rattle.wake.proofs.Earliest.{earliest_one, earliest_nil}
use Rattle.wake.proofs.Parts.{least_next, sooner_named}
use Rattle.wake.proofs.cycle_next.Goals as goal

pub returns-in-Init : goal.returns-in-Init
unfolding cycle_with
returns-in-Init c = λ l e.
    rw c.in-Init.ensures.init
    (sooner_named _ (Some c.args.c.now.init.deadline) _ (ladder_instants c.args.c.now.init.ladder) (c.args.c.now.init.deadline ∷ []) c.sooner.ensures (least_next _ _ c.next_at.ensures.1) (sym (earliest_one _)))

pub returns-in-PendI : goal.returns-in-PendI
unfolding cycle_with
returns-in-PendI c = λ l e. rw (c.in-PendI.ensures.init, c.in-PendI.ensures.pend_i) e

pub returns-in-PendR : goal.returns-in-PendR
unfolding cycle_with
returns-in-PendR c = λ l e.
    rw (c.in-PendR.ensures.init, c.in-PendR.ensures.pend_i, c.in-PendR.ensures.pend_r) (sym (earliest_one _))

pub returns-in-Idle : goal.returns-in-Idle
unfolding cycle_with
returns-in-Idle c = λ l e.
    rw (c.in-Idle.ensures.init, c.in-Idle.ensures.pend_i, c.in-Idle.ensures.pend_r) (sym earliest_nil)
