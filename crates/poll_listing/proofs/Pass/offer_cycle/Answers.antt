use Rattle.std.proofs.Common.{arith}
use Rattle.numbers.specs.Numbers.{item_resend}
use Rattle.wake.specs.Due.{ladder_instants, cycle_items}
use Rattle.poll_listing.specs.Laws.{offer-fewer, offer-nothing, one-named, both-named}
use Rattle.poll_listing.proofs.Pass.offer_cycle.Goals as goal

pub returns-in-Idle : goal.returns-in-Idle
unfolding cycle_items
returns-in-Idle c = rw (c.in-Idle.ensures.init, c.in-Idle.ensures.pend_i, c.in-Idle.ensures.pend_r) (offer-nothing 2)

pub returns-in-Init : goal.returns-in-Init
unfolding cycle_items ladder_instants
returns-in-Init c =
    rw c.in-Init.ensures.init
    (both-named item_resend (ladder_instants c.args.c.now.init.ladder) c.new-end.ensures (rw c.next_at-next.ensures.1 at c.offer_both.ensures))

pub returns-in-PendI : goal.returns-in-PendI
unfolding cycle_items
returns-in-PendI c = rw (c.in-PendI.ensures.init, c.in-PendI.ensures.pend_i) c.offer_pending.ensures

pub returns-in-PendR : goal.returns-in-PendR
unfolding cycle_items
returns-in-PendR c =
    rw (c.in-PendR.ensures.init, c.in-PendR.ensures.pend_i, c.in-PendR.ensures.pend_r)
    (offer-fewer 2 (omega arith) (one-named c.new-end-in-PendR.ensures c.offer.ensures))
