use Rattle.std.proofs.Common.{◌∙◌, ap, arith, length, refl}
use Rattle.start.specs.Start.{instants}
use Rattle.time.specs.Options.{when_of}
use Rattle.candidates.proofs.Laws.{held-most}
use Rattle.poll_listing.specs.Laws.{offer-then, drain-listed, parts-named, collected}
use Rattle.poll_listing.proofs.collect.Goals as goal

pub offer_waiting-requires : goal.offer_waiting-requires
offer_waiting-requires c =
    omega (arith, c.offer_next.ensures.count, ap length c.new-items.ensures, (held-most c.args.s.now.cands.len).1)

pub offer_cycle-requires : goal.offer_cycle-requires
offer_cycle-requires c =
    omega (arith, c.offer_waiting.ensures.count, c.offer_next.ensures.count, ap length c.new-items.ensures, (held-most c.args.s.now.cands.len).1)

pub offer_current-requires : goal.offer_current-requires
offer_current-requires c =
    omega (arith, c.offer_cycle.ensures.count, c.offer_waiting.ensures.count, c.offer_next.ensures.count, ap length c.new-items.ensures, (held-most c.args.s.now.cands.len).1)

pub returns : goal.returns
returns c =
    let s = c.args.s.now in
    let drain = rw (ap (λ w. instants (when_of w)) c.then_some-drain.ensures ∙ drain-listed s.drain.some s.drain.deadline, c.new-items.ensures) at c.offer_next.ensures in
    let whole = offer-then drain (offer-then c.offer_waiting.ensures (offer-then c.offer_cycle.ensures c.offer_current.ensures)) in
    let left = collected s (parts-named s _ _ _ refl refl refl) whole (omega (arith, (held-most s.cands.len).1)) in
    record { items = left.0; room = left.1 }
