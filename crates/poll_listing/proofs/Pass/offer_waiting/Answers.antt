use Rattle.std.proofs.Common.{◌≡◌, refl, ◌∙◌, arith}
use Rattle.candidates.specs.Held.{held_of}
use Rattle.poll_listing.specs.Laws.{held-least, one-named, waiting_turn, waiting-done}
use Rattle.poll_listing.proofs.Pass.offer_waiting.Goals as goal

pub loop-i-init : goal.loop-i-init
loop-i-init c = (omega arith, refl)

pub offer-requires : goal.offer-requires
offer-requires c =
    let e : c.min-i-end.result ≡ held_of c.args.c.now.len = c.min-i-end.ensures ∙ held-least c.args.c.now.len in
    omega (arith, c.loop-i.invariant.0, c.loop-i-test.true, c.requires)

pub loop-i-preserved : goal.loop-i-preserved
loop-i-preserved c =
    let e : c.min-i-end.result ≡ held_of c.args.c.now.len = c.min-i-end.ensures ∙ held-least c.args.c.now.len in
    (omega (arith, c.offer.ensures.count, c.loop-i.invariant.0), waiting_turn _ _ _ _ _ _ _ _ c.loop-i.invariant.1 (omega (arith, c.loop-i-test.true, e)) (one-named c.new.ensures c.offer.ensures))

pub returns : goal.returns
returns c =
    let e : c.min-i-end.result ≡ held_of c.args.c.now.len = c.min-i-end.ensures ∙ held-least c.args.c.now.len in
    record {
      items = waiting-done _ _ _ _ _ _ _ _ c.loop-i.invariant.1 (omega (arith, c.loop-i-test.false, e));
      count = omega (arith, c.loop-i.invariant.0, c.loop-i.auto.i-end, e);
    }
