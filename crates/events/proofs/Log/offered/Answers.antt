use Prim.Native.Nat.{◌<◌}
use mathlib.Core.Path.{refl, sym, ◌∙◌}
use native.Mathlib.Omega.{arith}
use Rattle.events.specs.Log.{taken_of}
use Rattle.events.proofs.Laws.{taken-min, any_found, any_next, any-end, any-all}
use Rattle.events.proofs.Log.offered.Goals as goal

pub loop-i-init : goal.loop-i-init
loop-i-init c = any-all _ _ _ _ refl

pub returns-then-offers : goal.returns-then-offers
returns-then-offers c =
    let h : c.loop-i.i < taken_of c.args.self.now.len = omega (arith, taken-min c.args.self.now.len) in
    sym (any_found _ _ _ _ _ c.place.ensures h (sym c.offers.ensures ∙ c.if-offers.true)) ∙ c.loop-i.invariant

pub loop-i-preserved : goal.loop-i-preserved
loop-i-preserved c =
    let h : c.loop-i.i < taken_of c.args.self.now.len = omega (arith, taken-min c.args.self.now.len) in
    sym (any_next _ _ _ _ _ c.place.ensures h (sym c.offers.ensures ∙ c.if-offers.false)) ∙ c.loop-i.invariant

pub returns : goal.returns
returns c = sym (any-end _ _ _ _ (omega (arith, taken-min c.args.self.now.len))) ∙ c.loop-i.invariant
