use Prim.Native.Nat.{◌<◌}
use mathlib.Core.Path.{refl, sym, ◌∙◌, ap}
use native.Mathlib.Omega.{arith}
use Rattle.events.specs.Log.{taken_of}
use Rattle.events.specs.Withdraw.{sifting}
use Rattle.events.proofs.Laws.{taken-min, sifted-moves, sifted_drops, sifting-next, sifting-end, sifting-all}
use Rattle.events.proofs.Log.withdraw.Goals.{then-stays, else-stays}
use Rattle.events.proofs.Log.withdraw.Goals as goal

pub loop-i-init : goal.loop-i-init
loop-i-init c = record { same_reference = refl; withdrawn = sifting-all _ _ _ _ _ refl }

pub loop-i-preserved : goal.loop-i-preserved
loop-i-preserved c =
    let h : c.loop-i.i < taken_of c.args.self.now.len = omega (arith, taken-min c.args.self.now.len) in
    elim c.if-stays.branch [
      | then-stays w ↦
          rw w.self-is
          (record {
            same_reference = w.push.ensures.same_reference ∙ c.loop-i.invariant.same_reference;
            withdrawn =
                ap (sifting _ _ _) (sifted-moves _ _ _ _ _ c.place-w.ensures _ _ (sym c.stays.ensures ∙ w.if-stays.true) w.push.ensures.stores)
                ∙ (sym (sifting-next _ _ _ _ h) ∙ c.loop-i.invariant.withdrawn);
          })
      | else-stays w ↦
          rw w.self-is
          (record {
            same_reference = c.loop-i.invariant.same_reference;
            withdrawn =
                ap (sifting _ _ _) (sifted_drops _ _ _ _ _ c.place-w.ensures (sym c.stays.ensures ∙ w.if-stays.false))
                ∙ (sym (sifting-next _ _ _ _ h) ∙ c.loop-i.invariant.withdrawn);
          })
    ]

pub returns-clause-withdrawn : goal.returns-clause-withdrawn
returns-clause-withdrawn c = sym (sifting-end _ _ _ _ (omega (arith, taken-min c.args.self.now.len))) ∙ c.loop-i.invariant.withdrawn
