use native.Mathlib.Omega.{arith}
use Prim.Native.Nat.{◌-◌, ◌+◌}
use mathlib.Core.Path.{◌≡◌, sym, ◌∙◌, ap}
use mathlib.Core.List.{map}
use native.Mathlib.Nat.{sub-zero}
use Rattle.time.specs.Options.{when_of}
use Rattle.time.specs.Lists.{fold, range, range-next, range-end}
use Rattle.time.proofs.Std.{max_most}
use Rattle.ladder.specs.Schedule.{max_rungs, doubled}
use Rattle.ladder.specs.Laws.{Fresh}
use Rattle.ladder.proofs.Laws.{fresh-offered, doubling_all}
use Rattle.ladder.specs.Fill.{offered, none_yet}
use Rattle.ladder.proofs.Schedule.doubling.Goals as goal

pub loop-i-init : goal.loop-i-init
unfolding Fresh
loop-i-init c = (omega arith, simp sub-zero)

pub doubled-requires : goal.doubled-requires
doubled-requires c = omega (arith, c.max-f.ensures)

pub offer-made-requires : goal.offer-made-requires
offer-made-requires c = c.loop-i.invariant.0

pub loop-i-preserved : goal.loop-i-preserved
unfolding fold
loop-i-preserved c =
    let end = when_of c.args.end in
    let made : c.offer-made.result ≡ offered max_rungs end c.loop-i.made (doubled c.max-f.result c.loop-i.i) = c.offer-made.ensures ∙ ap (offered max_rungs end c.loop-i.made) c.doubled.ensures in (
      rw made (fresh-offered max_rungs end c.loop-i.made (doubled c.max-f.result c.loop-i.i) c.loop-i.invariant.0),
      c.loop-i.invariant.1
          ∙ (ap (λ l. fold (offered max_rungs end) c.loop-i.made (map (doubled c.max-f.result) l)) (range-next c.loop-i.i c.args.count c.loop-i-test.true)
          ∙ ap (λ m. fold (offered max_rungs end) m (map (doubled c.max-f.result) (range (c.loop-i.i + 1) (c.args.count - (c.loop-i.i + 1))))) (sym made)),
    )

pub returns : goal.returns
unfolding fold
returns c =
    let end = when_of c.args.end in
    sym
    (sym (doubling_all c.args.first c.args.count end)
    ∙ (ap (λ k. fold (offered max_rungs end) (none_yet 0) (map (doubled k) (range 0 c.args.count))) (sym (c.max-f.ensures ∙ max_most c.args.first 1))
    ∙ (c.loop-i.invariant.1
    ∙ ap (λ l. fold (offered max_rungs end) c.loop-i.made (map (doubled c.max-f.result) l)) (range-end c.loop-i.i c.args.count c.loop-i-test.false))))
