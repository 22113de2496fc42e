use Rattle.std.proofs.Common.{sym, ◌∙◌}
use Rattle.candidates.proofs.Slices.{pair_here, pair_on, pair_none}
use Rattle.candidates.proofs.pairs.Goals as goal

pub returns-then-contains : goal.returns-then-contains
returns-then-contains c = sym (c.loop-x.invariant ∙ pair_here _ _ _ c.in-Some.ensures.cases.0 (sym c.contains.ensures.value ∙ c.if-contains.true))

pub loop-x-preserved : goal.loop-x-preserved
loop-x-preserved c = c.loop-x.invariant ∙ pair_on _ _ _ c.in-Some.ensures.cases.0 (sym c.contains.ensures.value ∙ c.if-contains.false)

pub returns : goal.returns
returns c = sym (c.loop-x.invariant ∙ pair_none _ c.in_default.ensures.cases)
