use Rattle.std.proofs.Common.{◌∙◌, arith}
use Rattle.candidates.proofs.Laws.{length-others}
use Rattle.candidates.proofs.Places.{shifted}
use Rattle.candidates.proofs.drop_at.Goals as goal

pub returns : goal.returns
returns c =
    (length-others c.args.i c.args.n c.requires.0, c.copy_within.ensures.after ∙ shifted c.args.i c.args.n c.args.a.now c.requires.0 (omega (arith, c.requires.1)))
