use Rattle.std.proofs.Common.{◌∙◌}
use Rattle.text_lines.proofs.Laws.{spelled}
use Rattle.text_lines.proofs.output.digits.Goals as goal

pub returns : goal.returns
returns c = c.decimal-k.ensures.digits ∙ spelled c.args.n c.decimal-k.result c.ranges.n.fits c.decimal-k.ensures.len
