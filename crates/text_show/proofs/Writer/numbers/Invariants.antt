use Rattle.std.proofs.Common.{◌≡◌, drop}
use Rattle.text_lines.specs.Puts.{Leaves}
use Rattle.text_show.specs.Shown.{numbers_text}
use Rattle.text_show.proofs.Writer.numbers.Given as goal

abbrev pub invariant-loop-n : goal.invariant-loop-n
invariant-loop-n g l = (Leaves (numbers_text (drop l.n-index l.fn.ns)) (numbers_text l.fn.ns) l.fn.self.out.now l.self.out.now) × (l.self.out.ghost_name ≡ l.fn.self.out.ghost_name)
