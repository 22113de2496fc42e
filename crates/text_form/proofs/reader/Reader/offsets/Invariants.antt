use Rattle.std.proofs.Common.{◌≡◌}
use Rattle.text_form.proofs.reader.Reader.offsets.Given as goal

abbrev pub invariant-loop-i : goal.invariant-loop-i
invariant-loop-i l = l.self.scan.line ≡ l.initial.self.scan.line
