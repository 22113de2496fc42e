use Rattle.std.proofs.Common.{◌≡◌}
use Rattle.text_words.proofs.Call.read.Given as goal

abbrev pub invariant-loop-call : goal.invariant-loop-call
invariant-loop-call l = (l.scan.line ≡ l.initial.scan.line) × (l.scan.at ≡ l.initial.scan.at)
