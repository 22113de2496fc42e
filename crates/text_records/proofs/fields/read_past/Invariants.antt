use Rattle.std.proofs.Common.{◌≡◌}
use Rattle.text_records.proofs.fields.read_past.Given as goal

abbrev pub invariant-loop : goal.invariant-loop
invariant-loop l = l.reader.scan.line.now ≡ l.initial.reader.scan.line.now
