use Rattle.std.proofs.Common.{◌≡◌}
use Rattle.text_records.proofs.record.name_record.Given as goal

abbrev pub invariant-loop : goal.invariant-loop
invariant-loop g l = l.named.reader.scan.line.now ≡ l.initial.named.reader.scan.line.now
