use Rattle.std.proofs.Common.{[]}
use Rattle.text_lines.specs.Puts.{Begins}
use Rattle.text_events.proofs.event.Told.write_fields.Given as goal

abbrev pub invariant-loop-field : goal.invariant-loop-field
invariant-loop-field g l = Begins [] l.fn.out l.out
