use Rattle.std.proofs.Common.{drop}
use Rattle.text_lines.specs.Puts.{Leaves}
use Rattle.text_events.specs.Told.{values_text}
use Rattle.text_events.proofs.event.Told.write_values.Given as goal

abbrev pub invariant-loop-field : goal.invariant-loop-field
invariant-loop-field g l = Leaves (values_text (drop l.field-index l.field-items) l.words) (values_text l.fn.self.event.fields.now l.fn.self.words.now) l.fn.out l.out
