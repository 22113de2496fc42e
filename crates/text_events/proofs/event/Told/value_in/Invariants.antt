use Rattle.std.proofs.Common.{◌≡◌, drop}
use Rattle.text_events.specs.Told.{column_of}
use Rattle.text_events.proofs.event.Told.value_in.Given as goal

abbrev pub invariant-loop-field : goal.invariant-loop-field
invariant-loop-field l = column_of l.fn.column (drop l.field-index l.field-items) l.words ≡ column_of l.fn.column l.fn.self.event.fields.now l.fn.self.words.now
