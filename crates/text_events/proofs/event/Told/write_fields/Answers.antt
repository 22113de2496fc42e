use Rattle.std.proofs.Common.{[]}
use Rattle.text_lines.proofs.Puts.{begins_more}
use Rattle.text_events.proofs.event.Told.write_fields.Goals as goal

pub loop-field-preserved : goal.loop-field-preserved
loop-field-preserved g c = begins_more [] _ c.args.out.now c.loop-field.out c.write_field.new.out c.loop-field.invariant c.write_field.ensures
