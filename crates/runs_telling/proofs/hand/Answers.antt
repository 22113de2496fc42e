use Rattle.std.proofs.Common.{[]}
use Rattle.text_lines.proofs.Puts.{begins_more}
use Rattle.runs_telling.proofs.hand.Goals as goal

pub loop-words-preserved : goal.loop-words-preserved
loop-words-preserved g c = begins_more [] _ c.args.out.now c.loop-words.out c.write_event.new.out c.loop-words.invariant c.write_event.ensures
