use Rattle.std.proofs.Common.{rules, ◌++◌}
use Rattle.text_lines.specs.Puts.{Puts}
use Rattle.text_lines.proofs.Puts.{puts_then}
use Rattle.text_events.specs.Told.{columns_text, meaning_front}
use Rattle.text_events.proofs.event.Told.write_explained.Goals as goal

pub returns-then-explain : goal.returns-then-explain
returns-then-explain g c =
    let front = columns_text c.args.self in
    let more = meaning_front c.args.self ++ c.write_meaning.ensures.more in
    let columns : Puts front c.args.out.now c.spaced-2.new.self = search rules in
    record {
      more = more;
      puts = puts_then front more c.args.out.now c.spaced-2.new.self c.write_meaning.new.out columns c.write_meaning.ensures.puts;
      plain = search rules;
    }
