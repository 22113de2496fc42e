use Rattle.std.proofs.Common.{[], ◌∷◌, ◌++◌, rules}
use Rattle.text_lines.specs.Puts.{Puts}
use Rattle.text_lines.proofs.Puts.{puts_then}
use Rattle.text_events.specs.Told.{columns_text}
use Rattle.runs_telling.specs.Told.{head_text, line}
use Rattle.runs_telling.proofs.write_event.Goals as goal

pub returns : goal.returns
returns g c =
    let event = columns_text c.new.result ++ c.write_explained.ensures.more in
    let end : Puts (line ∷ []) c.write_explained.new.out c.bytes.new.self = search rules in
    let behind = puts_then event (line ∷ []) c.begin.new.out c.write_explained.new.out c.bytes.new.self c.write_explained.ensures.puts end in
    record {
      more = event ++ (line ∷ []);
      puts = puts_then (head_text c.args.head (32 ∷ [])) (event ++ (line ∷ [])) c.args.out.now c.begin.new.out c.bytes.new.self c.begin.ensures behind;
    }
