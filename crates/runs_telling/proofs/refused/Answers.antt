use Rattle.std.proofs.Common.{[], ◌∷◌, ◌++◌, rules}
use Rattle.text_lines.specs.Puts.{Puts}
use Rattle.text_lines.proofs.Puts.{puts_then}
use Rattle.runs_telling.specs.Told.{refused_text, line}
use Rattle.runs_telling.proofs.refused.Goals as goal

pub returns : goal.returns
returns g c =
    let o = c.args.out.now in
    let front = refused_text c.args.head c.args.number c.args.place in
    let more = c.explain_refused.ensures.more in
    let told : Puts front o c.spaced-2.new.self = search rules in
    let end : Puts (line ∷ []) c.explain_refused.new.out c.bytes.new.self = search rules in
    let explained = puts_then front more o c.spaced-2.new.self c.explain_refused.new.out told c.explain_refused.ensures.puts in
    record {
      more = more;
      puts = puts_then (front ++ more) (line ∷ []) o c.explain_refused.new.out c.bytes.new.self explained end;
      plain = c.explain_refused.ensures.plain;
    }
