use Rattle.std.proofs.Common.{[], ◌∷◌, ◌++◌, rules}
use Rattle.text_lines.specs.Puts.{Puts}
use Rattle.text_lines.proofs.Puts.{puts_then}
use Rattle.text_events.specs.Told.{values_text}
use Rattle.text_events.proofs.event.Told.write.Goals as goal

pub returns : goal.returns
returns g c =
    let front = (61 ∷ 32 ∷ 101 ∷ 32 ∷ []) ∷ c.args.self.event.entry.name.now ∷ [] in
    let values = values_text c.args.self.event.fields.now c.args.self.words.now in
    let named : Puts front c.args.out.now c.bytes-2.new.self = search rules in
    let end : Puts ((10 ∷ []) ∷ []) c.write_values.new.out c.bytes-3.new.self = search rules in
    let behind = puts_then values ((10 ∷ []) ∷ []) c.bytes-2.new.self c.write_values.new.out c.bytes-3.new.self c.write_values.ensures end in
    puts_then front (values ++ ((10 ∷ []) ∷ [])) c.args.out.now c.bytes-2.new.self c.bytes-3.new.self named behind
