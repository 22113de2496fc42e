use Rattle.std.proofs.Common.{[], ◌∷◌, rules}
use Rattle.text_lines.specs.Puts.{Puts}
use Rattle.text_lines.proofs.Puts.{puts_then}
use Rattle.text_events.specs.Named.{case_text}
use Rattle.text_events.proofs.event.write_field.Goals as goal

-- the name of a case behind the space that stands before it
pub returns-in-Case-Some : goal.returns-in-Case-Some
returns-in-Case-Some g c =
    let named = c.args.field.name.now in
    let e = c.write_case.ensures.entry in
    let front : Puts ((32 ∷ []) ∷ named ∷ []) c.args.out.now c.bytes-2.new.self = search rules in
    let all = puts_then ((32 ∷ []) ∷ named ∷ []) (case_text e.name.now e.words.now) c.args.out.now c.bytes-2.new.self c.write_case.new.out front c.write_case.ensures.puts in
    rw (c.in-Case-Some.is-0, c.in-Case-Some.is-1) (record { more = e.name.now ∷ (32 ∷ 40 ∷ []) ∷ e.words.now ∷ (41 ∷ []) ∷ []; puts = all })
