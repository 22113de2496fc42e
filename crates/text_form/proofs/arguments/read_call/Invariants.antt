use Rattle.std.proofs.Common.{◌≡◌, drop, length}
use Rattle.text_words.specs.Words.{places_of}
use Rattle.text_form.proofs.arguments.read_call.Given as goal

abbrev pub invariant-loop : goal.invariant-loop
invariant-loop l =
    (drop (places_of l.fn.call) l.row ≡ drop (places_of l.fn.call) l.initial.row)
    × (length l.row ≡ length l.initial.row)
    × (l.named.reader.scan.line ≡ l.initial.named.reader.scan.line)
