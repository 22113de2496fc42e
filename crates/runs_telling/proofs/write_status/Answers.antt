use Rattle.std.proofs.Common.{[], ◌∷◌, ◌++◌, sym, rules}
use Rattle.time.specs.Options.{option_of}
use Rattle.text_lines.specs.Puts.{Puts, optional_text}
use Rattle.text_lines.proofs.Puts.{puts_then, puts_optional}
use Rattle.runs_telling.specs.Told.{Status, head_text, status_text, status_words, cycle_word, wake_word, quiet_word, none_word, line}
use Rattle.runs_telling.proofs.write_status.Goals as goal

pub returns : goal.returns
returns g c =
    let o = c.args.out.now in
    let r = c.args.r in
    let name = c.write_name.ensures.entry.name.now in
    let more = c.explain_cycle.ensures.more in
    let head = head_text c.args.head status_words in
    let tag = optional_text (option_of r.tag) none_word in
    let wake = optional_text (option_of r.wake) none_word in
    let quiet = optional_text (option_of r.quiet) none_word in
    let put_tag : Puts tag c.begin.new.out c.spaced_or.new.self = rw (sym c.get.ensures) (puts_optional c.get.result none_word c.begin.new.out c.spaced_or.new.self c.spaced_or.ensures.same_reference c.spaced_or.ensures.buffer c.spaced_or.ensures.at) in
    let put_wake : Puts wake c.bytes-2.new.self c.spaced_or-2.new.self = rw (sym c.get-2.ensures) (puts_optional c.get-2.result none_word c.bytes-2.new.self c.spaced_or-2.new.self c.spaced_or-2.ensures.same_reference c.spaced_or-2.ensures.buffer c.spaced_or-2.ensures.at) in
    let put_quiet : Puts quiet c.bytes-3.new.self c.spaced_or-3.new.self = rw (sym c.get-3.ensures) (puts_optional c.get-3.result none_word c.bytes-3.new.self c.spaced_or-3.new.self c.spaced_or-3.ensures.same_reference c.spaced_or-3.ensures.buffer c.spaced_or-3.ensures.at) in
    let put_cycle : Puts (cycle_word ∷ []) c.spaced_or.new.self c.bytes.new.self = search rules in
    let put_wake_word : Puts (wake_word ∷ []) c.write_name.new.out c.bytes-2.new.self = search rules in
    let put_quiet_word : Puts (quiet_word ∷ []) c.spaced_or-2.new.self c.bytes-3.new.self = search rules in
    let end : Puts (line ∷ []) c.explain_cycle.new.out c.bytes-4.new.self = search rules in
    let named = puts_then (cycle_word ∷ []) (name ∷ wake_word ∷ []) c.spaced_or.new.self c.bytes.new.self c.bytes-2.new.self put_cycle (puts_then (name ∷ []) (wake_word ∷ []) c.bytes.new.self c.write_name.new.out c.bytes-2.new.self c.write_name.ensures.puts put_wake_word) in
    let quieted = puts_then (quiet_word ∷ []) quiet c.spaced_or-2.new.self c.bytes-3.new.self c.spaced_or-3.new.self put_quiet_word put_quiet in
    let waked = puts_then wake (quiet_word ∷ quiet) c.bytes-2.new.self c.spaced_or-2.new.self c.spaced_or-3.new.self put_wake quieted in
    let cycled = puts_then (cycle_word ∷ name ∷ wake_word ∷ []) (wake ++ (quiet_word ∷ quiet)) c.spaced_or.new.self c.bytes-2.new.self c.spaced_or-3.new.self named waked in
    let tagged = puts_then head tag o c.begin.new.out c.spaced_or.new.self c.begin.ensures put_tag in
    let all = puts_then (head ++ tag) (cycle_word ∷ name ∷ wake_word ∷ wake ++ (quiet_word ∷ quiet)) o c.spaced_or.new.self c.spaced_or-3.new.self tagged cycled in
    let explained = puts_then (status_text c.args.head r name) more o c.spaced_or-3.new.self c.explain_cycle.new.out all c.explain_cycle.ensures.puts in
    let shown : Status c.args.head r o c.bytes-4.new.self = record {
      entry = c.write_name.ensures.entry;
      more = more;
      enters = rw (sym c.from.ensures) c.write_name.ensures.enters;
      puts = puts_then (status_text c.args.head r name ++ more) (line ∷ []) o c.explain_cycle.new.out c.bytes-4.new.self explained end;
      plain = c.explain_cycle.ensures.plain;
    } in
    record { accepted = λ _. shown; refused = search rules }
