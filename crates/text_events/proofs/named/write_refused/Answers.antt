use Rattle.std.proofs.Common.{rules}
use Rattle.std.proofs.lemmas.Bool.{ne_eqb}
use Rattle.text_events.proofs.named.write_refused.Goals as goal

pub returns-then-place-ne0 : goal.returns-then-place-ne0
returns-then-place-ne0 g c =
    record {
      refusal = c.entry_of.result;
      check = c.entry_of-then-place-ne0.result.words.now;
      enters = c.entry_of.ensures;
      checks = λ _ h. c.entry_of-then-place-ne0.ensures.words h;
      puts = rw (ne_eqb c.args.place 0 c.if-place-ne0.true) (search rules);
    }
