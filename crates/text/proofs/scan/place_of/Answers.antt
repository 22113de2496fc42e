use Rattle.std.proofs.Common.{rules, tests, bytes_eq, ◌∙◌}
use Rattle.std.proofs.lemmas.Iterator.{YieldsList-from_slice}
use Rattle.std.proofs.lemmas.Iterator.Search.{position_from_yields_List}
use Rattle.text.proofs.Laws.{position-map}
use Rattle.text.proofs.scan.place_of.Goals as goal

pub returns : goal.returns
returns c =
    let word = c.args.word.now in
    position_from_yields_List (λ w. bytes_eq w.now word) _ _ c.position.result c.position.ensures.ran (YieldsList-from_slice c.args.words.now cc) (λ x b q k. search (rules, tests))
    ∙ position-map (λ w. w.now) (λ w. bytes_eq w word) c.args.words.now
