use Rattle.std.proofs.Common.{rules, tests, bytes_eq, ap, ◌∙◌}
use Rattle.std.specs.Option.{option_map}
use Rattle.std.proofs.lemmas.Iterator.{YieldsList-from_slice}
use Rattle.std.proofs.lemmas.Iterator.Search.{find_from_yields_List}
use Rattle.text.proofs.Laws.{find-map, value-of}
use Rattle.text.proofs.scan.entry_of.Goals as goal

pub returns : goal.returns
returns g c =
    let word = c.args.word.now in
    let found = find_from_yields_List (λ row. bytes_eq row.0.now word) _ _ c.find.result c.find.ensures.ran (YieldsList-from_slice c.args.table.now cc) (λ x b q k. search (rules, tests)) in
    value-of c.find.result c.map.result (search (rules, tests))
    ∙ ap (option_map (λ row. row.1)) found
    ∙ find-map (λ row. (row.0.now, row.1)) (λ row. bytes_eq row.0 word) c.args.table.now
