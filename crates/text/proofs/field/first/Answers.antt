use Rattle.std.proofs.Common.{◌≡◌, ◌∙◌, ◌==◌, ap, length, rules, tests}
use Rattle.std.specs.List.{position}
use Rattle.std.specs.Option.{unwrap_or}
use Rattle.std.proofs.lemmas.Iterator.{YieldsList-from_slice}
use Rattle.std.proofs.lemmas.Iterator.Search.{position_from_yields_List}
use Rattle.text.proofs.Laws.{first_or_end}
use Rattle.text.proofs.field.first.Goals as goal

pub returns-clause-value : goal.returns-clause-value
returns-clause-value c =
    let s = c.args.s.now in
    let p : c.position.result ≡ position (λ x. x == c.args.b) s = position_from_yields_List (λ x. x == c.args.b) _ _ c.position.result c.position.ensures.ran (YieldsList-from_slice s cc) (λ x d q k. search (rules, tests)) in
    c.unwrap_or.ensures ∙ ap (λ r. unwrap_or r (length s)) p ∙ first_or_end (λ x. x == c.args.b) s
