use Rattle.std.proofs.Common.{◌≡◌, rules, tests}
use Rattle.std.specs.List.{list_all}
use Rattle.std.proofs.lemmas.Iterator.{YieldsList-from_slice}
use Rattle.std.proofs.lemmas.Iterator.Search.{all_from_yields_List}
use Rattle.text.specs.Numbers.{number_of, is_digit}
use Rattle.text.proofs.number.parse.Goals as goal

pub returns-clause-value : goal.returns-clause-value
unfolding number_of
returns-clause-value c =
    let all : c.all.result ≡ list_all is_digit c.args.s.now = all_from_yields_List is_digit _ _ c.all.result c.all.ensures.ran (YieldsList-from_slice c.args.s.now cc) (λ x b q k. search (rules, tests)) in
    search rules
