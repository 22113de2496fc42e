use Rattle.std.proofs.Common.{refl, rules}
use Rattle.refusal.specs.Refusal.{given_tests, state_tests, link_tests}
use Rattle.refusal.specs.First.{rising}
use Rattle.refusal.proofs.Parts.{failed, passed}
use Rattle.refusal.proofs.before_link.Goals as goal

pub returns-in_err-before_given : goal.returns-in_err-before_given
unfolding link_tests given_tests
returns-in_err-before_given c =
    failed (given_tests c.args.cfg c.args.p) (state_tests c.args.s.now) c.in_err-before_given.field-0.0 c.from_residual.result (search rules) c.in_err-before_given.ensures

pub returns : goal.returns
unfolding link_tests given_tests rising
returns c =
    passed (given_tests c.args.cfg c.args.p) (state_tests c.args.s.now) c.before_told.result refl c.in_ok-before_given.ensures c.before_told.ensures
