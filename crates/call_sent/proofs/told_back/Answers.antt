use Rattle.std.proofs.Common.{◌∙◌, refl, Err, Ok, rules, [], ◌∷◌}
use Rattle.numbers.specs.Numbers.{refused_sent}
use Rattle.refusal.specs.declared.Refusal.TheVariants.{Sent}
use Rattle.refusal.specs.Refusal.{by, first, state_tests}
use Rattle.refusal.specs.First.{rising}
use Rattle.refusal.proofs.Parts.{failed, passed}
use Rattle.call_sent.specs.Told.{below_held, told_tests}
use Rattle.call_sent.proofs.Laws.{told-first}
use Rattle.call_sent.proofs.told_back.Goals as goal

pub returns-in_err-before_told : goal.returns-in_err-before_told
unfolding told_tests
returns-in_err-before_told c =
    failed (state_tests c.args.s.now) (by refused_sent (below_held c.args.s.now.cur.some c.args.s.now.cur.ep.sent c.args.count) ∷ []) c.in_err-before_told.field-0.0 c.from_residual.result (search rules) c.in_err-before_told.ensures
    ∙ told-first c.args.s.now c.args.count

pub returns-then-below : goal.returns-then-below
unfolding told_tests state_tests rising first
returns-then-below c =
    passed (state_tests c.args.s.now) (by refused_sent (below_held c.args.s.now.cur.some c.args.s.now.cur.ep.sent c.args.count) ∷ []) (Err Sent) refl c.in_ok-before_told.ensures (simp (← c.below.ensures, c.if-below.true))
    ∙ told-first c.args.s.now c.args.count

pub returns : goal.returns
unfolding told_tests state_tests rising first
returns c =
    passed (state_tests c.args.s.now) (by refused_sent (below_held c.args.s.now.cur.some c.args.s.now.cur.ep.sent c.args.count) ∷ []) (Ok _) refl c.in_ok-before_told.ensures (simp (← c.below.ensures, c.if-below.false))
    ∙ told-first c.args.s.now c.args.count
