use Rattle.std.proofs.Common.{not, refl, Err, Ok, rules, [], ◌∷◌}
use Rattle.numbers.specs.Numbers.{refused_no_start}
use Rattle.start.specs.Start.{called_for}
use Rattle.refusal.specs.declared.Refusal.TheVariants.{NoStart}
use Rattle.refusal.specs.Refusal.{by, first, given_tests, state_tests, link_tests}
use Rattle.refusal.specs.First.{rising}
use Rattle.refusal.proofs.Parts.{failed, passed}
use Rattle.call_reply.specs.Reply.{replied_tests, reply_refused}
use Rattle.call_reply.proofs.send_back.Goals as goal

pub returns-in_err-before_link : goal.returns-in_err-before_link
unfolding reply_refused replied_tests
returns-in_err-before_link c =
    failed (link_tests c.args.s.now c.args.cfg c.args.profile) (by refused_no_start (not (called_for c.args.s.now c.args.cfg c.args.profile c.args.time)) ∷ []) c.in_err-before_link.field-0.0 c.from_residual.result (search rules) c.in_err-before_link.ensures

pub returns-then-not-called_for : goal.returns-then-not-called_for
unfolding reply_refused replied_tests link_tests given_tests state_tests rising first
returns-then-not-called_for c =
    passed (link_tests c.args.s.now c.args.cfg c.args.profile) (by refused_no_start (not (called_for c.args.s.now c.args.cfg c.args.profile c.args.time)) ∷ []) (Err NoStart) refl c.in_ok-before_link.ensures (simp (← c.called_for.ensures, c.if-not-called_for.true))

pub returns : goal.returns
unfolding reply_refused replied_tests link_tests given_tests state_tests rising first
returns c =
    passed (link_tests c.args.s.now c.args.cfg c.args.profile) (by refused_no_start (not (called_for c.args.s.now c.args.cfg c.args.profile c.args.time)) ∷ []) (Ok _) refl c.in_ok-before_link.ensures (simp (← c.called_for.ensures, c.if-not-called_for.false))
