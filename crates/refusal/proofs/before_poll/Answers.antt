use mir.Facts.{to_z-of_z}
use Rattle.std.proofs.Common.{◌≡◌, refl, ◌||◌, [], ◌∷◌, rules}
use Rattle.numbers.specs.Numbers.{refused_draw}
use Rattle.refusal.specs.Refusal.{spread_bad, extra_bad, by, given_tests, state_tests, link_tests, poll_tests}
use Rattle.refusal.specs.First.{rising}
use Rattle.refusal.proofs.Parts.{failed, passed}
use Rattle.refusal.proofs.before_poll.Goals as goal

pub returns-in_err-before_link : goal.returns-in_err-before_link
unfolding poll_tests link_tests given_tests state_tests
returns-in_err-before_link c =
    failed (link_tests c.args.s.now c.args.cfg c.args.p) (by refused_draw (spread_bad c.args.cfg.jitter c.args.spread || extra_bad c.args.cfg.jitter c.args.extra) ∷ []) c.in_err-before_link.field-0.0 c.from_residual.result (search rules) c.in_err-before_link.ensures

pub returns : goal.returns
unfolding poll_tests link_tests given_tests state_tests rising
returns c =
    let b : c.draws_bad.result ≡ spread_bad c.args.cfg.jitter c.args.spread || extra_bad c.args.cfg.jitter c.args.extra = simp (to_z-of_z c.ranges.spread) at c.draws_bad.ensures in
    passed (link_tests c.args.s.now c.args.cfg c.args.p) (by refused_draw (spread_bad c.args.cfg.jitter c.args.spread || extra_bad c.args.cfg.jitter c.args.extra) ∷ []) c.draw.result refl c.in_ok-before_link.ensures (rw b at c.draw.ensures)
