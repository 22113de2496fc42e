use Rattle.std.proofs.Common.{◌≡◌, refl, [], ◌∷◌, rules}
use mir.Facts.{to_z-of_z}
use Rattle.numbers.specs.Numbers.{refused_draw}
use Rattle.refusal.specs.Refusal.{spread_bad, by, given_tests, state_tests, link_tests, frame_tests}
use Rattle.refusal.specs.First.{rising}
use Rattle.refusal.proofs.Parts.{failed, passed}
use Rattle.refusal.proofs.before_frame.Goals as goal

pub returns-in_err-before_link : goal.returns-in_err-before_link
unfolding frame_tests link_tests given_tests state_tests
returns-in_err-before_link c =
    failed (link_tests c.args.s.now c.args.cfg c.args.p) (by refused_draw (spread_bad c.args.cfg.jitter c.args.spread) ∷ []) c.in_err-before_link.field-0.0 c.from_residual.result (search rules) c.in_err-before_link.ensures

pub returns : goal.returns
unfolding frame_tests link_tests given_tests state_tests rising
returns c =
    let b : c.spread_bad.result ≡ spread_bad c.args.cfg.jitter c.args.spread = simp (to_z-of_z c.ranges.spread) at c.spread_bad.ensures in
    passed (link_tests c.args.s.now c.args.cfg c.args.p) (by refused_draw (spread_bad c.args.cfg.jitter c.args.spread) ∷ []) c.draw.result refl c.in_ok-before_link.ensures (rw b at c.draw.ensures)
