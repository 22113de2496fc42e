use Rattle.std.proofs.Common.{◌≡◌, refl, [], ◌∷◌, rules}
use mir.Facts.{to_z-of_z}
use Rattle.numbers.specs.Numbers.{refused_draw}
use Rattle.refusal.specs.Refusal.{spread_bad, by, given_tests, open_tests}
use Rattle.refusal.specs.First.{rising}
use Rattle.refusal.proofs.Parts.{failed, passed}
use Rattle.refusal.proofs.before_open.Goals as goal

pub returns-in_err-before_given : goal.returns-in_err-before_given
unfolding open_tests given_tests
returns-in_err-before_given c =
    failed (given_tests c.args.cfg c.args.p) (by refused_draw (spread_bad c.args.cfg.jitter c.args.spread) ∷ []) c.in_err-before_given.field-0.0 c.from_residual.result (search rules) c.in_err-before_given.ensures

pub returns : goal.returns
unfolding open_tests given_tests rising
returns c =
    let b : c.spread_bad.result ≡ spread_bad c.args.cfg.jitter c.args.spread = simp (to_z-of_z c.ranges.spread) at c.spread_bad.ensures in
    passed (given_tests c.args.cfg c.args.p) (by refused_draw (spread_bad c.args.cfg.jitter c.args.spread) ∷ []) c.draw.result refl c.in_ok-before_given.ensures (rw b at c.draw.ensures)
