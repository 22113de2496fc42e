-- The first part, then whether there is a second, then the second.
use mir.Facts.{to_z-of_z}
use Rattle.std.specs.Prelude.{not, ◌≡◌}
use Rattle.std.proofs.Common.{sym, ◌∙◌, ap}
use Rattle.link_quiet.specs.Busy.{first_busy}
use Rattle.link.proofs.Quiet.{tells_busy, tells-alone, tells-other}
use Rattle.link.proofs.siklyavon_quiet.Goals as goal

pub returns-else-not-first_busy : goal.returns-else-not-first_busy
returns-else-not-first_busy c =
    let e : c.first_busy.result ≡ first_busy c.args.s.now c.args.g c.args.spread = simp (to_z-of_z c.ranges.spread) at c.first_busy.ensures in
    tells_busy _ _ _ _ (sym e ∙ c.if-not-first_busy.false) (ap not c.if-not-first_busy.false)

pub returns-then-alone : goal.returns-then-alone
returns-then-alone c =
    let e : c.first_busy.result ≡ first_busy c.args.s.now c.args.g c.args.spread = simp (to_z-of_z c.ranges.spread) at c.first_busy.ensures in
    tells-alone _ _ _ _ (sym e ∙ c.if-not-first_busy.true) (sym c.alone.ensures ∙ c.if-alone.true) c.if-alone.true

pub returns-else-alone : goal.returns-else-alone
returns-else-alone c =
    let e : c.first_busy.result ≡ first_busy c.args.s.now c.args.g c.args.spread = simp (to_z-of_z c.ranges.spread) at c.first_busy.ensures in
    tells-other _ _ _ _ (sym e ∙ c.if-not-first_busy.true) c.other_still.ensures
