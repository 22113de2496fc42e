use Rattle.std.proofs.Common.{rules}
use Rattle.settings.proofs.Places.{in_one, in_two, in_three}
use Rattle.settings.proofs.accept.Goals as goal

pub returns-in_err-triggers : goal.returns-in_err-triggers
returns-in_err-triggers c =
    let e = in_one c.args.cfg c.in_err-triggers.field-0.0 c.in_err-triggers.ensures in
    search (rules, e)

pub returns-in_err-positives : goal.returns-in_err-positives
returns-in_err-positives c =
    let e = in_two c.args.cfg c.in_err-positives.field-0.0 c.in_ok-triggers.ensures c.in_err-positives.ensures in
    search (rules, e)

pub returns : goal.returns
returns c = in_three c.args.cfg _ c.in_ok-triggers.ensures c.in_ok-positives.ensures c.windows.ensures
