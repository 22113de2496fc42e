use Rattle.std.proofs.Common.{◌∙◌, ap}
use Rattle.candidates.specs.Held.{held_by}
use Rattle.candidates.proofs.Laws.{held_removed, removed_here, removed_none}
use Rattle.candidates.proofs.Candidates.remove.Goals as goal

pub returns-in-Some : goal.returns-in-Some
returns-in-Some c =
    let e = c.drop_at.ensures ∙ removed_here c.args.self.now c.args.seq c.in-Some.i c.in-Some.ensures.place c.in-Some.ensures.within.0 in
    record { value = e; listed = ap held_by e ∙ held_removed c.args.self.now c.args.seq }

pub returns-in_default : goal.returns-in_default
returns-in_default c =
    let e = removed_none c.args.self.now c.args.seq c.in_default.ensures.place in
    record { value = e; listed = ap held_by e ∙ held_removed c.args.self.now c.args.seq }
