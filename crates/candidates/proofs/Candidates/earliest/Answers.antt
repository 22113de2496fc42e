use Rattle.std.specs.Prelude.{◌≡◌, length}
use Rattle.std.proofs.Common.{rules}
use Rattle.candidates.proofs.Slices.{least_earliest}
use Rattle.candidates.proofs.Candidates.earliest.Goals as goal

pub returns : goal.returns
returns c =
    let k : length c.args.self.now.deadline ≡ 32 = search rules in
    least_earliest c.args.self.now.len c.held.result c.args.self.now.deadline k c.held.ensures.value _ c.least.ensures
