use Rattle.std.specs.Prelude.{◌≡◌, length}
use Rattle.std.proofs.Common.{rules}
use Rattle.candidates.proofs.Slices.{found_spot}
use Rattle.candidates.proofs.Candidates.spot.Goals as goal

pub returns-clause-place : goal.returns-clause-place
returns-clause-place c =
    let k : length c.args.self.now.seq ≡ 32 = search rules in
    found_spot c.args.self.now.len c.held.result c.args.self.now.seq k c.held.ensures.value c.args.seq c.find.result c.find.ensures
