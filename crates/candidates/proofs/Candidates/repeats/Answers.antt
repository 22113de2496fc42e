use Rattle.std.specs.Prelude.{◌≡◌, length}
use Rattle.std.proofs.Common.{rules}
use Rattle.candidates.proofs.Slices.{pairs_repeated, rising_once}
use Rattle.candidates.proofs.Candidates.repeats.Goals as goal

pub returns-then-not-rising : goal.returns-then-not-rising
returns-then-not-rising c =
    let k : length c.args.self.now.seq ≡ 32 = search rules in
    pairs_repeated c.args.self.now.len c.held.result c.args.self.now.seq k c.held.ensures.value c.pairs.result c.pairs.ensures

pub returns-else-not-rising : goal.returns-else-not-rising
returns-else-not-rising c =
    let k : length c.args.self.now.seq ≡ 32 = search rules in
    rising_once c.args.self.now.len c.held.result c.args.self.now.seq k c.held.ensures.value c.rising.result c.rising.ensures c.if-not-rising.false
