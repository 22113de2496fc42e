use Rattle.std.proofs.Common.{rules}
use Rattle.candidates.specs.Held.{held_of, others}
use Rattle.candidates.proofs.Laws.{changed}
use Rattle.candidates.proofs.Candidates.drop_at.Goals as goal

pub returns : goal.returns
returns c =
    changed _ (others c.args.i (held_of c.args.self.now.len)) c.args.self.now c.each.new.self (λ a b n r. rw (← c.held-n.ensures.value, ← r.leaves, ← r.shows) (search rules)) c.each.ensures
