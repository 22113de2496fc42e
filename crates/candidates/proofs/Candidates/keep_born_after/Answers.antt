use Rattle.std.proofs.Common.{◌≡◌, ◌∙◌, ap, rules}
use Rattle.candidates.specs.Held.{held_by, held_of, kept_after, younger}
use Rattle.candidates.proofs.Laws.{changed, held_kept}
use Rattle.candidates.proofs.Candidates.keep_born_after.Goals as goal

pub returns : goal.returns
unfolding kept_after
returns c =
    let e : c.each.new.self ≡ kept_after c.args.self.now c.args.t = changed _ (younger c.args.t (held_of c.args.self.now.len) c.args.self.now.born) c.args.self.now c.each.new.self (λ a b n r. rw (← c.held-n.ensures.value, ← r.leaves, ← r.shows) (search rules)) c.each.ensures in
    record { value = e; listed = ap held_by e ∙ held_kept c.args.self.now c.args.t }
