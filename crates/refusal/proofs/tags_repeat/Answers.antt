use Rattle.refusal.proofs.Standing.{tags-held}
use Rattle.refusal.proofs.tags_repeat.Goals as goal

pub returns : goal.returns
returns c =
    tags-held c.args.s.now _ _ _ c.tag.ensures c.pending_tag.ensures c.tag-2.ensures c.tags_bad.result c.tags_bad.ensures
