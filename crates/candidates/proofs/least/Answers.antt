use Rattle.std.proofs.Common.{sym, ◌∙◌, ap}
use Rattle.std.proofs.lemmas.Iterator.{YieldsList-from_slice}
use Rattle.std.proofs.lemmas.Iterator.Adapters.{option_map_id}
use Rattle.std.proofs.lemmas.Iterator.Consumers.{YieldsList-from_copied, min_from_yields_List}
use Rattle.time.specs.Options.{when_of}
use Rattle.candidates.proofs.Slices.{least_told}
use Rattle.candidates.proofs.least.Goals as goal

pub returns : goal.returns
returns c =
    ap when_of (sym (option_map_id _) ∙ min_from_yields_List _ _ c.min.ensures.ran (YieldsList-from_copied (YieldsList-from_slice c.args.a.now cc)))
    ∙ least_told c.args.a.now
