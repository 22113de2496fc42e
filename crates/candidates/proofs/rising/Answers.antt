use Rattle.std.specs.Prelude.{ltb}
use Rattle.std.proofs.Common.{rules}
use Rattle.std.proofs.lemmas.List.Sorted.{answers_always}
use Rattle.candidates.proofs.Slices.{rises_told}
use Rattle.candidates.proofs.rising.Goals as goal

pub returns : goal.returns
returns c = rises_told _ _ (c.is_sorted_by.ensures.cases ltb (answers_always _ _ _ (λ f a r f' k. search rules)))
