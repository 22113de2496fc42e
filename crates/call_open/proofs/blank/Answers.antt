use Rattle.std.proofs.Common.{◌≡◌, ◌∙◌, ap}
use Rattle.call_open.specs.Blank.{no_current, no_epoch, no_final, no_repeats, no_ladder}
use Rattle.call_open.specs.Open.{alone as alone_of}
use Rattle.call_open.specs.Open.{blank_state}
use Rattle.call_open.proofs.blank.Goals as goal

-- src/lib.rt:87:1
pub returns : goal.returns
unfolding blank_state no_current no_epoch no_final no_repeats no_ladder
returns c = c.alone.ensures ∙ ap (λ m. alone_of m no_current) c.new_memory.ensures
