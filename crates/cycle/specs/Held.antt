-- Which completed attempt is held, and under which tag.
use Rattle.std.specs.Prelude.{ℕ, Bool, Option, Some, None}
use Rattle.time.specs.Pick.{pick}
use Rattle.cycle.specs.declared.Cycle.{Cycle}
use Rattle.cycle.specs.Kind.{is_pend_i, is_pend_r}
use Rattle.epoch.specs.Held.{is_tag}
use Rattle.epoch.specs.declared.Epoch.{Epoch}

-- the pending epoch, in either role
unfoldable pub pending : Cycle → Option Epoch
pending c = pick (is_pend_i c.kind) (Some c.pendi.ep) (pick (is_pend_r c.kind) (Some c.pendr.ep) None)

-- an own completed attempt is held under the tag
unfoldable pub is_own : Cycle → ℕ → Bool
is_own c tag = is_tag (is_pend_i c.kind) c.pendi.ep.tag tag

-- a peer's completed attempt is held under the tag
unfoldable pub is_peers : Cycle → ℕ → Bool
is_peers c tag = is_tag (is_pend_r c.kind) c.pendr.ep.tag tag
