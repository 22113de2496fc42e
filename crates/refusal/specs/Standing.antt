-- The conditions on a state, place by place, as the code tries them.
use Rattle.std.specs.Prelude.{ℕ, Bool, false, ◌&&◌, ◌||◌, eqb}
use Rattle.time.specs.declared.When.{When}
use Rattle.time.specs.Pick.{pick}
use Rattle.epoch.specs.declared.Epoch.{Epoch}
use Rattle.cycle.specs.declared.Cycle.{Cycle}
use Rattle.cycle.specs.Kind.{is_init, is_pend_i}
use Rattle.refusal.specs.Refusal.{ladder_bad}

-- ---- tags

abbrev pub tag_of : Bool → Epoch → When
tag_of b e = record { some = b; at = e.tag }

-- both are there, and are equal
unfoldable pub shared_of : When → When → Bool
shared_of a b = a.some && (b.some && eqb a.at b.at)

unfoldable pub tags_bad : When → When → When → Bool
tags_bad a b c = shared_of a b || (shared_of a c || shared_of b c)

-- the pending epoch, where there is one; PendR's record is read where there is none, behind a flag
-- that is off
unfoldable pub pending_ep : Cycle → Epoch
pending_ep c = pick (is_pend_i c.kind) c.pendi.ep c.pendr.ep

-- ---- ladders

unfoldable pub standing_bad : Bool → ℕ → ℕ → Bool
standing_bad b len next = b && ladder_bad len next

unfoldable pub either_bad : Bool → ℕ → ℕ → Bool → ℕ → ℕ → Bool
either_bad a len next b len' next' = standing_bad a len next || standing_bad b len' next'

unfoldable pub epoch_bad : Epoch → Bool
epoch_bad e =
    either_bad e.fin.some e.fin.ladder.sched.len e.fin.ladder.next
    e.elicit.some e.elicit.ladder.sched.len e.elicit.ladder.next

unfoldable pub held_bad : Bool → Epoch → Bool
held_bad b e = b && epoch_bad e

unfoldable pub cycle_bad : Cycle → Bool
cycle_bad c =
    pick (is_init c.kind) (ladder_bad c.init.ladder.sched.len c.init.ladder.next)
    (pick (is_pend_i c.kind)
    (either_bad c.pendi.fin.some c.pendi.fin.ladder.sched.len c.pendi.fin.ladder.next
    c.pendi.probes.some c.pendi.probes.ladder.sched.len c.pendi.probes.ladder.next)
    false)
