-- The wake: `next_wake` of machine.rs.
use Rattle.std.specs.Prelude.{ℕ, Bool, ◌&&◌, List, [], ◌∷◌, ◌++◌, leb}
use Rattle.time.specs.declared.When.{When}
use Rattle.time.specs.Pick.{pick}
use Rattle.settings.specs.declared.Config.{Config}
use Rattle.cycle.specs.declared.Cycle.{Cycle}
use Rattle.cycle.specs.declared.PendI.{PendI}
use Rattle.cycle.specs.Kind.{is_init, is_pend_i, is_pend_r}
use Rattle.candidates.specs.Held.{earliest_of}
use Rattle.state.specs.Parts.{listed}
use Rattle.state.specs.declared.State.{State}
use Rattle.state.specs.declared.Profile.{Profile}
use Rattle.start.specs.Start.{instants, start_at}
use Rattle.wake.specs.Due.{ladder_instants, may_instants, fin_instants, standing}

-- the sent count has reached `hard`
unfoldable pub exhausted : State → Config → Bool
exhausted s cfg = s.cur.some && leb cfg.hard s.cur.ep.sent

-- "It counts a waiting initiator's probe and final ladders under every wait"
unfoldable pub cycle_instants : Cycle → List ℕ
cycle_instants c =
    pick (is_init c.kind) (ladder_instants c.init.ladder ++ c.init.deadline ∷ [])
    (pick (is_pend_i c.kind) (c.pendi.deadline ∷ (may_instants c.pendi.probes ++ fin_instants c.pendi.fin))
    (pick (is_pend_r c.kind) (c.pendr.deadline ∷ []) []))

-- those of an own completed attempt alone
unfoldable pub pending_waits : PendI → List ℕ
pending_waits p = p.deadline ∷ (may_instants p.probes ++ fin_instants p.fin)

-- the instants that stand in the state: the drain's deadline, the candidates', the cycle's, and those of the current epoch's ladders
unfoldable pub stored_instants : State → List ℕ
stored_instants s = standing s (cycle_instants s.cycle)

-- the instants that `next_wake` names: those, the start's, and where the sent count has reached `hard` the current epoch's start
unfoldable pub wake_instants : State → Config → Profile → List ℕ
wake_instants s cfg p = stored_instants s ++ (instants (start_at s cfg p) ++ listed (exhausted s cfg) s.cur.ep.started)

-- "The wake is the least instant `next_wake` names, or absent."
unfoldable pub wake_of : State → Config → Profile → When
wake_of s cfg p = earliest_of (wake_instants s cfg p)
