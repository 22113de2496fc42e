-- The parts of a state: what is held in it, and a part put in place of another.
use Rattle.std.specs.Prelude.{Bool, List, [], ◌∷◌, ◌++◌}
use Rattle.time.specs.Pick.{pick}
use Rattle.ladder.specs.declared.Ladder.{Ladder}
use Rattle.epoch.specs.declared.Epoch.{Epoch}
use Rattle.epoch.specs.declared.MayEpoch.{MayEpoch}
use Rattle.epoch.specs.declared.Drain.{Drain}
use Rattle.cycle.specs.declared.Cycle.{Cycle}
use Rattle.cycle.specs.Kind.{is_init, is_pend_i, is_pend_r}
use Rattle.candidates.specs.declared.Candidates.{Candidates}
use Rattle.state.specs.declared.Memory.{Memory}
use Rattle.state.specs.declared.State.{State}

-- ---- a part put in place

abbrev pub put_mem : State → Memory → State
put_mem s m = record { mem = m; cur = s.cur; drain = s.drain; cycle = s.cycle; cands = s.cands }

abbrev pub put_cur : State → MayEpoch → State
put_cur s e = record { mem = s.mem; cur = e; drain = s.drain; cycle = s.cycle; cands = s.cands }

abbrev pub put_drain : State → Drain → State
put_drain s d = record { mem = s.mem; cur = s.cur; drain = d; cycle = s.cycle; cands = s.cands }

abbrev pub put_cycle : State → Cycle → State
put_cycle s c = record { mem = s.mem; cur = s.cur; drain = s.drain; cycle = c; cands = s.cands }

abbrev pub put_cands : State → Candidates → State
put_cands s v = record { mem = s.mem; cur = s.cur; drain = s.drain; cycle = s.cycle; cands = v }

-- ---- what is held ("Held is what stands in the state: an epoch as current, pending or drained, an
-- attempt as the cycle's open handshake, a candidate in its list.")

-- an element that is there or not, as a list
abbrev pub listed : {A : Type 0} → Bool → A → List A
listed b a = pick b (a ∷ []) []

-- the pending epoch, in either role
unfoldable pub pending_of : Cycle → List Epoch
pending_of c = pick (is_pend_i c.kind) (c.pendi.ep ∷ []) (pick (is_pend_r c.kind) (c.pendr.ep ∷ []) [])

-- the epochs that are held: current, pending, drained
unfoldable pub epochs_of : State → List Epoch
epochs_of s = listed s.cur.some s.cur.ep ++ (pending_of s.cycle ++ listed s.drain.some s.drain.ep)

-- the ladders of an epoch: its retained final message's, and its prompt repeats
unfoldable pub epoch_ladders : Epoch → List Ladder
epoch_ladders e = listed e.fin.some e.fin.ladder ++ listed e.elicit.some e.elicit.ladder

-- the cycle's own ladders: the attempt's, or a completed attempt's final message and probes
unfoldable pub cycle_ladders : Cycle → List Ladder
cycle_ladders c =
    pick (is_init c.kind) (c.init.ladder ∷ [])
    (pick (is_pend_i c.kind) (listed c.pendi.fin.some c.pendi.fin.ladder ++ listed c.pendi.probes.some c.pendi.probes.ladder) [])

-- every ladder of some epochs
unfoldable pub all_ladders : List Epoch → List Ladder
all_ladders [] = []
all_ladders (e ∷ l) = epoch_ladders e ++ all_ladders l

-- every ladder that stands in the state
unfoldable pub ladders_of : State → List Ladder
ladders_of s = cycle_ladders s.cycle ++ all_ladders (epochs_of s)
