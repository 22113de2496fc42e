-- What is due: `due` of machine.rs.
use Rattle.std.specs.Prelude.{ℕ, Bool, true, false, List, [], ◌∷◌, ◌++◌, map, leb}
use Rattle.time.specs.Pick.{pick}
use Rattle.time.specs.Lists.{kept}
use Rattle.ladder.specs.declared.Ladder.{Ladder}
use Rattle.ladder.specs.Ladder.{next_at_of}
use Rattle.numbers.specs.Numbers.{item_drain, item_candidate, item_unadopted, item_held, item_probe, item_delayed, item_fin, item_elicit, item_confirm, item_delay_end, item_resend, item_expire}
use Rattle.epoch.specs.declared.Final.{Final}
use Rattle.epoch.specs.declared.MayLadder.{MayLadder}
use Rattle.epoch.specs.declared.MayEpoch.{MayEpoch}
use Rattle.cycle.specs.declared.PendI.{PendI}
use Rattle.cycle.specs.declared.Cycle.{Cycle}
use Rattle.cycle.specs.Kind.{is_init, is_pend_i, is_pend_r, waits_held, waits_evidence}
use Rattle.candidates.specs.Held.{held_by, firsts}
use Rattle.state.specs.Parts.{listed}
use Rattle.state.specs.declared.State.{State}
use Rattle.start.specs.Start.{instants}
use Rattle.items.specs.Items.{Item, item}

-- ---- the instants of ladders

-- "next instant", where a rung is left
unfoldable pub ladder_instants : Ladder → List ℕ
ladder_instants l = instants (next_at_of l)

unfoldable pub may_instants : MayLadder → List ℕ
may_instants m = pick m.some (ladder_instants m.ladder) []

unfoldable pub fin_instants : Final → List ℕ
fin_instants f = pick f.some (ladder_instants f.ladder) []

-- prompt repeats, "until the peer is seen to move"
unfoldable pub elicit_instants : Bool → MayLadder → List ℕ
elicit_instants moved m = pick moved [] (may_instants m)

-- ---- items

-- an item of that kind at each of some instants
abbrev pub items_at : ℕ → ℕ → List ℕ → List Item
items_at kind key ts = map (λ t. item t kind key) ts

-- the drained epoch's end
unfoldable pub drain_items : State → List Item
drain_items s = items_at item_drain s.drain.ep.tag (listed s.drain.some s.drain.deadline)

-- each candidate's
unfoldable pub candidate_items : State → List Item
candidate_items s = map (λ c. item c.deadline item_candidate c.seq) (held_by s.cands)

-- those of an own completed attempt, by its wait
unfoldable pub pending_items : PendI → List Item
pending_items p =
    pick (waits_held p.wait) (items_at item_held p.ep.tag (p.deadline ∷ []))
    (pick (waits_evidence p.wait) (items_at item_probe p.ep.tag (may_instants p.probes) ++ items_at item_confirm p.ep.tag (p.deadline ∷ []))
    (items_at item_delayed p.ep.tag (fin_instants p.fin) ++ items_at item_delay_end p.ep.tag (p.deadline ∷ [])))

-- those of the cycle
unfoldable pub cycle_items : Cycle → List Item
cycle_items c =
    pick (is_init c.kind) (items_at item_resend 0 (ladder_instants c.init.ladder) ++ items_at item_expire 0 (c.init.deadline ∷ []))
    (pick (is_pend_i c.kind) (pending_items c.pendi)
    (pick (is_pend_r c.kind) (items_at item_unadopted c.pendr.ep.tag (c.pendr.deadline ∷ [])) []))

-- those of the current epoch
unfoldable pub current_items : MayEpoch → List Item
current_items e =
    pick e.some
    (items_at item_fin e.ep.tag (fin_instants e.ep.fin) ++ items_at item_elicit e.ep.tag (elicit_instants e.ep.moved.some e.ep.elicit))
    []

-- every item that `due` names, in its order, whether its instant is reached or not
unfoldable pub named : State → List Item
named s = drain_items s ++ (candidate_items s ++ (cycle_items s.cycle ++ current_items s.cur))

-- ---- what is due

abbrev pub is_due : ℕ → Item → Bool
is_due now i = leb i.at now

-- "every item of `due` whose instant is not after now"
unfoldable pub due_items : State → ℕ → List Item
due_items s now = kept (is_due now) (named s)

-- whether a list has an element
abbrev pub some_in : {A : Type 0} → List A → Bool
some_in [] = false
some_in (a ∷ l) = true

-- "an item is due when `due` names it with an instant not after the poll's"
unfoldable pub any_due : State → ℕ → Bool
any_due s now = some_in (due_items s now)

-- ---- the instants of these items alone, from the parts of the state

unfoldable pub pending_due : ℕ → ℕ → MayLadder → Final → List ℕ
pending_due wait deadline probes fin =
    pick (waits_held wait) (deadline ∷ [])
    (pick (waits_evidence wait) (may_instants probes ++ deadline ∷ []) (fin_instants fin ++ deadline ∷ []))

unfoldable pub cycle_due : Cycle → List ℕ
cycle_due c =
    pick (is_init c.kind) (ladder_instants c.init.ladder ++ c.init.deadline ∷ [])
    (pick (is_pend_i c.kind) (pending_due c.pendi.wait c.pendi.deadline c.pendi.probes c.pendi.fin)
    (pick (is_pend_r c.kind) (c.pendr.deadline ∷ []) []))

-- the same with the instants of an own completed attempt given
unfoldable pub cycle_with : Cycle → List ℕ → List ℕ
cycle_with c pending =
    pick (is_init c.kind) (ladder_instants c.init.ladder ++ c.init.deadline ∷ [])
    (pick (is_pend_i c.kind) pending
    (pick (is_pend_r c.kind) (c.pendr.deadline ∷ []) []))

unfoldable pub current_instants : MayEpoch → List ℕ
current_instants e = pick e.some (fin_instants e.ep.fin ++ elicit_instants e.ep.moved.some e.ep.elicit) []

-- some instants of the cycle, among those of the drain, the candidates and the current epoch
unfoldable pub standing : State → List ℕ → List ℕ
standing s cycle =
    listed s.drain.some s.drain.deadline
    ++ (firsts s.cands.len s.cands.deadline ++ (cycle ++ current_instants s.cur))

unfoldable pub due_instants : State → List ℕ
due_instants s = standing s (cycle_due s.cycle)
