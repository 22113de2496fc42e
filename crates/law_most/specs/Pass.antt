-- The items of a pass: what they cost together.
use Rattle.std.specs.Prelude.{ℕ, ◌≤◌, ◌+◌, Bool, true, false, not, ◌≡◌, refl, List, [], ◌∷◌, ◌++◌, map, length}
use Rattle.std.proofs.Common.{arith}
use Rattle.time.specs.Pick.{pick}
use Rattle.time.specs.Lists.{fold, kept}
use Rattle.ladder.specs.declared.Ladder.{Ladder}
use Rattle.ladder.specs.Ladder.{next_at_of}
use Rattle.numbers.specs.Numbers.{item_candidate, item_unadopted, item_resend, item_expire}
use Rattle.epoch.specs.declared.Final.{Final}
use Rattle.epoch.specs.declared.MayLadder.{MayLadder}
use Rattle.epoch.specs.declared.MayEpoch.{MayEpoch}
use Rattle.cycle.specs.declared.PendI.{PendI}
use Rattle.cycle.specs.declared.Cycle.{Cycle}
use Rattle.cycle.specs.Kind.{is_init, is_pend_i, is_pend_r, waits_held, waits_evidence}
use Rattle.candidates.specs.Held.{Candidate, held_by}
use Rattle.state.specs.Parts.{listed}
use Rattle.state.specs.declared.State.{State}
use Rattle.items.specs.Items.{Item, item, before, insert, sorted, listed_in}
use Rattle.wake.specs.Due.{ladder_instants, may_instants, fin_instants, elicit_instants, items_at, drain_items, candidate_items, pending_items, cycle_items, current_items, named, is_due, due_items}
use Rattle.poll_listing.specs.Listing.{unlisted, fresh, pass_items}
use Rattle.law_most.specs.Cost.{cost, costs}

-- ---- sums

costs-append : (l m : List Item) → costs (l ++ m) ≡ costs l + costs m
unfolding costs
costs-append [] m = omega arith
costs-append (i ∷ l) m = omega (arith, costs-append l m)

costs-kept : (p : Item → Bool) (l : List Item) → costs (kept p l) ≤ costs l
unfolding costs kept
costs-kept p [] = omega arith
costs-kept p (i ∷ l) = under (p i) (costs-kept p l)
  where
    under : (q : Bool) → costs (kept p l) ≤ costs l → costs (pick q (i ∷ kept p l) (kept p l)) ≤ cost i.kind + costs l
    under true h = omega (arith, h)
    under false h = omega (arith, h)

costs-insert : (x : Item) (l : List Item) → costs (insert x l) ≡ cost x.kind + costs l
unfolding costs insert
costs-insert x [] = refl
costs-insert x (y ∷ l) = under (before x y) (costs-insert x l)
  where
    under : (q : Bool) → costs (insert x l) ≡ cost x.kind + costs l → costs (pick q (x ∷ y ∷ l) (y ∷ insert x l)) ≡ cost x.kind + (cost y.kind + costs l)
    under true h = refl
    under false h = omega (arith, h)

costs-fold : (s l : List Item) → costs (fold (λ s x. insert x s) s l) ≡ costs s + costs l
unfolding costs fold
costs-fold s [] = omega arith
costs-fold s (x ∷ l) = omega (arith, costs-fold (insert x s) l, costs-insert x s)

-- the order does not matter
costs-sorted : (l : List Item) → costs (sorted l) ≡ costs l
unfolding sorted costs
costs-sorted l = omega (arith, costs-fold [] l)

-- ---- the items that `due` names

-- at most one item of a kind
costs-at : (kind key : ℕ) (ts : List ℕ) → length ts ≤ 1 → costs (items_at kind key ts) ≤ cost kind
unfolding costs
costs-at kind key [] h = omega arith
costs-at kind key (t ∷ []) h = omega arith
costs-at kind key (t ∷ u ∷ ts) h = absurd (omega arith)

one-listed : (b : Bool) (t : ℕ) → length (listed b t) ≤ 1
one-listed true t = omega arith
one-listed false t = omega arith

one-picked : (b : Bool) (l m : List ℕ) → length l ≤ 1 → length m ≤ 1 → length (pick b l m) ≤ 1
one-picked true l m p q = p
one-picked false l m p q = q

one-ladder : (l : Ladder) → length (ladder_instants l) ≤ 1
unfolding ladder_instants
one-ladder l = one-listed (next_at_of l).some (next_at_of l).at

one-may : (m : MayLadder) → length (may_instants m) ≤ 1
unfolding may_instants
one-may m = one-picked m.some (ladder_instants m.ladder) [] (one-ladder m.ladder) (omega arith)

one-fin : (f : Final) → length (fin_instants f) ≤ 1
unfolding fin_instants
one-fin f = one-picked f.some (ladder_instants f.ladder) [] (one-ladder f.ladder) (omega arith)

one-elicit : (moved : Bool) (m : MayLadder) → length (elicit_instants moved m) ≤ 1
unfolding elicit_instants
one-elicit moved m = one-picked moved [] (may_instants m) (omega arith) (one-may m)

-- two kinds, one item of each at most
costs-two : (k a j b : ℕ) (ts us : List ℕ) → length ts ≤ 1 → length us ≤ 1 → costs (items_at k a ts ++ items_at j b us) ≤ cost k + cost j
costs-two k a j b ts us p q =
    omega (arith, costs-append (items_at k a ts) (items_at j b us), costs-at k a ts p, costs-at j b us q)

costs-picked : (n : ℕ) (b : Bool) (l m : List Item) → costs l ≤ n → costs m ≤ n → costs (pick b l m) ≤ n
costs-picked n true l m p q = p
costs-picked n false l m p q = q

drain-cost : (s : State) → costs (drain_items s) ≤ 5
unfolding drain_items cost
drain-cost s = costs-at 0 s.drain.ep.tag (listed s.drain.some s.drain.deadline) (one-listed s.drain.some s.drain.deadline)

candidates-cost : (s : State) → costs (candidate_items s) ≤ 0
unfolding candidate_items costs cost
candidates-cost s = under (held_by s.cands)
  where
    under : (l : List Candidate) → costs (map (λ c. item c.deadline item_candidate c.seq) l) ≤ 0
    under [] = omega arith
    under (c ∷ l) = omega (arith, under l)

-- a probe costs most
pending-cost : (p : PendI) → costs (pending_items p) ≤ 3
unfolding pending_items cost
pending-cost p =
    costs-picked 3 (waits_held p.wait) _ _
    (omega (arith, costs-at 3 p.ep.tag (p.deadline ∷ []) (omega arith)))
    (costs-picked 3 (waits_evidence p.wait) _ _
    (costs-two 4 p.ep.tag 8 p.ep.tag (may_instants p.probes) (p.deadline ∷ []) (one-may p.probes) (omega arith))
    (omega (arith, costs-two 5 p.ep.tag 9 p.ep.tag (fin_instants p.fin) (p.deadline ∷ []) (one-fin p.fin) (omega arith))))

cycle-cost : (c : Cycle) → costs (cycle_items c) ≤ 3
unfolding cycle_items costs cost
cycle-cost c =
    costs-picked 3 (is_init c.kind) _ _ first
    (costs-picked 3 (is_pend_i c.kind) _ _ (pending-cost c.pendi)
    (costs-picked 3 (is_pend_r c.kind) _ [] peers none))
  where
    first : costs (items_at item_resend 0 (ladder_instants c.init.ladder) ++ items_at item_expire 0 (c.init.deadline ∷ [])) ≤ 3
    first = omega (arith, costs-two 10 0 11 0 (ladder_instants c.init.ladder) (c.init.deadline ∷ []) (one-ladder c.init.ladder) (omega arith))

    peers : costs (items_at item_unadopted c.pendr.ep.tag (c.pendr.deadline ∷ [])) ≤ 3
    peers = omega (arith, costs-at 2 c.pendr.ep.tag (c.pendr.deadline ∷ []) (omega arith))

    none : costs [] ≤ 3
    none = omega arith

current-cost : (e : MayEpoch) → costs (current_items e) ≤ 2
unfolding current_items costs cost
current-cost e =
    costs-picked 2 e.some _ []
    (costs-two 6 e.ep.tag 7 e.ep.tag (fin_instants e.ep.fin) (elicit_instants e.ep.moved.some e.ep.elicit) (one-fin e.ep.fin) (one-elicit e.ep.moved.some e.ep.elicit))
    none
  where
    none : costs [] ≤ 2
    none = omega arith

named-cost : (s : State) → costs (named s) ≤ 10
unfolding named
named-cost s =
    omega (
      arith,
      costs-append (drain_items s) (candidate_items s ++ (cycle_items s.cycle ++ current_items s.cur)),
      costs-append (candidate_items s) (cycle_items s.cycle ++ current_items s.cur),
      costs-append (cycle_items s.cycle) (current_items s.cur),
      drain-cost s,
      candidates-cost s,
      cycle-cost s.cycle,
      current-cost s.cur,
    )

-- the items of a pass cost 10 at most
pub pass_cost : (done : List Item) (s : State) (now : ℕ) → costs (pass_items done s now) ≤ 10
unfolding pass_items fresh due_items
pass_cost done s now =
    omega (
      arith,
      costs-sorted (unlisted done (kept (is_due now) (named s))),
      costs-kept (λ i. not (listed_in i done)) (kept (is_due now) (named s)),
      costs-kept (is_due now) (named s),
      named-cost s,
    )
