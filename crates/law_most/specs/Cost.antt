-- What an item may tell: "No answer has more than 96". Some events are paid by what the state holds
-- and then no longer does (a cycle, a candidate), the others by the kind of the item.
use Rattle.std.specs.Prelude.{ℕ, ◌≤◌, ◌+◌, Bool, true, false, ◌≡◌, List, [], ◌∷◌, eqb, length}
use Rattle.std.proofs.Common.{◌∙◌, ap, arith, eqb-true}
use Rattle.time.specs.Pick.{pick}
use Rattle.numbers.specs.Numbers.{item_drain, item_probe, item_delayed, item_fin, item_elicit, item_resend, cycle_idle, cycle_init, cycle_pend_i, cycle_pend_r}
use Rattle.cycle.specs.Kind.{is_idle}
use Rattle.candidates.specs.Held.{held_of}
use Rattle.candidates.proofs.Laws.{held-most}
use Rattle.state.specs.declared.State.{State}
use Rattle.items.specs.Items.{Item}
use Rattle.poll_cut.specs.Cut.{Step}

-- a cycle in progress pays 13 events when it ends, a candidate one
unfoldable pub stock_of : ℕ → ℕ → ℕ
stock_of kind len = pick (is_idle kind) 0 13 + held_of len

abbrev pub stock : State → ℕ
stock s = stock_of s.cycle.kind s.cands.len

-- Delayed, Fin, Elicit and Resend have one event
abbrev pub repeats : ℕ → Bool
repeats kind = pick (eqb kind item_delayed) true (pick (eqb kind item_fin) true (pick (eqb kind item_elicit) true (eqb kind item_resend)))

-- what an item's kind pays: Drain 5, Probe 3, a repeat 1
unfoldable pub cost : ℕ → ℕ
cost kind = pick (eqb kind item_drain) 5 (pick (eqb kind item_probe) 3 (pick (repeats kind) 1 0))

unfoldable pub costs : List Item → ℕ
costs [] = 0
costs (i ∷ l) = cost i.kind + costs l

-- the events of a step are paid by the stock and c more
abbrev pub Paid : State → ℕ → Step → Type 0
Paid s c t = length t.out + stock t.state ≤ stock s + c

-- ---- laws

pub stock-most : (kind len : ℕ) → stock_of kind len ≤ 45
unfolding stock_of
stock-most kind len = under (is_idle kind)
  where
    under : (q : Bool) → pick q 0 13 + held_of len ≤ 45
    under true = omega (arith, held-most len)
    under false = omega (arith, held-most len)

-- a cycle of kind 1, 2 or 3 that ends gives 13
pub ends-init : (kind len : ℕ) → eqb kind cycle_init ≡ true → stock_of kind len ≡ 13 + stock_of cycle_idle len
unfolding stock_of
ends-init kind len e = ap (λ k. stock_of k len) (eqb-true kind 1 e) ∙ omega arith

pub ends-pendi : (kind len : ℕ) → eqb kind cycle_pend_i ≡ true → stock_of kind len ≡ 13 + stock_of cycle_idle len
unfolding stock_of
ends-pendi kind len e = ap (λ k. stock_of k len) (eqb-true kind 2 e) ∙ omega arith

pub ends-pendr : (kind len : ℕ) → eqb kind cycle_pend_r ≡ true → stock_of kind len ≡ 13 + stock_of cycle_idle len
unfolding stock_of
ends-pendr kind len e = ap (λ k. stock_of k len) (eqb-true kind 3 e) ∙ omega arith
