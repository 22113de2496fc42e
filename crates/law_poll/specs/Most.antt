-- How many events the passes have at most. Every item pays its events: by its kind, or by what it
-- takes from the stock, which is 13 for a cycle in progress and 1 for each candidate.
use Prim.Native.Nat.{ℕ, zero, suc, ◌≤◌, ◌+◌, ◌*◌}
use Rattle.std.specs.Prelude.{Bool, true, false, eqb, ℤ}
use mathlib.Core.List.{List, [], ◌∷◌}
use native.Mathlib.Omega.{arith}
use Rattle.std.proofs.Math.ListN.{length, length-append}
use Rattle.time.specs.Pick.{pick}
use Rattle.time.specs.Lists.{fold}
use Rattle.items.specs.Items.{Item}
use Rattle.state.specs.declared.State.{State}
use Rattle.state.specs.declared.Given.{Given}
use Rattle.poll_item.specs.Item.{item_step}
use Rattle.poll_listing.specs.Listing.{pass_items}
use Rattle.law_most.specs.Cost.{stock, costs, stock-most}
use Rattle.law_most.specs.Items.{item_paid}
use Rattle.law_most.specs.Pass.{pass_cost}
use Rattle.poll_pass.specs.Pass.{Work, work_of, did, run_item, pass_of}
use Rattle.poll_loop.specs.Passes.{Ended, ended, noting, passes_of, three_passes}

module _ (g : Given) (spread : ℤ) where
  -- the items of a pass
  pass_paid : (l : List Item) (w : Work) → length (pass_of g spread l w).out + stock (pass_of g spread l w).state ≤ length w.out + stock w.state + costs l
  unfolding pass_of fold run_item costs
  pass_paid [] w = omega arith
  pass_paid (i ∷ l) w =
      omega (
        arith,
        pass_paid l (did w (item_step w.state g spread i.kind i.key)),
        length-append w.out (item_step w.state g spread i.kind i.key).out,
        item_paid w.state g spread i.kind i.key,
      )

  -- n passes
  passes_paid : (n : ℕ) (done : List Item) (count : ℕ) (w : Work) → length (passes_of n g spread done count w).work.out ≤ length w.out + stock w.state + 10 * n
  unfolding passes_of
  passes_paid zero done count w = omega arith
  passes_paid (suc n) done count w =
      under w.ended (eqb (length items) 0)
      (omega (arith, passes_paid n (noting done items) (count + length items) (pass_of g spread items w), pass_paid items w, pass_cost done w.state g.now))
    where
      items : List Item
      items = pass_items done w.state g.now

      next : Ended
      next = passes_of n g spread (noting done items) (count + length items) (pass_of g spread items w)

      under : (e z : Bool) → length next.work.out ≤ length w.out + stock w.state + 10 * suc n → length (pick e (ended w count) (pick z (ended w count) next)).work.out ≤ length w.out + stock w.state + 10 * suc n
      under true z h = omega arith
      under false true h = omega arith
      under false false h = h

-- three passes have 75 events at most
pub passes-most : (s : State) (g : Given) (spread : ℤ) → length (three_passes s g spread).work.out ≤ 75
unfolding three_passes
passes-most s g spread = omega (arith, passes_paid g spread 3 [] 0 (work_of s [] false), stock-most s.cycle.kind s.cands.len)
