-- When the passes do nothing: where no item is due the state stays, no event is told and the count is
-- 0; where an item is due the count is above 0.
use Prim.Native.Nat.{ℕ, zero, suc, ◌≤◌, ◌<◌, ◌+◌}
use Rattle.std.specs.Prelude.{Bool, true, false, ◌≡◌, eqb, ℤ}
use Rattle.std.proofs.Common.{true≢false, ◌∙◌, eq-eqb, ne_eqb}
use Rattle.std.proofs.lemmas.Bool.{false≢true}
use Rattle.std.proofs.Math.Path.{refl, ap}
use mathlib.Core.List.{List, [], ◌∷◌}
use native.Mathlib.Omega.{arith}
use Rattle.std.proofs.Math.ListN.{length}
use Rattle.time.specs.Pick.{pick}
use Rattle.time.specs.Lists.{kept}
use Rattle.items.specs.Items.{Item, listed_in}
use Rattle.items.proofs.Sorted.{length-sorted}
use Rattle.state.specs.declared.State.{State}
use Rattle.state.specs.declared.Given.{Given}
use Rattle.wake.specs.Due.{due_items, some_in, any_due}
use Rattle.poll_listing.specs.Listing.{unlisted, fresh, pass_items}
use Rattle.poll_pass.specs.Pass.{Work, work_of, pass_of}
use Rattle.poll_loop.specs.Passes.{Ended, ended, noting, passes_of, three_passes}

-- a first pass leaves out nothing
all-fresh : (l : List Item) → unlisted [] l ≡ l
unfolding kept listed_in
all-fresh [] = refl
all-fresh (i ∷ l) = ap (λ r. i ∷ r) (all-fresh l)

-- it lists as many items as are due
pub first-length : (s : State) (now : ℕ) → length (pass_items [] s now) ≡ length (due_items s now)
unfolding pass_items fresh
first-length s now = length-sorted (unlisted [] (due_items s now)) ∙ ap length (all-fresh (due_items s now))

none_in : (l : List Item) → some_in l ≡ false → length l ≡ 0
none_in [] e = refl
none_in (i ∷ l) e = absurd (true≢false e)

some_in_lem : (l : List Item) → some_in l ≡ true → 0 < length l
some_in_lem [] e = absurd (false≢true e)
some_in_lem (i ∷ l) e = omega arith

none-due : (s : State) (now : ℕ) → any_due s now ≡ false → length (pass_items [] s now) ≡ 0
unfolding any_due
none-due s now e = first-length s now ∙ none_in (due_items s now) e

some-due : (s : State) (now : ℕ) → any_due s now ≡ true → 0 < length (pass_items [] s now)
unfolding any_due
some-due s now e = omega (arith, first-length s now, some_in_lem (due_items s now) e)

module _ (g : Given) (spread : ℤ) where
  of_choice : (c : ℕ) (b : Bool) (x y : Ended) → c ≤ x.count → c ≤ y.count → c ≤ (pick b x y).count
  of_choice c true x y p q = p
  of_choice c false x y p q = q

  -- the count only grows
  count-grows : (n : ℕ) (done : List Item) (count : ℕ) (w : Work) → count ≤ (passes_of n g spread done count w).count
  unfolding passes_of
  count-grows zero done count w = omega arith
  count-grows (suc n) done count w =
      of_choice count w.ended (ended w count) _ (omega arith)
      (of_choice count (eqb (length items) 0) (ended w count) (passes_of n g spread (noting done items) (count + length items) (pass_of g spread items w)) (omega arith)
      (omega (arith, count-grows n (noting done items) (count + length items) (pass_of g spread items w))))
    where
      items : List Item
      items = pass_items done w.state g.now

  module _ (s : State) where
    items : List Item
    items = pass_items [] s g.now

    rest : Ended
    rest = passes_of 2 g spread (noting [] items) (0 + length items) (pass_of g spread items (work_of s [] false))

    three : three_passes s g spread ≡ pick (eqb (length items) 0) (ended (work_of s [] false) 0) rest
    unfolding three_passes passes_of items rest
    three = refl

    -- no item is due: no event, no count, and the state as it was
    pub passes-still : any_due s g.now ≡ false → three_passes s g spread ≡ ended (work_of s [] false) 0
    unfolding items
    passes-still e =
        three ∙ ap (λ b. pick b (ended (work_of s [] false) 0) rest) (eq-eqb (length items) 0 (none-due s g.now e))

    -- an item is due: it is counted
    pub passes_speak : any_due s g.now ≡ true → 0 < (three_passes s g spread).count
    unfolding items rest
    passes_speak e =
        let q : three_passes s g spread ≡ rest =
        three ∙ ap (λ b. pick b (ended (work_of s [] false) 0) rest) (ne_eqb (length items) 0 (λ z. omega (arith, some-due s g.now e))) in
        omega (arith, ap (λ (t : Ended). t.count) q, count-grows 2 (noting [] items) (0 + length items) (pass_of g spread items (work_of s [] false)), some-due s g.now e)
