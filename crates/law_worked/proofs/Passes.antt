-- The passes of a poll over items that stand as lists of numbers: how far they have come after each, over the words of
-- a log and the number of its events.
use Prim.Native.Nat.{ℕ, suc, ◌≤◌, ◌<◌, ◌+◌, ◌-◌, ◌*◌}
use Rattle.std.specs.Prelude.{Bool, true, false, ◌≡◌, eqb, ℤ}
use Rattle.std.proofs.Math.Path.{refl, sym, ap}
use Rattle.std.proofs.Common.{◌∙◌, ap₂, eq-eqb, ne_eqb}
use mathlib.Core.List.{List, [], ◌++◌, map}
use native.Mathlib.Omega.{arith}
use Rattle.std.proofs.Math.ListN.{length}
use Rattle.time.specs.Pick.{pick}
use Rattle.time.specs.Time.{least}
use Rattle.time.specs.Laws.{least-left}
use Rattle.items.specs.Items.{Item, untimed}
use Rattle.items.specs.Arrays.{most, most_listed}
use Rattle.state.specs.declared.State.{State}
use Rattle.state.specs.declared.Given.{Given}
use Rattle.events.specs.Events.{Event}
use Rattle.events.specs.Log.{at, logged}
use Rattle.events.proofs.Laws.{after-all}
use Rattle.poll_listing.specs.Listing.{pass_items}
use Rattle.poll_pass.specs.Pass.{Work, work_of, pass_of}
use Rattle.poll_pass.specs.Laws.{pass_after}
use Rattle.poll_loop.specs.Passes.{Ended, ended, noting, passes_of, three_passes}
use Rattle.law_worked.specs.Arrays.{list_from, list_of, first_of, Extended}
use Rattle.law_worked.specs.Offered.{Collected}
use Rattle.law_worked.specs.Lent.{Ran, Leaves}
use Rattle.law_worked.proofs.Arrays.{list-end, untimed-items, none-noted}
use Rattle.law_worked.proofs.Pass.{pass_named}

-- ---- one pass

module _ (g : Given) (spread : ℤ) (done : List Item) (count : ℕ) (w : Work) where
  items : List Item
  items = pass_items done w.state g.now

  left : ℕ → Ended
  left n = passes_of n g spread (noting done items) (count + length items) (pass_of g spread items w)

  passes_none : passes_of 0 g spread done count w ≡ ended w count
  unfolding passes_of
  passes_none = refl

  passes-one : (n : ℕ) → passes_of (suc n) g spread done count w ≡ pick w.ended (ended w count) (pick (eqb (length items) 0) (ended w count) (left n))
  unfolding passes_of items left
  passes-one n = refl

-- ---- the loop

module _ (s₀ : State) (g : Given) (spread : ℤ) (ws₀ : List ℕ) where
  -- how far the passes have come: what is left from here gives the whole
  pub record Along (p : ℕ) (dk dx : List ℕ) (dn : ℕ) (s : State) (len : ℕ) (ends : Bool) (ws : List ℕ) : Type 0 where
    pub out : List Event
    pub log : at len ws ≡ logged (at 0 ws₀) out
    pub whole : three_passes s₀ g spread ≡ passes_of (3 - p) g spread (list_of dk dx dn) dn (work_of s out ends)
    pub room : dn ≤ 40 * p

  pub along_start : (dk dx : List ℕ) → Along 0 dk dx 0 s₀ 0 false ws₀
  unfolding three_passes
  along_start dk dx =
      record { out = []; log = refl; whole = ap (λ l. passes_of 3 g spread l 0 (work_of s₀ [] false)) (sym (list-end dk dx 0 (least 0 most_listed) none-noted)); room = omega arith }

  module _ (p : ℕ) (dk dx : List ℕ) (dn : ℕ) (s : State) (len : ℕ) (ends : Bool) (ws : List ℕ) (a : Along p dk dx dn s len ends ws) where
    work : Work
    work = work_of s a.out ends

    finish : passes_of (3 - p) g spread (list_of dk dx dn) dn work ≡ ended work dn → (z : ℤ) → spread ≡ z → Leaves (three_passes s₀ g z) ws₀ s len ends dn ws
    unfolding work
    finish e z y =
        let q : ended (work_of s a.out ends) dn ≡ three_passes s₀ g z = sym (a.whole ∙ e) ∙ ap (three_passes s₀ g) y in
        record {
          state = ap (λ (t : Ended). t.work.state) q;
          log = a.log ∙ ap (λ (t : Ended). logged (at 0 ws₀) t.work.out) q;
          ends = ap (λ (t : Ended). t.work.ended) q;
          counts = ap (λ (t : Ended). t.count) q;
        }

    -- three passes are over; z is the spread as the function was given it
    pub along_over : (z : ℤ) → spread ≡ z → 3 ≤ p → Leaves (three_passes s₀ g z) ws₀ s len ends dn ws
    along_over z y h =
        let k : 3 - p ≡ 0 = omega arith in
        finish (ap (λ n. passes_of n g spread (list_of dk dx dn) dn work) k ∙ passes_none g spread (list_of dk dx dn) dn work) z y

    once : p < 3 → passes_of (3 - p) g spread (list_of dk dx dn) dn work ≡ pick ends (ended work dn) (pick (eqb (length (items g spread (list_of dk dx dn) dn work)) 0) (ended work dn) (left g spread (list_of dk dx dn) dn work (3 - (p + 1))))
    unfolding work
    once h =
        let k : 3 - p ≡ suc (3 - (p + 1)) = omega arith in
        ap (λ n. passes_of n g spread (list_of dk dx dn) dn work) k ∙ passes-one g spread (list_of dk dx dn) dn work (3 - (p + 1))

    -- the link has ended
    pub along_ended : (z : ℤ) → spread ≡ z → p < 3 → ends ≡ true → Leaves (three_passes s₀ g z) ws₀ s len ends dn ws
    along_ended z y h e =
        finish (once h ∙ ap (λ b. pick b (ended work dn) (pick (eqb (length (items g spread (list_of dk dx dn) dn work)) 0) (ended work dn) (left g spread (list_of dk dx dn) dn work (3 - (p + 1))))) e) z y

    module _ (pa pk px : List ℕ) (n : ℕ) (c : Collected (list_of dk dx dn) s g.now pa pk px n) (h : p < 3) (live : ends ≡ false) where
      here : passes_of (3 - p) g spread (list_of dk dx dn) dn work ≡ pick (eqb (length (pass_items (list_of dk dx dn) s g.now)) 0) (ended work dn) (passes_of (3 - (p + 1)) g spread (noting (list_of dk dx dn) (pass_items (list_of dk dx dn) s g.now)) (dn + length (pass_items (list_of dk dx dn) s g.now)) (pass_of g spread (pass_items (list_of dk dx dn) s g.now) work))
      unfolding items left work
      here = once h ∙ ap (λ b. pick b (ended work dn) (pick (eqb (length (pass_items (list_of dk dx dn) s g.now)) 0) (ended work dn) (passes_of (3 - (p + 1)) g spread (noting (list_of dk dx dn) (pass_items (list_of dk dx dn) s g.now)) (dn + length (pass_items (list_of dk dx dn) s g.now)) (pass_of g spread (pass_items (list_of dk dx dn) s g.now) work)))) live

      after : Ended
      after = passes_of (3 - (p + 1)) g spread (noting (list_of dk dx dn) (pass_items (list_of dk dx dn) s g.now)) (dn + length (pass_items (list_of dk dx dn) s g.now)) (pass_of g spread (pass_items (list_of dk dx dn) s g.now) work)

      -- no item is left to list
      pub along_none : (z : ℤ) → spread ≡ z → n ≡ 0 → Leaves (three_passes s₀ g z) ws₀ s len ends dn ws
      unfolding after
      along_none z y e = finish (here ∙ ap (λ b. pick b (ended work dn) after) (eq-eqb (length (pass_items (list_of dk dx dn) s g.now)) 0 (sym c.count ∙ e))) z y

      -- one pass more
      pub along-next :
          (n ≡ 0 → ⊥) → (dk' dx' : List ℕ) (dn' : ℕ) (r : Ran) (ws' : List ℕ) → Extended dk dx dn pk px n dk' dx' dn'
          → (r.state ≡ (pass_of g spread (first_of pk px n) (work_of s [] ends)).state) × ((at r.len ws' ≡ logged (at len ws) (pass_of g spread (first_of pk px n) (work_of s [] ends)).out) × (r.ended ≡ (pass_of g spread (first_of pk px n) (work_of s [] ends)).ended))
          → Along (p + 1) dk' dx' dn' r.state r.len r.ended ws'
      unfolding after work
      along-next some dk' dx' dn' r ws' o q =
          record {
            out = a.out ++ w.out;
            log = after-all (at 0 ws₀) a.out w.out a.log q.1.0;
            whole =
                a.whole
                ∙ (here
                ∙ (ap (λ b. pick b (ended work dn) after) (ne_eqb (length (pass_items (list_of dk dx dn) s g.now)) 0 (λ e. some (c.count ∙ e)))
                ∙ (ap₂ (λ l m. passes_of (3 - (p + 1)) g spread l m (pass_of g spread (pass_items (list_of dk dx dn) s g.now) (work_of s a.out ends))) listed counted
                ∙ ap (passes_of (3 - (p + 1)) g spread (list_of dk' dx' dn') dn') left-work)));
            room = let x : dn' ≡ dn + n = o.count in let y : dn ≤ 40 * p = a.room in let v : n ≤ most = c.room in omega arith;
          }
        where
          w : Work
          w = pass_of g spread (first_of pk px n) (work_of s [] ends)

          -- a pass has no more items than there is room for
          every : first_of pk px n ≡ list_from pk px 0 n
          every = ap (list_from pk px 0) (least-left {a = n} {b = most} c.room)

          listed : noting (list_of dk dx dn) (pass_items (list_of dk dx dn) s g.now) ≡ list_of dk' dx' dn'
          listed = ap (λ l. list_of dk dx dn ++ l) (ap (map untimed) (sym c.items) ∙ untimed-items pa pk px 0 n) ∙ sym o.list

          counted : dn + length (pass_items (list_of dk dx dn) s g.now) ≡ dn'
          counted = ap (λ m. dn + m) (sym c.count) ∙ sym o.count

          left-work : pass_of g spread (pass_items (list_of dk dx dn) s g.now) (work_of s a.out ends) ≡ work_of r.state (a.out ++ w.out) r.ended
          left-work =
              ap (λ l. pass_of g spread l (work_of s a.out ends)) (sym c.items)
              ∙ (sym (pass_named g spread pa pk px n (work_of s a.out ends))
              ∙ (ap (λ l. pass_of g spread l (work_of s a.out ends)) (sym every)
              ∙ (pass_after g spread (first_of pk px n) s a.out ends
              ∙ sym (ap₂ (λ x b. work_of x (a.out ++ w.out) b) q.0 q.1.1))))
