-- A pass over names that stand as two lists of numbers, one item after another, over the words of a log and the number
-- of its events.
use Rattle.std.specs.Prelude.{ℕ, ◌≤◌, ◌<◌, ◌+◌, Bool, true, ◌≡◌, List, [], ◌++◌, ℤ, get_or}
use Rattle.std.proofs.Math.Path.{refl}
use Rattle.std.proofs.Common.{sym, ◌∙◌, ap, ap₂}
use Rattle.time.specs.Pick.{pick}
use Rattle.state.specs.declared.State.{State}
use Rattle.state.specs.declared.Given.{Given}
use Rattle.events.specs.Events.{Event}
use Rattle.events.specs.Log.{at, logged}
use Rattle.events.proofs.Laws.{after-all}
use Rattle.poll_cut.specs.Cut.{Step}
use Rattle.poll_item.specs.Item.{item_step}
use Rattle.poll_pass.specs.Pass.{Work, work_of, did, pass_of}
use Rattle.poll_pass.specs.Laws.{pass_one, pass_none, pass_untimed}
use Rattle.law_worked.specs.Arrays.{items_of, list_at, list_from}
use Rattle.law_worked.specs.Lent.{Ran}
use Rattle.law_worked.proofs.Arrays.{list-next, list-end, untimed-items}

module _ (g : Given) (spread : ℤ) where
  module _ (kind key : List ℕ) (n : ℕ) (s₀ : State) (len₀ : ℕ) (ended₀ : Bool) (ws₀ : List ℕ) where
    -- how far the loop has come: what is left of the pass from place i on gives the whole
    pub record Along (i : ℕ) (s : State) (len : ℕ) (ended : Bool) (ws : List ℕ) : Type 0 where
      pub out : List Event
      pub log : at len ws ≡ logged (at len₀ ws₀) out
      pub whole : pass_of g spread (list_from kind key 0 n) (work_of s₀ [] ended₀) ≡ pass_of g spread (list_from kind key i n) (work_of s out ended)

    pub along_start : Along 0 s₀ len₀ ended₀ ws₀
    along_start = record { out = []; log = refl; whole = refl }

    module _ (i : ℕ) (s : State) (len : ℕ) (ended : Bool) (ws : List ℕ) (a : Along i s len ended ws) where
      -- one item more
      pub along-next :
          (r : Ran) (e : Bool) (ws' : List ℕ) → i < n
          → (r.state ≡ (item_step s g spread (get_or kind i 0) (get_or key i 0)).state) × ((at r.len ws' ≡ logged (at len ws) (item_step s g spread (get_or kind i 0) (get_or key i 0)).out) × (r.ended ≡ (item_step s g spread (get_or kind i 0) (get_or key i 0)).ends))
          → e ≡ pick ended true r.ended
          → Along (i + 1) r.state r.len e ws'
      along-next r e ws' h p q =
          record {
            out = a.out ++ t.out;
            log = after-all (at len₀ ws₀) a.out t.out a.log p.1.0;
            whole =
                a.whole
                ∙ (ap (λ l. pass_of g spread l (work_of s a.out ended)) (list-next kind key i n h)
                ∙ (pass_one g spread (list_at kind key i) (list_from kind key (i + 1) n) (work_of s a.out ended)
                ∙ ap (λ w. pass_of g spread (list_from kind key (i + 1) n) w) (sym here)));
          }
        where
          t : Step
          t = item_step s g spread (get_or kind i 0) (get_or key i 0)

          here : work_of r.state (a.out ++ t.out) e ≡ did (work_of s a.out ended) t
          here = ap₂ (λ x b. work_of x (a.out ++ t.out) b) p.0 (q ∙ ap (pick ended true) p.1.1)

      -- the items are done; z is the spread as the function was given it
      pub along_done : (z : ℤ) → spread ≡ z → n ≤ i → (s ≡ (pass_of g z (list_from kind key 0 n) (work_of s₀ [] ended₀)).state) × ((at len ws ≡ logged (at len₀ ws₀) (pass_of g z (list_from kind key 0 n) (work_of s₀ [] ended₀)).out) × (ended ≡ (pass_of g z (list_from kind key 0 n) (work_of s₀ [] ended₀)).ended))
      along_done z y h =
          let all : work_of s a.out ended ≡ pass_of g z (list_from kind key 0 n) (work_of s₀ [] ended₀) =
          sym (a.whole ∙ (ap (λ l. pass_of g spread l (work_of s a.out ended)) (list-end kind key i n h) ∙ pass_none g spread (work_of s a.out ended)))
          ∙ ap (λ x. pass_of g x (list_from kind key 0 n) (work_of s₀ [] ended₀)) y in
          (ap (λ (w : Work). w.state) all, (a.log ∙ ap (λ (w : Work). logged (at len₀ ws₀) w.out) all, ap (λ (w : Work). w.ended) all))

-- a pass over the names of items is a pass over the items
pub pass_named : (g : Given) (spread : ℤ) (at kind key : List ℕ) (n : ℕ) (w : Work) → pass_of g spread (list_from kind key 0 n) w ≡ pass_of g spread (items_of at kind key n) w
pass_named g spread at kind key n w = ap (λ l. pass_of g spread l w) (sym (untimed-items at kind key 0 n)) ∙ pass_untimed g spread (items_of at kind key n) w
