-- Laws of the passes, for their loop.
use Prim.Native.Nat.{ℕ, suc, ◌≤◌, ◌<◌, ◌+◌, ◌-◌, ◌*◌}
use Rattle.std.specs.Prelude.{Bool, true, false, ◌≡◌, eqb, ℤ}
use Rattle.std.proofs.Math.Path.{refl, sym, ap, subst}
use Rattle.std.proofs.Common.{◌∙◌, ap₂, length-append}
use Rattle.std.proofs.lemmas.List.{length-map}
use mathlib.Core.List.{List, [], ◌++◌, map}
use native.Mathlib.Omega.{arith}
use Rattle.std.proofs.Math.ListN.{length}
use Rattle.time.specs.Pick.{pick}
use Rattle.items.specs.Items.{Item, untimed}
use Rattle.items.specs.Arrays.{most}
use Rattle.state.specs.declared.State.{State}
use Rattle.state.specs.declared.Given.{Given}
use Rattle.events.specs.Events.{Event}
use Rattle.events.specs.declared.Log.{Log}
use Rattle.events.specs.Told.{Tells}
use Rattle.retire.proofs.Told.{tells_then}
use Rattle.poll_listing.specs.Listing.{pass_items}
use Rattle.poll_pass.specs.Pass.{Work, work_of, pass_of, Runs}
use Rattle.poll_pass.specs.Laws.{pass_after}
use Rattle.poll_loop.specs.Passes.{Ended, ended, noting, passes_of, three_passes, Leaves}

-- ---- one pass

module _ (g : Given) (spread : ℤ) (done : List Item) (count : ℕ) (w : Work) where
  items : List Item
  items = pass_items done w.state g.now

  left : ℕ → Ended
  left n = passes_of n g spread (noting done items) (count + length items) (pass_of g spread items w)

  passes_none : passes_of 0 g spread done count w ≡ ended w count
  unfolding passes_of
  passes_none = refl

  passes-one : (n : ℕ) → passes_of (suc n) g spread done count w ≡ pick w.ended (ended w count) (pick (eqb (length items) 0) (ended w count) (left n))
  unfolding passes_of items left
  passes-one n = refl

-- ---- the loop

-- the same with another spread and count that are equal
pub leaves_as : (s₀ : State) (g : Given) {y z : ℤ} {l l' : Log} {s : State} {ends : Bool} {m n : ℕ} → y ≡ z → n ≡ m → Leaves (three_passes s₀ g y) l s ends m l' → Leaves (three_passes s₀ g z) l s ends n l'
leaves_as s₀ g {y} {l = l} {l' = l'} {s = s} {ends = ends} {n = n} e f t =
    subst (λ x. Leaves (three_passes s₀ g x) l s ends n l') e (subst (λ k. Leaves (three_passes s₀ g y) l s ends k l') (sym f) t)

module _ (s₀ : State) (g : Given) (spread : ℤ) (l₀ : Log) where
  -- how far the passes have come: what is left from here gives the whole
  pub record Along (p : ℕ) (listed : List Item) (s : State) (ends : Bool) (l : Log) : Type 0 where
    pub out : List Event
    pub tells : Tells out l₀ l
    pub whole : three_passes s₀ g spread ≡ passes_of (3 - p) g spread listed (length listed) (work_of s out ends)
    pub room : length listed ≤ 40 * p

  pub along_start : (listed : List Item) → listed ≡ [] → Along 0 listed s₀ false l₀
  unfolding three_passes
  along_start listed e =
      subst (λ q. Along 0 q s₀ false l₀) (sym e)
      (record { out = []; tells = record { appends = refl; same_reference = refl }; whole = refl; room = omega arith })

  module _ (p : ℕ) (listed : List Item) (s : State) (ends : Bool) (l : Log) (a : Along p listed s ends l) where
    work : Work
    work = work_of s a.out ends

    finish : passes_of (3 - p) g spread listed (length listed) work ≡ ended work (length listed) → Leaves (three_passes s₀ g spread) l₀ s ends (length listed) l
    unfolding work
    finish e =
        let q : ended (work_of s a.out ends) (length listed) ≡ three_passes s₀ g spread = sym (a.whole ∙ e) in
        record {
          state = ap (λ (t : Ended). t.work.state) q;
          tells = subst (λ (t : Ended). Tells t.work.out l₀ l) q a.tells;
          ends = ap (λ (t : Ended). t.work.ended) q;
          counts = ap (λ (t : Ended). t.count) q;
        }

    -- three passes are over
    pub along_over : 3 ≤ p → Leaves (three_passes s₀ g spread) l₀ s ends (length listed) l
    along_over h =
        let k : 3 - p ≡ 0 = omega arith in
        finish (ap (λ n. passes_of n g spread listed (length listed) work) k ∙ passes_none g spread listed (length listed) work)

    once : p < 3 → passes_of (3 - p) g spread listed (length listed) work ≡ pick ends (ended work (length listed)) (pick (eqb (length (items g spread listed (length listed) work)) 0) (ended work (length listed)) (left g spread listed (length listed) work (3 - (p + 1))))
    unfolding work
    once h =
        let k : 3 - p ≡ suc (3 - (p + 1)) = omega arith in
        ap (λ n. passes_of n g spread listed (length listed) work) k ∙ passes-one g spread listed (length listed) work (3 - (p + 1))

    -- the link has ended
    pub along_ended : p < 3 → ends ≡ true → Leaves (three_passes s₀ g spread) l₀ s ends (length listed) l
    along_ended h e =
        finish (once h ∙ ap (λ b. pick b (ended work (length listed)) (pick (eqb (length (items g spread listed (length listed) work)) 0) (ended work (length listed)) (left g spread listed (length listed) work (3 - (p + 1))))) e)

    module _ (its : List Item) (collected : its ≡ pass_items listed s g.now) (h : p < 3) (live : ends ≡ false) where
      after : Ended
      after = passes_of (3 - (p + 1)) g spread (noting listed its) (length listed + length its) (pass_of g spread its work)

      here : passes_of (3 - p) g spread listed (length listed) work ≡ pick (eqb (length its) 0) (ended work (length listed)) after
      unfolding items left work after
      here =
          once h
          ∙ (ap (λ b. pick b (ended work (length listed)) (pick (eqb (length (pass_items listed s g.now)) 0) (ended work (length listed)) (passes_of (3 - (p + 1)) g spread (noting listed (pass_items listed s g.now)) (length listed + length (pass_items listed s g.now)) (pass_of g spread (pass_items listed s g.now) work)))) live
          ∙ ap (λ q. pick (eqb (length q) 0) (ended work (length listed)) (passes_of (3 - (p + 1)) g spread (noting listed q) (length listed + length q) (pass_of g spread q work))) (sym collected))

      -- no item is left to list
      pub along_none : eqb (length its) 0 ≡ true → Leaves (three_passes s₀ g spread) l₀ s ends (length listed) l
      along_none e = finish (here ∙ ap (λ b. pick b (ended work (length listed)) after) e)

      -- one pass more
      pub along-next :
          eqb (length its) 0 ≡ false → length its ≤ most → (listed' : List Item) → listed' ≡ listed ++ map untimed its → (s' : State) (ends' : Bool) (l' : Log) → Runs (pass_of g spread its (work_of s [] ends)) l s' ends' l'
          → Along (p + 1) listed' s' ends' l'
      unfolding after work
      along-next some fits listed' o s' ends' l' q =
          record {
            out = a.out ++ w.out;
            tells = tells_then a.tells q.tells;
            whole =
                a.whole
                ∙ (here
                ∙ (ap (λ b. pick b (ended work (length listed)) after) some
                ∙ (ap₂ (λ d m. passes_of (3 - (p + 1)) g spread d m (pass_of g spread its (work_of s a.out ends))) (sym o) counted
                ∙ ap (passes_of (3 - (p + 1)) g spread listed' (length listed')) left-work)));
            room = let m : length listed' ≡ length listed + length its = sym counted in let y : length listed ≤ 40 * p = a.room in omega arith;
          }
        where
          w : Work
          w = pass_of g spread its (work_of s [] ends)

          counted : length listed + length its ≡ length listed'
          counted = sym (simp (length-append, length-map) at (ap length o))

          left-work : pass_of g spread its (work_of s a.out ends) ≡ work_of s' (a.out ++ w.out) ends'
          left-work =
              pass_after g spread its s a.out ends
              ∙ sym (ap₂ (λ x b. work_of x (a.out ++ w.out) b) q.state q.ends)
