-- Laws of a pass, for the loop over its items.
use Rattle.std.specs.Prelude.{ℕ, ◌<◌, ◌+◌, Bool, true, false, ◌||◌, ◌≡◌, List, [], ◌∷◌, ◌++◌, map, length, take, get_or, ℤ}
use Rattle.std.proofs.Math.Path.{refl, subst}
use Rattle.std.proofs.Common.{sym, ◌∙◌, ap, append_assoc, append-nil}
use Rattle.std.proofs.lemmas.List.{map-append, take_more}
use Rattle.time.specs.Pick.{pick}
use Rattle.time.specs.Lists.{fold, fold-append}
use Rattle.items.specs.declared.Item.{Item as Timed}
use Rattle.items.specs.Items.{Item, untimed}
use Rattle.items.specs.Arrays.{item_of}
use Rattle.state.specs.declared.State.{State}
use Rattle.state.specs.declared.Given.{Given}
use Rattle.events.specs.Events.{Event}
use Rattle.events.specs.declared.Log.{Log}
use Rattle.events.specs.Told.{Tells}
use Rattle.retire.proofs.Told.{tells_then}
use Rattle.poll_cut.specs.Cut.{Step, Did}
use Rattle.poll_item.specs.Item.{item_step}
use Rattle.poll_pass.specs.Pass.{Work, work_of, did, run_item, pass_of, Runs}

either : (a b : Bool) → (a || b) ≡ pick a true b
either true b = refl
either false b = refl

module _ (g : Given) (spread : ℤ) where
  -- one item and then the rest
  pub pass_one : (i : Item) (l : List Item) (w : Work) → pass_of g spread (i ∷ l) w ≡ pass_of g spread l (did w (item_step w.state g spread i.kind i.key))
  unfolding pass_of fold run_item
  pass_one i l w = refl

  pub pass_none : (w : Work) → pass_of g spread [] w ≡ w
  unfolding pass_of fold
  pass_none w = refl

  -- a pass goes by kinds and keys alone, whatever the instants
  pub pass_untimed : (l : List Item) (w : Work) → pass_of g spread (map untimed l) w ≡ pass_of g spread l w
  unfolding pass_of fold run_item
  pass_untimed [] w = refl
  pass_untimed (i ∷ l) w = pass_untimed l (run_item g spread w i)

  -- no item yet
  pub runs_none : (s : State) (ended : Bool) (l : Log) → Runs (pass_of g spread [] (work_of s [] ended)) l s ended l
  unfolding pass_of fold
  runs_none s ended l = record { state = refl; tells = record { appends = refl; same_reference = refl }; ends = refl }

  pass-next : (xs : List Timed) (i : ℕ) (d : Timed) (w : Work) → i < length xs → pass_of g spread (map item_of (take (i + 1) xs)) w ≡ run_item g spread (pass_of g spread (map item_of (take i xs)) w) (item_of (get_or xs i d))
  unfolding pass_of fold
  pass-next xs i d w h =
      ap (λ l. fold (run_item g spread) w (map item_of l)) (take_more xs i d h)
      ∙ (ap (fold (run_item g spread) w) (map-append item_of (take i xs) (get_or xs i d ∷ []))
      ∙ fold-append (run_item g spread) w (map item_of (take i xs)) (item_of (get_or xs i d) ∷ []))

  -- one item more
  pub runs-next :
      (xs : List Timed) (i : ℕ) (d : Timed) (w : Work) {l m n : Log} {s s' : State} {b ends : Bool} → i < length xs → Runs (pass_of g spread (map item_of (take i xs)) w) l s b m
      → Did (item_step s g spread (get_or xs i d).due.kind (get_or xs i d).due.key) m s' ends n
      → Runs (pass_of g spread (map item_of (take (i + 1) xs)) w) l s' (b || ends) n
  unfolding run_item
  runs-next xs i d w {l} {m} {n} {s} {s'} {b} {ends} h p q =
      let x : Item = item_of (get_or xs i d) in
      let here : State → Step = λ s. item_step s g spread x.kind x.key in
      let v : Work = pass_of g spread (map item_of (take i xs)) w in
      subst (λ (o : Work). Runs o l s' (b || ends) n) (sym (pass-next xs i d w h))
      (record {
        state = q.0 ∙ ap (λ s. (here s).state) p.state;
        tells = subst (λ s. Tells (v.out ++ (here s).out) l n) p.state (tells_then p.tells q.1.0);
        ends = either b ends ∙ (ap (λ a. pick b true a) q.1.1 ∙ (ap (λ s. pick b true (here s).ends) p.state ∙ ap (λ a. pick a true (here v.state).ends) p.ends));
      })

-- ---- events that were there before a pass stay in front

-- some events before those of the work
abbrev onto : List Event → Work → Work
onto a w = work_of w.state (a ++ w.out) w.ended

pass_onto : (g : Given) (spread : ℤ) (a : List Event) (l : List Item) (w : Work) → pass_of g spread l (onto a w) ≡ onto a (pass_of g spread l w)
unfolding pass_of fold run_item
pass_onto g spread a [] w = refl
pass_onto g spread a (i ∷ l) w =
    ap (λ o. pass_of g spread l (work_of t.state o (pick w.ended true t.ends))) (append_assoc a w.out t.out)
    ∙ pass_onto g spread a l (did w t)
  where
    t : Step
    t = item_step w.state g spread i.kind i.key

pub pass_after : (g : Given) (spread : ℤ) (l : List Item) (s : State) (out : List Event) (ended : Bool) → pass_of g spread l (work_of s out ended) ≡ onto out (pass_of g spread l (work_of s [] ended))
pass_after g spread l s out ended =
    ap (λ o. pass_of g spread l (work_of s o ended)) (sym (append-nil out)) ∙ pass_onto g spread out l (work_of s [] ended)
