-- The passes of a poll: what they leave, tell and count is decided by what stands.
use Prim.Native.Nat.{ℕ, zero, suc, ◌+◌}
use Rattle.std.proofs.Math.Bool.{true}
use Rattle.std.specs.Prelude.{false, ◌≡◌, ℤ}
use Rattle.std.proofs.Math.Path.{refl, ap₂, subst}
use Rattle.std.proofs.Common.{ap}
use mathlib.Core.List.{List, [], ◌∷◌, ◌++◌}
use Rattle.std.proofs.Math.Dec.{eqb}
use Rattle.std.proofs.Math.ListN.{length}
use Rattle.time.specs.Pick.{pick}
use Rattle.time.specs.Lists.{fold}
use Rattle.items.specs.Items.{Item}
use Rattle.state.specs.declared.State.{State}
use Rattle.state.specs.declared.Given.{Given}
use Rattle.law_refusal.specs.Sound.{Sound}
use Rattle.poll_listing.specs.Listing.{fresh, pass_items}
use Rattle.poll_pass.specs.Pass.{Work, work_of, run_item, pass_of}
use Rattle.poll_loop.specs.Passes.{Ended, ended, noting, passes_of, three_passes}
use Rattle.law_sound.specs.Items.{item-sound}
use Rattle.law_alike.specs.Optional.{related}
use Rattle.law_alike.specs.Whole.{Alike}
use Rattle.law_alike.specs.Due.{items-due}
use Rattle.law_agree.specs.Turn.{item-step}

pub record Works (a b : Work) : Type 0 where
  pub state : Alike a.state b.state
  pub out : a.out ≡ b.out
  pub ended : a.ended ≡ b.ended

pub record Ends (a b : Ended) : Type 0 where
  pub work : Works a.work b.work
  pub count : a.count ≡ b.count

listed-alike : {s t : State} → Alike s t → (done : List Item) (now : ℕ) → pass_items done s now ≡ pass_items done t now
unfolding pass_items fresh
listed-alike a done now = rw (items-due a now)

module _ (g : Given) (spread : ℤ) where
  run_item_lem : {w v : Work} → Works w v → Sound w.state → (i : Item) → Works (run_item g spread w i) (run_item g spread v i)
  unfolding run_item
  run_item_lem h o i =
      let r = item-step h.state o g spread i.kind i.key in
      record { state = r.state; out = ap₂ (λ l m. l ++ m) h.out r.out; ended = ap₂ (λ p q. pick p true q) h.ended r.ends }

  pass_of_lem : (items : List Item) {w v : Work} → Works w v → Sound w.state → Works (pass_of g spread items w) (pass_of g spread items v)
  unfolding pass_of fold run_item
  pass_of_lem [] h o = h
  pass_of_lem (i ∷ l) {w} {v} h o =
      pass_of_lem l {w = run_item g spread w i} {v = run_item g spread v i} (run_item_lem h o i) (item-sound w.state o g spread i.kind i.key)

  pass_sound : (items : List Item) (w : Work) → Sound w.state → Sound (pass_of g spread items w).state
  unfolding pass_of fold run_item
  pass_sound [] w o = o
  pass_sound (i ∷ l) w o = pass_sound l (run_item g spread w i) (item-sound w.state o g spread i.kind i.key)

  passes_of_lem : (n : ℕ) (done : List Item) (count : ℕ) {w v : Work} → Works w v → Sound w.state → Ends (passes_of n g spread done count w) (passes_of n g spread done count v)
  unfolding passes_of
  passes_of_lem zero done count h o = record { work = h; count = refl }
  passes_of_lem (suc n) done count {w} {v} h o =
      let items = pass_items done w.state g.now in
      let e : items ≡ pass_items done v.state g.now = listed-alike h.state done g.now in
      let stop : Ends (ended w count) (ended v count) = record { work = h; count = refl } in
      related Ends h.ended (λ _. stop)
      (λ _. related Ends (ap (λ l. eqb (length l) 0) e) (λ _. stop)
      (λ _. subst (λ l. Ends (passes_of n g spread (noting done items) (count + length items) (pass_of g spread items w)) (passes_of n g spread (noting done l) (count + length l) (pass_of g spread l v))) e
      (passes_of_lem n (noting done items) (count + length items) (pass_of_lem items h o) (pass_sound items w o))))

  pub three-passes : {s t : State} → Alike s t → Sound s → Ends (three_passes s g spread) (three_passes t g spread)
  unfolding three_passes
  three-passes {s} {t} a o = passes_of_lem 3 [] 0 {w = work_of s [] false} {v = work_of t [] false} (record { state = a; out = refl; ended = refl }) o
