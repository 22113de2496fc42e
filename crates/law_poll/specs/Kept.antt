-- What every item keeps, a pass and the passes keep: accepted states, and starts not after t.
use Prim.Native.Nat.{ℕ, zero, suc, ◌≤◌, ◌+◌}
use Rattle.std.specs.Prelude.{Bool, true, false, ◌≡◌, eqb, ℤ}
use mathlib.Core.List.{List, [], ◌∷◌}
use Rattle.std.proofs.Math.ListN.{length}
use Rattle.time.specs.Pick.{pick}
use Rattle.time.specs.Lists.{fold}
use Rattle.items.specs.Items.{Item}
use Rattle.state.specs.declared.State.{State}
use Rattle.state.specs.declared.Given.{Given}
use Rattle.poll_item.specs.Item.{item_step}
use Rattle.poll_listing.specs.Listing.{pass_items}
use Rattle.poll_pass.specs.Pass.{Work, work_of, did, run_item, pass_of}
use Rattle.poll_loop.specs.Passes.{Ended, ended, noting, passes_of, three_passes}
use Rattle.refusal.specs.Refusal.{state_back}
use Rattle.law_refusal.specs.Sound.{Sound, sound, sounding}
use Rattle.law_sound.specs.Items.{item-sound}
use Rattle.law_early.specs.Early.{Early}
use Rattle.law_early.specs.Items.{item-early}

module _ (g : Given) (spread : ℤ) (P : State → Type 0) (each : (s : State) (kind key : ℕ) → P s → P (item_step s g spread kind key).state) where
  pub pass_keeps : (l : List Item) (w : Work) → P w.state → P (pass_of g spread l w).state
  unfolding pass_of fold run_item
  pass_keeps [] w p = p
  pass_keeps (i ∷ l) w p = pass_keeps l (did w (item_step w.state g spread i.kind i.key)) (each w.state i.kind i.key p)

  of_choice : (b : Bool) (x y : Ended) → P x.work.state → P y.work.state → P (pick b x y).work.state
  of_choice true x y p q = p
  of_choice false x y p q = q

  pub passes-keep : (n : ℕ) (done : List Item) (count : ℕ) (w : Work) → P w.state → P (passes_of n g spread done count w).work.state
  unfolding passes_of
  passes-keep zero done count w p = p
  passes-keep (suc n) done count w p =
      of_choice w.ended (ended w count) _ p
      (of_choice (eqb (length items) 0) (ended w count) (passes_of n g spread (noting done items) (count + length items) (pass_of g spread items w)) p
      (passes-keep n (noting done items) (count + length items) (pass_of g spread items w) (pass_keeps items w p)))
    where
      items : List Item
      items = pass_items done w.state g.now

-- ---- the passes of a poll

module _ (s : State) (g : Given) (spread : ℤ) where
  -- they leave an accepted state accepted
  pub passes-sound : Sound s → Sound (three_passes s g spread).work.state
  unfolding three_passes
  passes-sound o = passes-keep g spread Sound (λ r kind key p. item-sound r p g spread kind key) 3 [] 0 (work_of s [] false) o

  pub passes-accepted : state_back s ≡ 0 → state_back (three_passes s g spread).work.state ≡ 0
  passes-accepted e = sounding (three_passes s g spread).work.state (passes-sound (sound s e))

  -- and at an instant that is not after t they move no start past t
  pub passes-early : (t : ℕ) → g.now ≤ t → Sound s → Early s t → Early (three_passes s g spread).work.state t
  unfolding three_passes
  passes-early t n o e =
      (passes-keep g spread (λ r. Sound r × Early r t) (λ r kind key p. (item-sound r p.0 g spread kind key, item-early r t p.1 p.0.pendi-led g spread n kind key)) 3 [] 0 (work_of s [] false) (o, e)).1
