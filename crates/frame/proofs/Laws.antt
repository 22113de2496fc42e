-- Laws of a frame's answer.
use Rattle.std.specs.Prelude.{ℕ, ◌≤◌, Result, Err, Bool, not, ◌≡◌, List, [], ◌∷◌, eqb, ℤ}
use Rattle.std.proofs.Math.Bool.{true, false}
use Rattle.std.proofs.Math.Path.{refl, ap}
use Rattle.std.proofs.Common.{◌∙◌, arith, ne_eqb}
use Rattle.std.proofs.Math.ListN.{length}
use Rattle.time.specs.Pick.{pick}
use Rattle.settings.specs.declared.Config.{Config}
use Rattle.numbers.specs.Numbers.{refused_slot, refused_tag}
use Rattle.state.specs.declared.State.{State}
use Rattle.state.specs.declared.Profile.{Profile}
use Rattle.refusal.specs.declared.Refusal.{Refusal}
use Rattle.refusal.specs.Refused.{Refused, refused_of}
use Rattle.refusal.proofs.Parts.{failed}
use Rattle.refusal.specs.Refusal.{accepted, first, by, numbered, given_tests, state_tests, frame_tests, before_frame}
use Rattle.refusal.specs.First.{rising}
use Rattle.refusal.proofs.First.{first-append}
use Rattle.answer.specs.Outcome.{Outcome}
use Rattle.answer.proofs.Laws.{by-taken, by_nonzero, by-either}
use Rattle.frame_hear.specs.Hear.{given_of}
use Rattle.frame_slots.specs.declared.FrameProof.{FrameProof}
use Rattle.frame_slots.specs.Frame.{slot_tag, frame_back, frame_of}
use Rattle.frame_slots.specs.Most.{frame-most}
use Rattle.frame.specs.Frames.{slot_empty, other_tag, heard_tests, frame_refused, heard, frame_answer, frame_target}

-- ---- the refusals

module _ (s : State) (cfg : Config) (profile : Profile) (spread : ℤ) where
  -- 8 and 9 by themselves are the number that `frame_back` gives
  own-two : (slot tag : ℕ) → first (by refused_slot (slot_empty s slot) ∷ by refused_tag (other_tag s slot tag) ∷ []) ≡ numbered (frame_back s slot tag)
  unfolding first frame_back
  own-two slot tag = under (slot_tag s slot).some (eqb (slot_tag s slot).at tag)
    where
      under : (a b : Bool) → pick (not a) (numbered 8) (pick (not b) (numbered 9) (numbered 0)) ≡ numbered (pick a (pick b 0 9) 8)
      under true true = refl
      under true false = refl
      under false true = refl
      under false false = refl

  -- 1 to 7 come first
  pub frame_refused_lem : (slot tag : ℕ) → frame_refused s cfg profile spread slot tag ≡ pick (eqb (before_frame s cfg profile spread).number 0) (numbered (frame_back s slot tag)) (before_frame s cfg profile spread)
  unfolding frame_refused heard_tests frame_tests given_tests state_tests rising
  frame_refused_lem slot tag =
      first-append (frame_tests s cfg profile spread) (by refused_slot (slot_empty s slot) ∷ by refused_tag (other_tag s slot tag) ∷ []) 0 refl
      ∙ ap (λ r. pick (eqb (before_frame s cfg profile spread).number 0) r (before_frame s cfg profile spread)) (own-two slot tag)

  -- one of 1 to 7, ..
  pub refused_first :
      (slot tag : ℕ) (e : Refusal) (q : Result (Unit {0}) Refusal) → q ≡ Err e → refused_of (Err e) ≡ before_frame s cfg profile spread
      → refused_of q ≡ frame_refused s cfg profile spread slot tag
  unfolding frame_refused heard_tests
  refused_first slot tag e q h b = failed (frame_tests s cfg profile spread) (by refused_slot (slot_empty s slot) ∷ by refused_tag (other_tag s slot tag) ∷ []) e q h b

  -- .. or what `frame_back` gives
  pub refused_own :
      (slot tag : ℕ) (q : Refused) → accepted ≡ before_frame s cfg profile spread → q ≡ numbered (frame_back s slot tag)
      → q ≡ frame_refused s cfg profile spread slot tag
  refused_own slot tag q b h = rw (frame_refused_lem slot tag, ← b) h

module _ (s : State) (cfg : Config) (profile : Profile) (time : ℕ) (workers : Bool) (spread : ℤ) (p : FrameProof) (body : ℕ) (source target : List ℕ) where
  -- "No answer has more than 96": a frame has 16 at most
  pub frame-few : length (frame_answer s cfg profile time workers spread p body source target).out ≤ 16
  unfolding frame_answer
  frame-few =
      by-either (frame_refused s cfg profile spread p.slot p.tag) s (heard (frame_of s (given_of cfg profile time workers) spread p body source target)) (λ o. length o.out ≤ 16) (omega arith)
      (frame-most s (given_of cfg profile time workers) spread p body source target)

  -- a frame that is sent back changes nothing and tells nothing
  pub frame-back-leaves :
      ((frame_answer s cfg profile time workers spread p body source target).number ≡ 0 → ⊥)
      → ((frame_answer s cfg profile time workers spread p body source target).state ≡ s)
      × ((frame_target s cfg profile time workers spread p body source target ≡ target)
      × ((frame_answer s cfg profile time workers spread p body source target).out ≡ []))
  unfolding frame_answer frame_target
  frame-back-leaves h =
      let r = frame_refused s cfg profile spread p.slot p.tag in
      let f = frame_of s (given_of cfg profile time workers) spread p body source target in
      let e = by_nonzero r s (heard f) refl h in (
        ap (λ (o : Outcome). o.state) e,
        (ap (λ b. pick b f.target target) (ne_eqb r.number 0 (λ z. h (ap (λ (o : Outcome). o.number) (by-taken r s (heard f) z)))), ap (λ (o : Outcome). o.out) e),
      )
