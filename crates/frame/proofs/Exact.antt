-- A frame's number in document 01's words: accepted exactly where 1 to 9 pass, and each number
-- exactly where its sentence is the first to hold.
use Rattle.std.specs.Prelude.{ℕ, Bool, ◌↔◌, ◌≡◌, List, [], ◌∷◌, ℤ}
use Rattle.std.proofs.Math.Bool.{true, false}
use Rattle.std.proofs.Common.{inl, inr, arith}
use Rattle.std.proofs.Math.Logic.Iff
use Rattle.std.proofs.Math.Path.{refl}
use Rattle.time.specs.Pick.{pick}
use Rattle.settings.specs.declared.Config.{Config}
use Rattle.numbers.specs.Numbers.{refused_draw, refused_slot, refused_tag}
use Rattle.state.specs.declared.State.{State}
use Rattle.state.specs.declared.Profile.{Profile}
use Rattle.refusal.specs.Refusal.{any_of, spread_bad, Test, first, by, given_tests, state_tests, frame_tests, link_tests}
use Rattle.refusal.specs.First.{rising}
use Rattle.law_exact.specs.Reads.{reads_flag, reads_same, reads_not}
use Rattle.law_exact.specs.Words.{SpreadOk, SpreadOut, reads_spread}
use Rattle.law_exact.specs.Numbers.{Linked, any_place, above-pick, here, past, and_then, linked}
use Rattle.answer.proofs.Laws.{by_tests}
use Rattle.frame_hear.specs.Hear.{given_of}
use Rattle.frame_slots.specs.declared.FrameProof.{FrameProof}
use Rattle.frame_slots.specs.Frame.{slot_tag, frame_of}
use Rattle.frame.specs.Frames.{slot_empty, other_tag, heard_tests, frame_refused, heard, frame_answer, frame_target}
use Rattle.frame.proofs.Laws.{frame-back-leaves}
use Rattle.frame.specs.Exact.{FrameExact}

module _ (s : State) (cfg : Config) (profile : Profile) (spread : ℤ) (slot tag : ℕ) where
  -- 7 to 9
  abbrev own : List Test
  own = by refused_draw (spread_bad cfg.jitter spread) ∷ by refused_slot (slot_empty s slot) ∷ by refused_tag (other_tag s slot tag) ∷ []

  abbrev nine : ℕ
  nine = pick (other_tag s slot tag) 9 0

  abbrev eight : ℕ
  eight = pick (slot_empty s slot) 8 nine

  own-number : (first own).number ≡ pick (spread_bad cfg.jitter spread) 7 eight
  unfolding first
  own-number = under (spread_bad cfg.jitter spread) (slot_empty s slot) (other_tag s slot tag)
    where
      under : (a b c : Bool) → (first (by refused_draw a ∷ by refused_slot b ∷ by refused_tag c ∷ [])).number ≡ pick a 7 (pick b 8 (pick c 9 0))
      under true b c = refl
      under false true c = refl
      under false false true = refl
      under false false false = refl

  in_turn : Linked (frame_refused s cfg profile spread slot tag) (first own).number s cfg profile
  unfolding frame_refused heard_tests frame_tests link_tests given_tests state_tests rising any_place any_of
  in_turn = linked s cfg profile own refl refl

  is_seven : ((first own).number ≡ 7) ↔ SpreadOut cfg.jitter spread
  is_seven =
      rw own-number
      (here (reads_spread cfg.jitter spread) 7 eight (omega arith) (above-pick (slot_empty s slot) (omega arith) (above-pick (other_tag s slot tag) (omega arith) (inl refl))))

  past_seven : (m : ℕ) → (7 ≡ m → ⊥) → ((first own).number ≡ m) ↔ (SpreadOk cfg.jitter spread × (eight ≡ m))
  past_seven m n = rw own-number (past (reads_spread cfg.jitter spread) 7 eight m n)

  past-eight : (m : ℕ) → (8 ≡ m → ⊥) → (eight ≡ m) ↔ (((slot_tag s slot).some ≡ true) × (nine ≡ m))
  past-eight m n = past (reads_not (reads_flag (slot_tag s slot).some)) 8 nine m n

  is-eight : ((first own).number ≡ 8) ↔ (SpreadOk cfg.jitter spread × ((slot_tag s slot).some ≡ false))
  is-eight =
      and_then (past_seven 8 (λ e. omega arith))
      (here (reads_not (reads_flag (slot_tag s slot).some)) 8 nine (omega arith) (above-pick (other_tag s slot tag) (omega arith) (inl refl)))

  is-nine : ((first own).number ≡ 9) ↔ (SpreadOk cfg.jitter spread × (((slot_tag s slot).some ≡ true) × ((slot_tag s slot).at ≡ tag → ⊥)))
  is-nine =
      and_then (past_seven 9 (λ e. omega arith))
      (and_then (past-eight 9 (λ e. omega arith)) (here (reads_not (reads_same (slot_tag s slot).at tag)) 9 0 (omega arith) (inl refl)))

  is_none : ((first own).number ≡ 0) ↔ (SpreadOk cfg.jitter spread × (((slot_tag s slot).some ≡ true) × (((slot_tag s slot).at ≡ tag) × ◌≡◌ {A = ℕ} 0 0)))
  is_none =
      and_then (past_seven 0 (λ e. omega arith))
      (and_then (past-eight 0 (λ e. omega arith)) (past (reads_not (reads_same (slot_tag s slot).at tag)) 9 0 0 (λ e. omega arith)))

pub frame-exact :
    (s : State) (cfg : Config) (profile : Profile) (time : ℕ) (workers : Bool) (spread : ℤ) (p : FrameProof) (body : ℕ) (source target : List ℕ)
    → FrameExact s cfg profile spread p target (frame_answer s cfg profile time workers spread p body source target) (frame_target s cfg profile time workers spread p body source target)
unfolding frame_answer
frame-exact s cfg profile time workers spread p body source target =
    let r = frame_refused s cfg profile spread p.slot p.tag in
    let o = heard (frame_of s (given_of cfg profile time workers) spread p body source target) in
    let t = in_turn s cfg profile spread p.slot p.tag in
    let l = by_tests r s o (λ x. Linked x (first (own s cfg profile spread p.slot p.tag)).number s cfg profile) refl refl (λ z. t.place.none (λ e. omega arith)) t in
    record {
      accepted =
          Iff.trans (and_then (l.later 0 (inl refl)) (is_none s cfg profile spread p.slot p.tag)) (
            λ x. record { link = x.0; drawn = x.1.0; held = x.1.1.0; tag = x.1.1.1.0 },
            λ o. (o.link, (o.drawn, (o.held, (o.tag, refl)))),
          );
      given = l.given;
      state = l.state;
      draw = and_then (l.later 7 (inr (omega arith))) (is_seven s cfg profile spread p.slot p.tag);
      slot =
          Iff.trans (and_then (l.later 8 (inr (omega arith))) (is-eight s cfg profile spread p.slot p.tag))
          (λ x. (x.0, x.1.0, x.1.1), λ x. (x.0, (x.1, x.2)));
      tag =
          Iff.trans (and_then (l.later 9 (inr (omega arith))) (is-nine s cfg profile spread p.slot p.tag))
          (λ x. (x.0, x.1.0, x.1.1.0, x.1.1.1), λ x. (x.0, (x.1, (x.2, x.3))));
      place = l.place;
      back = λ h. let b = frame-back-leaves s cfg profile time workers spread p body source target h in (b.0, b.1.0, b.1.1);
    }
