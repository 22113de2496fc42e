-- What the code of a frame promises, on its two ways out: the answer with the words of the log, and the
-- target's bytes.
use Rattle.std.specs.Prelude.{ℕ, Bool, ◌≡◌, List, ℤ, length}
use Rattle.std.proofs.Math.Path.{refl, sym}
use Rattle.std.proofs.Common.{◌∙◌, ap, arith, eq-eqb, ne_eqb}
use Rattle.time.specs.Pick.{pick}
use Rattle.settings.specs.declared.Config.{Config}
use Rattle.state.specs.declared.State.{State}
use Rattle.state.specs.declared.Profile.{Profile}
use Rattle.events.specs.Log.{Appends}
use Rattle.refusal.specs.Refused.{Refused}
use Rattle.answer.specs.declared.Answer.{Answer}
use Rattle.answer.proofs.Laws.{written_all}
use Rattle.answer.specs.Answers.{Answers, back_with, taken_with}
use Rattle.answer.proofs.Answers.{answers_back, answers-on}
use Rattle.frame_hear.specs.Hear.{given_of}
use Rattle.frame_slots.specs.declared.FrameProof.{FrameProof}
use Rattle.frame_slots.specs.Frame.{FrameStep, frame_of}
use Rattle.frame_slots.specs.Most.{frame-most}
use Rattle.frame.specs.Exact.{FrameExact}
use Rattle.frame.proofs.Exact.{frame-exact}
use Rattle.frame.specs.Frames.{frame_refused, heard, frame_answer, frame_target}

module _ (s : State) (cfg : Config) (profile : Profile) (time : ℕ) (workers : Bool) (spread : ℤ) (p : FrameProof) (body : ℕ) (source target : List ℕ) where
  abbrev f : FrameStep
  f = frame_of s (given_of cfg profile time workers) spread p body source target

  abbrev r : Refused
  r = frame_refused s cfg profile spread p.slot p.tag

  -- what `frame` promises
  abbrev pub FramePromise : Answer → List ℕ → List ℕ → List ℕ → Type 0
  FramePromise a ws ws' after =
      Answers (frame_answer s cfg profile time workers spread p body source target) a ws ws'
      × ((after ≡ frame_target s cfg profile time workers spread p body source target)
      × FrameExact s cfg profile spread p target (frame_answer s cfg profile time workers spread p body source target) (frame_target s cfg profile time workers spread p body source target))

  module _ (back : Refused) (b : back ≡ r) (a : Answer) where
    -- sent back
    pub frame_back : (back.number ≡ 0 → ⊥) → a ≡ back_with back s → (ws : List ℕ) → FramePromise a ws ws target
    unfolding frame_answer frame_target
    frame_back n e ws = (
      answers_back r s (heard f) back b a n e ws,
      (
        sym (ap (λ q. pick q f.target target) (ne_eqb r.number 0 (λ z. n (ap (λ (q : Refused). q.number) b ∙ z)))),
        frame-exact s cfg profile time workers spread p body source target,
      ),
    )

    -- accepted
    pub frame_on :
        back.number ≡ 0 → (left : State) (len : ℕ) → a ≡ taken_with left len 0 → left ≡ f.state
        → (ws ws' : List ℕ) → length ws ≡ 768 → Appends f.out 0 ws len ws'
        → (after : List ℕ) → after ≡ f.target
        → FramePromise a ws ws' after
    unfolding frame_answer frame_target
    frame_on z left len e h ws ws' k w after t = (
      answers-on r s (heard f) back b a z left len 0 e refl refl h refl ws ws'
          (written_all 0 f.out len ws ws' k (omega (arith, frame-most s (given_of cfg profile time workers) spread p body source target)) w (λ n. absurd (n refl))),
      (
        t ∙ sym (ap (λ q. pick q f.target target) (eq-eqb r.number 0 (ap (λ (q : Refused). q.number) (sym b) ∙ z))),
        frame-exact s cfg profile time workers spread p body source target,
      ),
    )
