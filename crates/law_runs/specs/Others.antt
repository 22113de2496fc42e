-- The calls of a run that are no polls, each with its laws; notices are in Notices.antt. The steps are the
-- definitions that the calls' own promises name.
use Rattle.std.specs.Prelude.{ℕ, zero, suc, Bool, false, ◌≡◌, refl, List, ℤ}
use Rattle.std.proofs.Common.{true≢false, ap, arith}
use Rattle.std.proofs.Math.Option.{Option, none}
use Rattle.settings.specs.declared.Config.{Config}
use Rattle.state.specs.declared.Profile.{Profile}
use Rattle.state.specs.Stands.{stands}
use Rattle.events.specs.Events.{Event}
use Rattle.law_refusal.specs.Sound.{sound, sounding}
use Rattle.answer.specs.Outcome.{Outcome}
use Rattle.frame_slots.specs.declared.FrameProof.{FrameProof}
use Rattle.frame.specs.Frames.{frame_answer, frame_target}
use Rattle.frame.proofs.Exact.{frame-exact}
use Rattle.call_reply.specs.declared.StartReply.{StartReply}
use Rattle.call_reply.specs.Reply.{reply_of}
use Rattle.call_reply.proofs.Exact.{reply_exact}
use Rattle.call_sent.specs.Told.{told_of}
use Rattle.call_sent.proofs.Exact.{told_exact}
use Rattle.law_frame.specs.Frames.{frame-accepted, frame-ages}
use Rattle.law_reply.specs.Reply.{reply-accepted, reply-ages}
use Rattle.law_reply.specs.Told.{told-kept, told-ages}
use Rattle.law_alike.specs.Whole.{alike, stood}
use Rattle.law_agree.specs.Outcomes.{Outcomes}
use Rattle.law_agree.specs.Frames.{frame-alike, target-alike}
use Rattle.law_agree.specs.Replies.{reply-alike, told-alike}
use Rattle.law_runs.specs.Runs.{goes_on}
use Rattle.law_runs.specs.Served.{frame, reply, sent, Buffers, no_buffers, answer_of, step_of, Served}

-- sent back: its number is not 0
pub refused : (n place : ℕ) (out : List Event) (c : Option ℕ) → goes_on (answer_of n place out c) ≡ false → n ≡ 0 → ⊥
refused zero place out c q e = absurd (true≢false q)
refused (suc n) place out c q e = omega arith

-- an answer by its parts
pub said : {n m p q : ℕ} {l k : List Event} {c d : Option ℕ} → n ≡ m → p ≡ q → l ≡ k → c ≡ d → answer_of n p l c ≡ answer_of m q k d
said e f g h = cc

-- what stands decides a step
pub decided : {a b : Outcome} {x y : Buffers} → Outcomes a b → x ≡ y → (answer_of a.number a.place a.out none ≡ answer_of b.number b.place b.out none) × (x ≡ y) × (stands a.state ≡ stands b.state)
decided r e = (said r.number r.place r.out refl, e, (stood r.state).eq)

-- ---- a frame

module _ (cfg : Config) (p : Profile) (now : ℕ) (workers : Bool) (spread : ℤ) (proof : FrameProof) (body : ℕ) (source target : List ℕ) where
  -- it only reads its source
  abbrev buffers : List ℕ → Buffers
  buffers t = record { source = source; target = t }

  abbrev pub frame_served : Served
  frame_served =
      record {
        name = frame;
        at = now;
        given = buffers target;
        step = λ s. step_of (buffers (frame_target s cfg p now workers spread proof body source target)) none (frame_answer s cfg p now workers spread proof body source target);
        kept = λ s. frame-accepted s cfg p now workers spread proof body source target;
        ages = λ s t o. frame-ages s cfg p now workers spread proof body source target (sound s o) t;
        leaves =
            λ s q.
            let b = (frame-exact s cfg p now workers spread proof body source target).back (refused _ _ _ _ q) in
            (b.0, ap buffers b.1);
        one =
            λ s t e.
            let a = alike (record { eq = e }) in
            decided (frame-alike a cfg p now workers spread proof body source target) (ap buffers (target-alike a cfg p now workers spread proof body source target));
      }

-- ---- a start reply

module _ (cfg : Config) (p : Profile) (now : ℕ) (r : StartReply) where
  abbrev pub reply_served : Served
  reply_served =
      record {
        name = reply;
        at = now;
        given = no_buffers;
        step = λ s. step_of no_buffers none (reply_of s cfg p now r);
        kept = λ s. reply-accepted s cfg p now r;
        ages = λ s t o h. reply-ages s cfg p now r t;
        leaves = λ s q. ((reply_exact s cfg p now r).back (refused _ _ _ _ q), refl);
        one = λ s t e. decided (reply-alike (alike (record { eq = e })) cfg p now r) refl;
      }

-- ---- a told sent count

module _ (now count : ℕ) where
  abbrev pub sent_served : Served
  sent_served =
      record {
        name = sent;
        at = now;
        given = no_buffers;
        step = λ s. step_of no_buffers none (told_of s count);
        kept = λ s o. sounding (told_of s count).state (told-kept s count (sound s o));
        ages = λ s t o h. told-ages s count t;
        leaves = λ s q. ((told_exact s count).back (refused _ _ _ _ q), refl);
        one = λ s t e. decided (told-alike (alike (record { eq = e })) count) refl;
      }
