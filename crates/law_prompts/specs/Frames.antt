-- The events of a frame: what holds, by the state that the frame leaves, of each event that is neither a
-- send nor a prompt, and of a prompt from no ladder that names the current epoch or the pending one which
-- waits for evidence, holds of every event of the frame.
--
-- So no prompt of a frame is one that would be withdrawn, and each carries 0 for the rungs taken.
use Rattle.std.specs.Prelude.{ℕ, Bool, true, ◌≡◌, refl, List, eqb, ℤ}
use Rattle.std.proofs.Common.{ap, ap₂}
use Rattle.time.specs.declared.When.{When}
use Rattle.time.specs.Pick.{of_choice}
use Rattle.time.specs.Time.{at}
use Rattle.settings.specs.declared.Config.{Config}
use Rattle.epoch.specs.declared.Epoch.{Epoch}
use Rattle.cycle.specs.Kind.{is_init, is_pend_i, is_pend_r}
use Rattle.state.specs.declared.State.{State}
use Rattle.state.specs.declared.Profile.{Profile}
use Rattle.state.specs.declared.Given.{Given}
use Rattle.state.specs.Parts.{put_mem}
use Rattle.events.specs.Events.{Event, Prompt, no_rungs}
use Rattle.events.specs.Withdraw.{given, stays}
use Rattle.time.specs.Pick.{and, and_left}
use Rattle.cutover.specs.Cutover.{cutover_of}
use Rattle.poll_close.specs.Closing.{waits_for, sealing}
use Rattle.frame_evidence.specs.Evidence.{EpochStep, blind_to, prompt_due, heard_first, moved_first, prompted_now, heard_epoch, unassumed, reverted_pend, heard_any, only_assumed, confirming}
use Rattle.frame_hear.specs.Hear.{given_of, HearStep, hearing, heard_current, revert_of, assumed_heard, confirming_heard, heard_previous}
use Rattle.frame_slots.specs.declared.FrameProof.{FrameProof}
use Rattle.frame_slots.specs.Frame.{FrameStep, pend_of, pending_frame, current_frame, previous_frame, slot_frame, frame_of}
use Rattle.answer.specs.Outcome.{Outcome}
use Rattle.answer.proofs.Laws.{by-either}
use Rattle.frame.specs.Frames.{frame_refused, heard, frame_answer}
use Rattle.law_prompts.specs.Every.{Every, Others, every-none, every-both, every_more, abandoned-every, ended-every, delivered_every, given-up-every, announced-every, prompted-every}
use Rattle.law_prompts.specs.Stays.{others-stay, current-stays, pending-stays}

-- the current epoch's tag
abbrev pub current : State → When
current s = given s.cur.some s.cur.ep.tag

-- the tag of the pending epoch that waits for evidence
abbrev pub waiting : State → When
waiting s = given (waits_for s.cycle.kind s.cycle.pendi.wait) s.cycle.pendi.ep.tag

-- what is asked of a test of events by the state that is left
pub record Fits (p : State → Event → Bool) : Type 0 where
  pub others : (s : State) → Others (p s)
  pub under-current : (s : State) (tag : ℕ) → current s ≡ at tag → p s (Prompt tag no_rungs) ≡ true
  pub under-pending : (s : State) (tag : ℕ) → waiting s ≡ at tag → p s (Prompt tag no_rungs) ≡ true

-- a prompt leaves the epoch's tag
prompted-tag : (e : Epoch) (asks : Bool) (now : ℕ) → (prompted_now e asks now).ep.tag ≡ e.tag
unfolding prompted_now
prompted-tag e asks now = of_choice (λ (t : EpochStep). t.ep.tag ≡ e.tag) (and asks (prompt_due e.prompted now)) _ _ refl refl

module _ (p : State → Event → Bool) (f : Fits p) where
  -- of every event, by the state that is left
  abbrev pub Holds : State → List Event → Type 0
  Holds s l = Every (p s) l

  abbrev pub HearHolds : HearStep → Type 0
  HearHolds t = Holds t.state t.out

  abbrev FrameHolds : FrameStep → Type 0
  FrameHolds t = Holds t.state t.out

  -- ---- hearing

  hearing-holds : (s : State) (g : Given) (k blind : Bool) → HearHolds (hearing s g k blind)
  unfolding hearing heard_epoch
  hearing-holds s g k blind =
      let e = moved_first (heard_first s.cur.ep g.now) blind g.now in
      prompted-every _ (f.others _) e blind g.now (λ q. f.under-current _ e.tag (ap at (prompted-tag e blind g.now)))

  pub current-holds : (s : State) (g : Given) (k probe : Bool) → HearHolds (heard_current s g k probe)
  unfolding heard_current
  current-holds s g k probe =
      of_choice HearHolds s.cur.some _ _
      (hearing-holds s g k (blind_to s.cur.ep g.profile.at_proof probe))
      (every-none _)

  -- the assumed epoch is pending again and waits for evidence, the drained one is current again
  revert-holds : (s : State) (cfg : Config) (now : ℕ) → HearHolds (revert_of s cfg now)
  unfolding revert_of reverted_pend unassumed waits_for
  revert-holds s cfg now =
      every_more _ _ _ (f.others _ _ refl)
      (every_more _ _ _ (f.under-pending _ s.cur.ep.tag refl)
      (every_more _ _ _ (f.under-current _ s.drain.ep.tag refl) (every-none _)))

  assumed_holds : (s : State) (g : Given) → HearHolds (assumed_heard s g)
  unfolding assumed_heard
  assumed_holds s g =
      of_choice HearHolds (is_init s.cycle.kind) _ _
      (every-both _ _ _ (abandoned-every _ (f.others _) s.cycle.init 6) (revert-holds s g.cfg g.now))
      (of_choice HearHolds (is_pend_i s.cycle.kind) _ _ (every-none _)
      (of_choice HearHolds (is_pend_r s.cycle.kind) _ _ (every-none _) (revert-holds s g.cfg g.now)))

  -- a prompt while confirming is under a current epoch that is held
  confirming-holds : (s : State) (g : Given) → HearHolds (confirming_heard s g)
  unfolding confirming_heard confirming
  confirming-holds s g =
      let asks = confirming s.cur g.profile.at_proof g.cfg g.now in
      prompted-every _ (f.others _) s.cur.ep asks g.now
      (λ q. f.under-current _ s.cur.ep.tag (ap₂ given (and_left s.cur.some _ (and_left _ _ q)) (prompted-tag s.cur.ep asks g.now)))

  pub previous_holds : (s : State) (g : Given) → HearHolds (heard_previous s g)
  unfolding heard_previous
  previous_holds s g =
      let t = put_mem s (heard_any s.mem g.now) in
      of_choice HearHolds (only_assumed s.cur) _ _ (assumed_holds t g) (confirming-holds t g)

  -- ---- the whole

  module _ (s : State) (g : Given) (spread : ℤ) (q : FrameProof) (body : ℕ) (source target : List ℕ) where
    pending-frame-holds : FrameHolds (pending_frame s g spread q body source target)
    unfolding pending_frame cutover_of
    pending-frame-holds =
        every-both _ _ _ (ended-every _ (f.others _) s.cycle)
        (every-both _ _ _
        (every-both _ _ _ (given-up-every _ (f.others _) s.drain s.cur.ep (pend_of s.cycle q.k).restart) (announced-every _ (f.others _) _ _ _ _ _ (f.under-current _ _ refl)))
        (delivered_every _ (f.others _) _ _ _ _ _ _ _))

    slot-holds : FrameHolds (slot_frame s g spread q body source target)
    unfolding slot_frame current_frame previous_frame
    slot-holds =
        of_choice FrameHolds (eqb q.slot 1) _ _ pending-frame-holds
        (of_choice FrameHolds (eqb q.slot 0) _ _
        (every-both _ _ _ (delivered_every _ (f.others _) _ _ _ _ _ _ _) (current-holds s g q.k q.probe))
        (every-both _ _ _ (delivered_every _ (f.others _) _ _ _ _ _ _ _) (previous_holds s g)))

    frame_of_holds : FrameHolds (frame_of s g spread q body source target)
    unfolding frame_of
    frame_of_holds = every_more _ _ _ (f.others _ _ refl) slot-holds

  module _ (s : State) (cfg : Config) (profile : Profile) (time : ℕ) (workers : Bool) (spread : ℤ) (q : FrameProof) (body : ℕ) (source target : List ℕ) where
    abbrev frame_said : Outcome
    frame_said = frame_answer s cfg profile time workers spread q body source target

    pub frame-holds : Holds frame_said.state frame_said.out
    unfolding frame_answer
    frame-holds =
        by-either (frame_refused s cfg profile spread q.slot q.tag) s (heard (frame_of s (given_of cfg profile time workers) spread q body source target)) (λ o. Holds o.state o.out) (every-none _)
        (frame_of_holds s (given_of cfg profile time workers) spread q body source target)

-- ---- withdrawing

-- an event that stays, by the state that is left
abbrev pub staying : State → Event → Bool
staying s e = stays (current s) (waiting s) e

pub staying-fits : Fits staying
staying-fits =
    record {
      others = λ s. others-stay (current s) (waiting s);
      under-current = λ s tag e. current-stays (current s) (waiting s) tag no_rungs e;
      under-pending = λ s tag e. pending-stays (current s) (waiting s) tag no_rungs e;
    }

module _ (s : State) (cfg : Config) (profile : Profile) (time : ℕ) (workers : Bool) (spread : ℤ) (q : FrameProof) (body : ℕ) (source target : List ℕ) where
  abbrev answer : Outcome
  answer = frame_answer s cfg profile time workers spread q body source target

  -- to withdraw, by the state that a frame leaves, leaves its events as they are
  pub record FrameKeepsPrompts : Type 0 where
    pub frame_keeps_prompts : sealing answer.state answer.out ≡ answer.out
