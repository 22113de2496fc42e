-- What hearing does to what the quiet time counts from: a frame of the current or the pending epoch, and of the
-- drained one with and without a revert.
use Rattle.std.specs.Prelude.{ℕ, Bool, ◌⊎◌, ◌≡◌, List, [], ◌∷◌, ◌++◌, ℤ}
use Rattle.std.proofs.Math.Bool.{true, false}
use Rattle.std.proofs.lemmas.Bool.{false≢true}
use Rattle.std.proofs.Common.{inl, inr, ⊎_elim, sym, ◌∙◌}
use Rattle.std.proofs.Math.Path.{refl}
use Rattle.time.specs.Pick.{and, by-test, of_choice}
use Rattle.epoch.specs.declared.Epoch.{Epoch}
use Rattle.cycle.specs.declared.Attempt.{Attempt}
use Rattle.cycle.specs.Kind.{is_init, is_pend_i, is_pend_r}
use Rattle.state.specs.declared.State.{State}
use Rattle.state.specs.declared.Given.{Given}
use Rattle.state.specs.Parts.{put_mem}
use Rattle.events.specs.Events.{Event, Reverted, Prompt, Unbind, Release, Abandoned, no_rungs}
use Rattle.refusal.specs.Refusal.{any_of}
use Rattle.retire.specs.Retire.{only, abandon_out}
use Rattle.cutover.specs.Cutover.{heard_frame, remembered, cutover_of}
use Rattle.frame_evidence.specs.Evidence.{EpochStep, blind_to, prompt_due, prompted_now, heard_any, only_assumed, confirming}
use Rattle.frame_hear.specs.Hear.{HearStep, hearing, heard_current, revert_of, assumed_heard, confirming_heard, heard_previous}
use Rattle.frame_slots.specs.declared.FrameProof.{FrameProof}
use Rattle.frame_slots.specs.Frame.{pending_frame}
use Rattle.law_status.specs.Counts.{Same, HeardAt, Began}
use Rattle.law_status.proofs.Counts.{same_self, same_then}
use Rattle.law_status.specs.Hearing.{Went, reverts}

-- ---- the current and the pending epoch

pub current-heard : (s : State) (g : Given) (k probe : Bool) → s.cur.some ≡ true → HeardAt (heard_current s g k probe).state g.now
unfolding heard_current hearing heard_frame
current-heard s g k probe h =
    by-test (λ (x : HearStep). HeardAt x.state g.now) s.cur.some (hearing s g k (blind_to s.cur.ep g.profile.at_proof probe)) _
    (λ e. record { held = refl; heard = refl })
    (λ e. absurd (false≢true (sym e ∙ h)))

-- its frame makes it current
pub pending-heard : (s : State) (g : Given) (spread : ℤ) (p : FrameProof) (body : ℕ) (source target : List ℕ) → HeardAt (pending_frame s g spread p body source target).state g.now
unfolding pending_frame cutover_of remembered heard_frame
pending-heard s g spread p body source target = record { held = refl; heard = refl }

module _ (s : State) (g : Given) where
  -- a revert's own events
  abbrev told : List Event
  told = Reverted s.cur.ep.tag ∷ Prompt s.cur.ep.tag no_rungs ∷ Prompt s.drain.ep.tag no_rungs ∷ []

  told-reverts : reverts told ≡ true
  unfolding any_of
  told-reverts = refl

  -- behind those of an attempt that is given up
  given-up-reverts : (a : Attempt) (cause : ℕ) → reverts (abandon_out a cause ++ told) ≡ true
  unfolding abandon_out any_of
  given-up-reverts a cause = under a.lease.some
    where
      under : (b : Bool) → reverts ((only b (Unbind a.transport a.lease.index) ++ (only b (Release a.lease.index) ++ (Abandoned cause ∷ []))) ++ told) ≡ true
      under true = refl
      under false = refl

  reverted : Began s (revert_of s g.cfg g.now).state s.drain.ep.started
  unfolding revert_of
  reverted = record { held = refl; heard = refl; started = refl }

  assumed_went : Went s (assumed_heard s g).out (assumed_heard s g).state
  unfolding assumed_heard revert_of any_of
  assumed_went =
      of_choice (λ (x : HearStep). Went s x.out x.state) (is_init s.cycle.kind) _ _ (inr (given-up-reverts s.cycle.init 6, reverted))
      (of_choice (λ (x : HearStep). Went s x.out x.state) (is_pend_i s.cycle.kind) _ _ (inl (refl, record { held = refl; heard = refl; started = refl }))
      (of_choice (λ (x : HearStep). Went s x.out x.state) (is_pend_r s.cycle.kind) _ (revert_of s g.cfg g.now) (inl (refl, same_self s))
      (inr (told-reverts, reverted))))

-- a prompt moves no start
prompted-start : (e : Epoch) (asks : Bool) (now : ℕ) → (reverts (prompted_now e asks now).out ≡ false) × ((prompted_now e asks now).ep.started ≡ e.started)
unfolding prompted_now any_of
prompted-start e asks now =
    of_choice (λ (x : EpochStep). (reverts x.out ≡ false) × (x.ep.started ≡ e.started)) (and asks (prompt_due e.prompted now)) _ _ (refl, refl) (refl, refl)

confirming_went : (s : State) (g : Given) → Went s (confirming_heard s g).out (confirming_heard s g).state
unfolding confirming_heard
confirming_went s g =
    let p = prompted-start s.cur.ep (confirming s.cur g.profile.at_proof g.cfg g.now) g.now in
    inl (p.0, record { held = refl; heard = refl; started = p.1 })

-- behind a change that moves none of it
pub went_after : {s m x : State} (out : List Event) → Same s m → m.drain.ep.started ≡ s.drain.ep.started → Went m out x → Went s out x
went_after out a d w =
    ⊎_elim (λ p. inl (p.0, same_then a p.1))
    (λ p. inr (p.0, record { held = p.1.held; heard = p.1.heard ∙ a.heard; started = p.1.started ∙ d })) w

-- the frame's instant is not one at which a current epoch was heard
pub previous_went : (s : State) (g : Given) → Went s (heard_previous s g).out (heard_previous s g).state
unfolding heard_previous heard_any
previous_went s g =
    let m : State = put_mem s (heard_any s.mem g.now) in
    let a : Same s m = record { held = refl; heard = refl; started = refl } in
    of_choice (λ (x : HearStep). Went s x.out x.state) (only_assumed s.cur) (assumed_heard m g) (confirming_heard m g)
    (went_after (assumed_heard m g).out a refl (assumed_went m g)) (went_after (confirming_heard m g).out a refl (confirming_went m g))
