-- Accepted calls leave accepted states, and starts stay early: a frame, in its slot and as a call.
use Rattle.std.specs.Prelude.{ℕ, ◌≤◌, Bool, true, false, ◌≡◌, refl, List, eqb, ℤ}
use Rattle.std.proofs.lemmas.Bool.{false≢true}
use Rattle.std.proofs.Common.{sym, ◌∙◌, ap, arith, eqb-true}
use Rattle.time.specs.Pick.{pick, by-test}
use Rattle.time.specs.Time.{none, at}
use Rattle.settings.specs.declared.Config.{Config}
use Rattle.numbers.specs.Numbers.{slot_current, slot_pending}
use Rattle.epoch.specs.Put.{drop_fin}
use Rattle.cycle.specs.declared.Cycle.{Cycle}
use Rattle.cycle.specs.Kind.{is_pend_i, is_pend_r}
use Rattle.state.specs.declared.State.{State}
use Rattle.state.specs.declared.Profile.{Profile}
use Rattle.state.specs.declared.Given.{Given}
use Rattle.refusal.specs.Refused.{Refused}
use Rattle.refusal.specs.Refusal.{numbered, before_frame, state_back}
use Rattle.law_refusal.specs.Sound.{Within, EpochSound, Sound, sound, sounding}
use Rattle.cutover.specs.declared.Pend.{Pend}
use Rattle.frame_hear.specs.Hear.{given_of}
use Rattle.frame_slots.specs.declared.FrameProof.{FrameProof}
use Rattle.frame_slots.specs.Frame.{FrameStep, pending_tag, slot_tag, frame_back, put_k, pend_of, pending_frame, current_frame, previous_frame, slot_frame, frame_of}
use Rattle.answer.proofs.Laws.{by-test as outcome_by-test}
use Rattle.frame.specs.Frames.{frame_refused, heard, frame_answer}
use Rattle.frame.proofs.Laws.{frame_refused_lem}
use Rattle.law_sound.specs.Cutover.{cut-sound}
use Rattle.law_early.specs.Early.{Early}
use Rattle.law_early.specs.Parts.{cut-early}
use Rattle.law_frame.specs.Hearing.{current-sound, current-early}
use Rattle.law_frame.specs.Revert.{previous_sound, previous_early}

-- ---- the slots

-- a pending epoch is held in one of two roles
pub pending_role : {A : Type 0} (c : Cycle) → (pending_tag c).some ≡ true → (is_pend_i c.kind ≡ true → A) → (is_pend_r c.kind ≡ true → A) → A
unfolding pending_tag
pending_role c h f g = under (is_pend_i c.kind) (is_pend_r c.kind) f g h
  where
    under : {A : Type 0} (i r : Bool) → (i ≡ true → A) → (r ≡ true → A) → (pick i (at c.pendi.ep.tag) (pick r (at c.pendr.ep.tag) none)).some ≡ true → A
    under true r f g h = f refl
    under false true f g h = g refl
    under false false f g h = absurd (false≢true h)

-- what a slot of that number holds
pub slot-pending : (s : State) (slot : ℕ) → eqb slot slot_pending ≡ true → (slot_tag s slot).some ≡ true → (pending_tag s.cycle).some ≡ true
unfolding slot_tag
slot-pending s slot e h = sym (ap (λ n. (slot_tag s n).some) (eqb-true slot 1 e)) ∙ h

pub slot_previous_lem : (s : State) (slot : ℕ) → eqb slot slot_pending ≡ false → eqb slot slot_current ≡ false → (slot_tag s slot).some ≡ true → s.drain.some ≡ true
unfolding slot_tag
slot_previous_lem s slot p q h = under (eqb slot 0) (eqb slot 1) (eqb slot 2) q p h
  where
    under : (a b c : Bool) → a ≡ false → b ≡ false → (pick a (record { some = s.cur.some; at = s.cur.ep.tag }) (pick b (pending_tag s.cycle) (pick c (record { some = s.drain.some; at = s.drain.ep.tag }) none))).some ≡ true → s.drain.some ≡ true
    under true b c q p h = absurd (false≢true (sym q))
    under false true c q p h = absurd (false≢true (sym p))
    under false false true q p h = h
    under false false false q p h = absurd (false≢true h)

-- ---- the pending slot: a cutover

-- what a cutover wants of the pending epoch
record Ready (s : State) (p : Pend) : Type 0 where
  ladders : EpochSound p.ep
  fin : p.fin.some ≡ true → Within p.fin.ladder.sched.len p.fin.ladder.next
  tag : eqb s.cur.ep.tag p.ep.tag ≡ false

module _ (s : State) (o : Sound s) (k : Bool) where
  peers-ready : is_pend_r s.cycle.kind ≡ true → Ready s (record { ep = put_k s.cycle.pendr.ep k; restart = s.cycle.pendr.restart; fin = drop_fin s.cycle.pendr.ep.fin })
  peers-ready r =
      let l = o.pendr-ladders r in
      record { ladders = record { fin = l.fin; elicit = l.elicit }; fin = λ q. absurd (false≢true q); tag = o.cur-pendr r }

  own-ready : is_pend_i s.cycle.kind ≡ true → Ready s (record { ep = s.cycle.pendi.ep; restart = s.cycle.pendi.restart; fin = s.cycle.pendi.fin })
  own-ready i = record { ladders = o.pendi-ladders i; fin = o.pendi-fin i; tag = o.cur-pendi i }

  ready : (pending_tag s.cycle).some ≡ true → Ready s (pend_of s.cycle k)
  unfolding pend_of
  ready h =
      by-test (Ready s) (is_pend_r s.cycle.kind) _ _ peers-ready
      (λ n. own-ready (pending_role s.cycle h (λ i. i) (λ r. absurd (false≢true (sym n ∙ r)))))

  led : (pending_tag s.cycle).some ≡ true → s.cur.some ≡ true
  led h = pending_role s.cycle h o.pendi-led o.pendr-led

-- ---- a frame that its slot accepts

module _ (s : State) (g : Given) (spread : ℤ) (p : FrameProof) (body : ℕ) (source target : List ℕ) (h : (slot_tag s p.slot).some ≡ true) (o : Sound s) where
  pending-sound : (pending_tag s.cycle).some ≡ true → Sound (pending_frame s g spread p body source target).state
  unfolding pending_frame
  pending-sound e =
      let r = ready s o p.k e in
      cut-sound s g spread (pend_of s.cycle p.k) 1 p.k o.count o.seqs r.ladders r.fin r.tag

  pending-early : (t : ℕ) → g.now ≤ t → Early s t → (pending_tag s.cycle).some ≡ true → Early (pending_frame s g spread p body source target).state t
  unfolding pending_frame
  pending-early t n y e = cut-early s g spread (pend_of s.cycle p.k) 1 p.k t y.link (y.current (led s o p.k e)) n

  current-frame-sound : Sound (current_frame s g p body source target).state
  unfolding current_frame
  current-frame-sound = current-sound s g p.k p.probe o

  current-frame-early : (t : ℕ) → Early s t → Early (current_frame s g p body source target).state t
  unfolding current_frame
  current-frame-early t y = current-early s g p.k p.probe t y

  previous_frame-sound : s.drain.some ≡ true → Sound (previous_frame s g p body source target).state
  unfolding previous_frame
  previous_frame-sound d = previous_sound s g d o

  previous_frame-early : (t : ℕ) → Early s t → s.drain.some ≡ true → Early (previous_frame s g p body source target).state t
  unfolding previous_frame
  previous_frame-early t y d = previous_early s g d t y

  pub frame-sound : Sound (frame_of s g spread p body source target).state
  unfolding frame_of slot_frame
  frame-sound =
      by-test (λ (x : FrameStep). Sound x.state) (eqb p.slot 1) (pending_frame s g spread p body source target) _
      (λ e. pending-sound (slot-pending s p.slot e h))
      (λ a. by-test (λ (x : FrameStep). Sound x.state) (eqb p.slot 0) (current_frame s g p body source target) (previous_frame s g p body source target)
      (λ e. current-frame-sound)
      (λ b. previous_frame-sound (slot_previous_lem s p.slot a b h)))

  pub frame-early : (t : ℕ) → g.now ≤ t → Early s t → Early (frame_of s g spread p body source target).state t
  unfolding frame_of slot_frame
  frame-early t n y =
      by-test (λ (x : FrameStep). Early x.state t) (eqb p.slot 1) (pending_frame s g spread p body source target) _
      (λ e. pending-early t n y (slot-pending s p.slot e h))
      (λ a. by-test (λ (x : FrameStep). Early x.state t) (eqb p.slot 0) (current_frame s g p body source target) (previous_frame s g p body source target)
      (λ e. current-frame-early t y)
      (λ b. previous_frame-early t y (slot_previous_lem s p.slot a b h)))

-- ---- the call: a frame is taken only where its slot holds an epoch

slot_held : (s : State) (slot tag : ℕ) → frame_back s slot tag ≡ 0 → (slot_tag s slot).some ≡ true
unfolding frame_back
slot_held s slot tag z = under (slot_tag s slot).some (eqb (slot_tag s slot).at tag) z
  where
    under : (a b : Bool) → ◌≡◌ {A = ℕ} (pick a (pick b 0 9) 8) 0 → a ≡ true
    under true b z = refl
    under false b z = absurd (omega (arith, z))

pub taken-held : (s : State) (cfg : Config) (profile : Profile) (spread : ℤ) (slot tag : ℕ) → eqb (frame_refused s cfg profile spread slot tag).number 0 ≡ true → (slot_tag s slot).some ≡ true
taken-held s cfg profile spread slot tag e =
    slot_held s slot tag (under (eqb (before_frame s cfg profile spread).number 0) refl (sym (ap (λ (r : Refused). r.number) (frame_refused_lem s cfg profile spread slot tag)) ∙ eqb-true (frame_refused s cfg profile spread slot tag).number 0 e))
  where
    under : (q : Bool) → eqb (before_frame s cfg profile spread).number 0 ≡ q → (pick q (numbered (frame_back s slot tag)) (before_frame s cfg profile spread)).number ≡ 0 → frame_back s slot tag ≡ 0
    under true p z = z
    under false p z = absurd (false≢true (sym p ∙ ap (λ n. eqb n 0) z))

module _ (s : State) (cfg : Config) (profile : Profile) (time : ℕ) (workers : Bool) (spread : ℤ) (p : FrameProof) (body : ℕ) (source target : List ℕ) (o : Sound s) where
  -- a frame, refused or not, leaves an accepted state accepted
  pub frame-kept : Sound (frame_answer s cfg profile time workers spread p body source target).state
  unfolding frame_answer
  frame-kept =
      outcome_by-test (frame_refused s cfg profile spread p.slot p.tag) s (heard (frame_of s (given_of cfg profile time workers) spread p body source target)) (λ a. Sound a.state) o
      (λ e. frame-sound s (given_of cfg profile time workers) spread p body source target (taken-held s cfg profile spread p.slot p.tag e) o)

  -- and at an instant that is not after t it moves no start past t
  pub frame-ages : (t : ℕ) → time ≤ t → Early s t → Early (frame_answer s cfg profile time workers spread p body source target).state t
  unfolding frame_answer given_of
  frame-ages t n y =
      outcome_by-test (frame_refused s cfg profile spread p.slot p.tag) s (heard (frame_of s (given_of cfg profile time workers) spread p body source target)) (λ a. Early a.state t) y
      (λ e. frame-early s (given_of cfg profile time workers) spread p body source target (taken-held s cfg profile spread p.slot p.tag e) o t n y)

pub frame-accepted : (s : State) (cfg : Config) (profile : Profile) (time : ℕ) (workers : Bool) (spread : ℤ) (p : FrameProof) (body : ℕ) (source target : List ℕ) → state_back s ≡ 0 → state_back (frame_answer s cfg profile time workers spread p body source target).state ≡ 0
frame-accepted s cfg profile time workers spread p body source target e =
    sounding (frame_answer s cfg profile time workers spread p body source target).state (frame-kept s cfg profile time workers spread p body source target (sound s e))
