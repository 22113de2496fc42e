-- A frame: its answer, its bytes and what it leaves are decided by what stands.
use Rattle.std.specs.Prelude.{ℕ, Bool, true, not, ◌≡◌, List, [], ◌∷◌, ◌++◌, ℤ}
use Rattle.std.proofs.lemmas.Bool.{false≢true}
use Rattle.std.proofs.Math.Path.{refl, ap, ap₂}
use Rattle.std.proofs.Common.{sym, ◌∙◌}
use Rattle.std.proofs.Math.Dec.{eqb}
use Rattle.time.specs.Pick.{pick}
use Rattle.time.specs.Time.{at}
use Rattle.settings.specs.declared.Config.{Config}
use Rattle.epoch.specs.declared.Epoch.{Epoch}
use Rattle.cycle.specs.declared.Cycle.{Cycle}
use Rattle.cycle.specs.Kind.{is_pend_r}
use Rattle.state.specs.declared.State.{State}
use Rattle.state.specs.declared.Profile.{Profile}
use Rattle.state.specs.declared.Given.{Given}
use Rattle.state.specs.Stands.{some, when_view, epoch_view}
use Rattle.events.specs.Events.{Ended, Mark}
use Rattle.refusal.specs.Refused.{Refused}
use Rattle.refusal.specs.Refusal.{Test, first, by, numbered, accepted, spread_bad, given_tests, state_tests, frame_tests}
use Rattle.law_refusal.specs.Sound.{Sound}
use Rattle.time.specs.Pick.{and_left}
use Rattle.frame_deliver.specs.Deliver.{deliver_out}
use Rattle.frame_hear.specs.Hear.{given_of}
use Rattle.frame_slots.specs.declared.FrameProof.{FrameProof}
use Rattle.frame_slots.specs.Frame.{FrameStep, pending_tag, slot_tag, ended_out, put_k, pend_of, pending_frame, current_frame, previous_frame, slot_frame, frame_of}
use Rattle.frame.specs.Frames.{slot_empty, other_tag, heard_tests, frame_refused, frame_answer, frame_target}
use Rattle.law_frame.specs.Frames.{pending_role, slot-pending, slot_previous_lem, taken-held}
use Rattle.law_alike.specs.Optional.{Same, when, picked, related, some-when}
use Rattle.law_alike.specs.Parts.{AlikeEpoch, epoch_fields}
use Rattle.law_alike.specs.Cycle.{AlikeCycle, cycle_fields}
use Rattle.law_alike.specs.Whole.{Alike, cur-some, cur-ep, drain-some, drain_fields}
use Rattle.law_alike.specs.Refusals.{frame-tests}
use Rattle.law_agree.specs.Outcomes.{Outcomes, outcome-alike}
use Rattle.law_agree.specs.Rows.{anded}
use Rattle.law_agree.specs.Cutover.{AlikePend, cutover-alike}
use Rattle.law_agree.specs.Hear.{heard-current, heard_previous_lem}
use Rattle.law_agree.specs.Taken.{taken-sound}

-- ---- refusals 8 and 9

tag-when : {b c : Bool} {x y : ℕ} → b ≡ c → (b ≡ true → x ≡ y) → Same when_view (record { some = b; at = x }) (record { some = c; at = y })
tag-when e f = record { eq = picked e (λ q. ap some (f q)) (λ _. refl) }

pending-tag : {c d : Cycle} → AlikeCycle c d → Same when_view (pending_tag c) (pending_tag d)
unfolding pending_tag
pending-tag h =
    related (Same when_view) h.owns (λ q. record { eq = ap some (epoch_fields (h.pendi q).ep).tag })
    (λ _. related (Same when_view) h.peers (λ q. record { eq = ap some (epoch_fields (h.pendr q).ep).tag }) (λ _. record { eq = refl }))

slot-tag : {s t : State} → Alike s t → (slot : ℕ) → Same when_view (slot_tag s slot) (slot_tag t slot)
unfolding slot_tag
slot-tag a slot =
    related (Same when_view) {p = eqb slot 0} {q = eqb slot 0} refl (λ _. tag-when (cur-some a.cur) (λ q. (cur-ep a.cur q).tag))
    (λ _. related (Same when_view) {p = eqb slot 1} {q = eqb slot 1} refl (λ _. pending-tag (cycle_fields a.cycle))
    (λ _. related (Same when_view) {p = eqb slot 2} {q = eqb slot 2} refl (λ _. tag-when (drain-some a.drain) (λ q. (drain_fields a.drain q).ep.tag)) (λ _. record { eq = refl })))

first_tail : (l m n : List Test) → first m ≡ first n → first (l ++ m) ≡ first (l ++ n)
unfolding first
first_tail [] m n e = e
first_tail (t ∷ l) m n e = ap (λ r. pick t.back t.answer r) (first_tail l m n e)

module _ {s t : State} (a : Alike s t) (cfg : Config) (p : Profile) (spread : ℤ) (slot tag : ℕ) where
  slot-tests : first (by 8 (slot_empty s slot) ∷ by 9 (other_tag s slot tag) ∷ []) ≡ first (by 8 (slot_empty t slot) ∷ by 9 (other_tag t slot tag) ∷ [])
  unfolding first
  slot-tests = when (λ b n. pick (not b) (numbered 8) (pick (not (eqb n tag)) (numbered 9) accepted)) (λ u v. refl) (slot-tag a slot)

  refused-alike : frame_refused s cfg p spread slot tag ≡ frame_refused t cfg p spread slot tag
  unfolding frame_refused heard_tests
  refused-alike =
      first_tail (frame_tests s cfg p spread) _ _ slot-tests
      ∙ ap (λ l. first (l ++ (by 8 (slot_empty t slot) ∷ by 9 (other_tag t slot tag) ∷ []))) (frame-tests a cfg p spread)

frame-sound : (s : State) (cfg : Config) (p : Profile) (spread : ℤ) (slot tag : ℕ) → eqb (frame_refused s cfg p spread slot tag).number 0 ≡ true → Sound s
unfolding frame_refused heard_tests frame_tests given_tests state_tests
frame-sound s cfg p spread slot tag e =
    taken-sound s cfg p (by 7 (spread_bad cfg.jitter spread) ∷ by 8 (slot_empty s slot) ∷ by 9 (other_tag s slot tag) ∷ []) e

-- ---- the slots

pub record FrameSteps (a b : FrameStep) : Type 0 where
  pub state : Alike a.state b.state
  pub target : a.target ≡ b.target
  pub out : a.out ≡ b.out

put-k : {x y : Epoch} → AlikeEpoch x y → (k : Bool) → Same epoch_view (put_k x k) (put_k y k)
unfolding epoch_view
put-k h k = record { eq = cc }

module _ {c d : Cycle} (h : AlikeCycle c d) where
  pend_of_lem : (pending_tag c).some ≡ true → (k : Bool) → AlikePend (pend_of c k) (pend_of d k)
  unfolding pend_of
  pend_of_lem e k =
      related AlikePend h.peers
      (λ q. let f = h.pendr q in record { ep = put-k (epoch_fields f.ep) k; restart = f.restart; fin = record { eq = refl } })
      (λ n. let f = h.pendi (pending_role c e (λ i. i) (λ r. absurd (false≢true (sym n ∙ r)))) in record { ep = f.ep; restart = f.restart; fin = f.fin })

  ended-out : ended_out c ≡ ended_out d
  unfolding ended_out
  ended-out =
      picked (anded h.peers (λ q. some-when (h.pendr q).answer))
      (λ r. ap (λ n. Ended n ∷ []) (epoch_fields (h.pendr (and_left (is_pend_r c.kind) c.pendr.answer.some r)).ep).tag) (λ _. refl)

module _ {s t : State} (a : Alike s t) (o : Sound s) (g : Given) (spread : ℤ) (p : FrameProof) (body : ℕ) (source target : List ℕ) where
  pending-frame : (pending_tag s.cycle).some ≡ true → FrameSteps (pending_frame s g spread p body source target) (pending_frame t g spread p body source target)
  unfolding pending_frame
  pending-frame e =
      let c = cycle_fields a.cycle in
      let h = pend_of_lem c e p.k in
      let r = cutover-alike a (pending_role s.cycle e o.pendi-led o.pendr-led) g spread h 1 p.k in
      record {
        state = r.state;
        target = refl;
        out = ap₂ (λ l m. l ++ m) (ended-out c) (ap₂ (λ l n. l ++ deliver_out 0 n body p.len g.profile.floor source target) r.out (epoch_fields h.ep).tag);
      }

  current-frame : FrameSteps (current_frame s g p body source target) (current_frame t g p body source target)
  unfolding current_frame
  current-frame =
      let r = heard-current a g p.k p.probe in
      record { state = r.state; target = refl; out = ap (λ l. deliver_out 0 p.tag body p.len g.profile.floor source target ++ l) r.out }

  previous_frame_lem : s.drain.some ≡ true → FrameSteps (previous_frame s g p body source target) (previous_frame t g p body source target)
  unfolding previous_frame
  previous_frame_lem d =
      let r = heard_previous_lem a (o.drain-led d) d g in
      record { state = r.state; target = refl; out = ap (λ l. deliver_out 2 p.tag body p.len g.profile.floor source target ++ l) r.out }

  slot-frame : (slot_tag s p.slot).some ≡ true → FrameSteps (slot_frame s g spread p body source target) (slot_frame t g spread p body source target)
  unfolding slot_frame
  slot-frame h =
      related FrameSteps {p = eqb p.slot 1} {q = eqb p.slot 1} refl (λ e. pending-frame (slot-pending s p.slot e h))
      (λ n. related FrameSteps {p = eqb p.slot 0} {q = eqb p.slot 0} refl (λ _. current-frame) (λ m. previous_frame_lem (slot_previous_lem s p.slot n m h)))

  frame_of_lem : (slot_tag s p.slot).some ≡ true → FrameSteps (frame_of s g spread p body source target) (frame_of t g spread p body source target)
  unfolding frame_of
  frame_of_lem h = let r = slot-frame h in record { state = r.state; target = r.target; out = ap (λ l. Mark p.tag p.counter ∷ l) r.out }

-- ---- the call

module _
    {s t : State}
    (a : Alike s t)
    (cfg : Config) (profile : Profile) (time : ℕ) (workers : Bool) (spread : ℤ) (p : FrameProof) (body : ℕ) (source target : List ℕ)
  where
    accepted-alike :
        eqb (frame_refused s cfg profile spread p.slot p.tag).number 0 ≡ true
        → FrameSteps (frame_of s (given_of cfg profile time workers) spread p body source target) (frame_of t (given_of cfg profile time workers) spread p body source target)
    accepted-alike q =
        frame_of_lem a (frame-sound s cfg profile spread p.slot p.tag q) (given_of cfg profile time workers) spread p body source target (taken-held s cfg profile spread p.slot p.tag q)

    pub frame-alike : Outcomes (frame_answer s cfg profile time workers spread p body source target) (frame_answer t cfg profile time workers spread p body source target)
    unfolding frame_answer
    frame-alike =
        outcome-alike a (refused-alike a cfg profile spread p.slot p.tag)
        (λ q. let f = accepted-alike q in record { number = refl; place = refl; state = f.state; written = refl; out = f.out; count = refl })

    pub target-alike : frame_target s cfg profile time workers spread p body source target ≡ frame_target t cfg profile time workers spread p body source target
    unfolding frame_target
    target-alike =
        picked (ap (λ (r : Refused). eqb r.number 0) (refused-alike a cfg profile spread p.slot p.tag)) (λ q. (accepted-alike q).target) (λ _. refl)
