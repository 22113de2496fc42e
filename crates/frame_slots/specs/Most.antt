-- How many events a frame has at most.
use Rattle.std.specs.Prelude.{ℕ, ◌≤◌, Bool, true, false, List, eqb, ℤ, length}
use Rattle.std.proofs.Common.{arith, length-append}
use Rattle.time.specs.Pick.{pick}
use Rattle.cycle.specs.Kind.{is_pend_r}
use Rattle.state.specs.declared.State.{State}
use Rattle.state.specs.declared.Given.{Given}
use Rattle.events.specs.Events.{Event, Ended}
use Rattle.retire.proofs.Most.{only-most}
use Rattle.time.specs.Pick.{and}
use Rattle.cutover.specs.Most.{cutover-most}
use Rattle.frame_hear.proofs.Most.{current-most, previous_most}
use Rattle.frame_slots.specs.declared.FrameProof.{FrameProof}
use Rattle.frame_deliver.specs.Deliver.{reaches, deliver_out}
use Rattle.frame_slots.specs.Frame.{FrameStep, ended_out, pend_of, pending_frame, current_frame, previous_frame, slot_frame, frame_of}

-- of two lists no longer than n, the one that is picked
picked : (n : ℕ) (b : Bool) (l m : List Event) → length l ≤ n → length m ≤ n → length (pick b l m) ≤ n
picked n true l m p q = p
picked n false l m p q = q

deliver_most : (slot tag body n floor : ℕ) (source target : List ℕ) → length (deliver_out slot tag body n floor source target) ≤ 1
unfolding deliver_out
deliver_most slot tag body n floor source target =
    picked 1 (reaches body n floor (length source) (length target)) _ _ (omega arith) (omega arith)

-- ---- the whole

pending-most : (s : State) (g : Given) (spread : ℤ) (p : FrameProof) (body : ℕ) (source target : List ℕ) → length (pending_frame s g spread p body source target).out ≤ 15
unfolding pending_frame ended_out
pending-most s g spread p body source target =
    simp length-append
    (omega (
      arith,
      only-most (and (is_pend_r s.cycle.kind) s.cycle.pendr.answer.some) (Ended s.cycle.pendr.ep.tag),
      cutover-most s g spread (pend_of s.cycle p.k) 1 p.k,
      deliver_most 0 (pend_of s.cycle p.k).ep.tag body p.len g.profile.floor source target,
    ))

current-frame-most : (s : State) (g : Given) (p : FrameProof) (body : ℕ) (source target : List ℕ) → length (current_frame s g p body source target).out ≤ 15
unfolding current_frame
current-frame-most s g p body source target =
    simp length-append
    (omega (arith, deliver_most 0 p.tag body p.len g.profile.floor source target, current-most s g p.k p.probe))

previous_frame-most : (s : State) (g : Given) (p : FrameProof) (body : ℕ) (source target : List ℕ) → length (previous_frame s g p body source target).out ≤ 15
unfolding previous_frame
previous_frame-most s g p body source target =
    simp length-append
    (omega (arith, deliver_most 2 p.tag body p.len g.profile.floor source target, previous_most s g))

framed : (n : ℕ) (b : Bool) (x y : FrameStep) → length x.out ≤ n → length y.out ≤ n → length (pick b x y).out ≤ n
framed n true x y p q = p
framed n false x y p q = q

-- "No answer has more than 96": no frame has more than 16
pub frame-most : (s : State) (g : Given) (spread : ℤ) (p : FrameProof) (body : ℕ) (source target : List ℕ) → length (frame_of s g spread p body source target).out ≤ 16
unfolding frame_of slot_frame
frame-most s g spread p body source target =
    let h =
    framed 15 (eqb p.slot 1) (pending_frame s g spread p body source target)
    (pick (eqb p.slot 0) (current_frame s g p body source target) (previous_frame s g p body source target))
    (pending-most s g spread p body source target)
    (framed 15 (eqb p.slot 0) (current_frame s g p body source target) (previous_frame s g p body source target)
    (current-frame-most s g p body source target) (previous_frame-most s g p body source target)) in
    omega (arith, h)
