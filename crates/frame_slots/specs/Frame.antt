-- `frame` of machine.rs, by the slot that the frame authenticated under.
use Rattle.std.specs.Prelude.{ℕ, Bool, ◌≡◌, List, ◌∷◌, ◌++◌, eqb, ℤ}
use Rattle.time.specs.declared.When.{When}
use Rattle.time.specs.Pick.{pick}
use Rattle.time.specs.Time.{none, at}
use Rattle.numbers.specs.Numbers.{slot_current, slot_pending, slot_previous, evidence_frame, refused_slot, refused_tag}
use Rattle.epoch.specs.declared.Epoch.{Epoch}
use Rattle.epoch.specs.Put.{drop_fin}
use Rattle.cycle.specs.declared.Cycle.{Cycle}
use Rattle.cycle.specs.Kind.{is_pend_i, is_pend_r}
use Rattle.state.specs.declared.State.{State}
use Rattle.state.specs.declared.Given.{Given}
use Rattle.events.specs.Events.{Event, Mark, Ended}
use Rattle.events.specs.Told.{Tells}
use Rattle.events.specs.declared.Log.{Log}
use Rattle.retire.specs.Retire.{only}
use Rattle.time.specs.Pick.{and}
use Rattle.cutover.specs.declared.Pend.{Pend}
use Rattle.cutover.specs.Cutover.{cutover_of}
use Rattle.frame_hear.specs.Hear.{heard_current, heard_previous}
use Rattle.frame_slots.specs.declared.FrameProof.{FrameProof}
use Rattle.frame_deliver.specs.Deliver.{deliver_out, deliver_into}

-- what a frame leaves: the state, the target buffer and the events
pub record FrameStep : Type 0 where
  pub state : State
  pub target : List ℕ
  pub out : List Event

-- what a function promises that takes a frame so: its state, the target's bytes, and its events behind
-- those of the log
abbrev pub Did : FrameStep → List ℕ → Log → State → Log → Type 0
Did t target l r l' = (r ≡ t.state) × ((target ≡ t.target) × Tells t.out l l')

-- ---- refusals 8 and 9

-- the pending epoch's tag, in either role
unfoldable pub pending_tag : Cycle → When
pending_tag c = pick (is_pend_i c.kind) (at c.pendi.ep.tag) (pick (is_pend_r c.kind) (at c.pendr.ep.tag) none)

-- the tag of the epoch that a slot holds; no other number is a slot
unfoldable pub slot_tag : State → ℕ → When
slot_tag s slot =
    pick (eqb slot slot_current) (record { some = s.cur.some; at = s.cur.ep.tag })
    (pick (eqb slot slot_pending) (pending_tag s.cycle)
    (pick (eqb slot slot_previous) (record { some = s.drain.some; at = s.drain.ep.tag }) none))

-- "8. A frame names a slot that holds no epoch. 9. A frame's tag is not that epoch's tag."
unfoldable pub frame_back : State → ℕ → ℕ → ℕ
frame_back s slot tag = pick (slot_tag s slot).some (pick (eqb (slot_tag s slot).at tag) 0 refused_tag) refused_slot

-- ---- Slot::Pending: the pending epoch leaves its cycle

-- `PendR::end` touches the record only with an answer held
unfoldable pub ended_out : Cycle → List Event
ended_out c = only (and (is_pend_r c.kind) c.pendr.answer.some) (Ended c.pendr.ep.tag)

abbrev pub put_k : Epoch → Bool → Epoch
put_k e k =
    record {
      tag = e.tag;
      session = e.session;
      sent = e.sent;
      ids = e.ids;
      k = k;
      responder = e.responder;
      base = e.base;
      started = e.started;
      route = e.route;
      ext = e.ext;
      delegated = e.delegated;
      floor = e.floor;
      heard = e.heard;
      moved = e.moved;
      assumed = e.assumed;
      fin = e.fin;
      elicit = e.elicit;
      prompted = e.prompted;
    }

-- PendR: its epoch with the frame's key bit, no final message; PendI: its epoch and final message
unfoldable pub pend_of : Cycle → Bool → Pend
pend_of c k =
    pick (is_pend_r c.kind)
    (record { ep = put_k c.pendr.ep k; restart = c.pendr.restart; fin = drop_fin c.pendr.ep.fin })
    (record { ep = c.pendi.ep; restart = c.pendi.restart; fin = c.pendi.fin })

-- the cutover by frame evidence (1), then the delivery as current under the pending tag
unfoldable pub pending_frame : State → Given → ℤ → FrameProof → ℕ → List ℕ → List ℕ → FrameStep
pending_frame s g spread p body source target =
    record {
      state = (cutover_of s g spread (pend_of s.cycle p.k) evidence_frame p.k).state;
      target = deliver_into body p.len g.profile.floor source target;
      out =
          ended_out s.cycle
          ++ ((cutover_of s g spread (pend_of s.cycle p.k) evidence_frame p.k).out
          ++ deliver_out slot_current (pend_of s.cycle p.k).ep.tag body p.len g.profile.floor source target);
    }

-- ---- Slot::Current: the delivery, then what hearing the current epoch does
unfoldable pub current_frame : State → Given → FrameProof → ℕ → List ℕ → List ℕ → FrameStep
current_frame s g p body source target =
    record {
      state = (heard_current s g p.k p.probe).state;
      target = deliver_into body p.len g.profile.floor source target;
      out = deliver_out slot_current p.tag body p.len g.profile.floor source target ++ (heard_current s g p.k p.probe).out;
    }

-- ---- Slot::Previous: the delivery, then what hearing the previous epoch does
unfoldable pub previous_frame : State → Given → FrameProof → ℕ → List ℕ → List ℕ → FrameStep
previous_frame s g p body source target =
    record {
      state = (heard_previous s g).state;
      target = deliver_into body p.len g.profile.floor source target;
      out = deliver_out slot_previous p.tag body p.len g.profile.floor source target ++ (heard_previous s g).out;
    }

-- ---- the row of the frame's slot
unfoldable pub slot_frame : State → Given → ℤ → FrameProof → ℕ → List ℕ → List ℕ → FrameStep
slot_frame s g spread p body source target =
    pick (eqb p.slot slot_pending) (pending_frame s g spread p body source target)
    (pick (eqb p.slot slot_current) (current_frame s g p body source target)
    (previous_frame s g p body source target))

-- ---- the whole: the counter is marked first, whatever follows
unfoldable pub frame_of : State → Given → ℤ → FrameProof → ℕ → List ℕ → List ℕ → FrameStep
frame_of s g spread p body source target =
    record {
      state = (slot_frame s g spread p body source target).state;
      target = (slot_frame s g spread p body source target).target;
      out = Mark p.tag p.counter ∷ (slot_frame s g spread p body source target).out;
    }
