-- Laws of `open`.
use Rattle.std.specs.Prelude.{ℕ, ◌≤◌, Bool, true, false, ◌≡◌, refl, [], ◌∷◌, ℤ, length}
use Rattle.std.proofs.Common.{arith, length-append}
use Rattle.time.specs.Pick.{pick}
use Rattle.time.specs.Lists.{range}
use Rattle.time.specs.Time.{at, least}
use Rattle.settings.specs.declared.Config.{Config}
use Rattle.numbers.specs.Numbers.{purpose_current, evidence_first}
use Rattle.epoch.specs.declared.Index.{Index}
use Rattle.epoch.specs.declared.Epoch.{Epoch}
use Rattle.candidates.specs.Held.{held_of, between}
use Rattle.candidates.specs.Repeats.{among, repeated}
use Rattle.state.specs.declared.Profile.{Profile}
use Rattle.state.specs.Parts.{pending_of, epochs_of, epoch_ladders, cycle_ladders, all_ladders, ladders_of}
use Rattle.events.specs.Events.{Event, Installed, Prompt, Delegate, Bind, no_rungs}
use Rattle.retire.specs.Retire.{only, offerable, floor_told, delegate_out}
use Rattle.refusal.specs.Refusal.{any_of, is_pending, epochs_bad_of, numbers_bad, ladders_bad, first, state_tests, state_back, before_open}
use Rattle.answer.proofs.Laws.{by-either}
use Rattle.call_open.specs.Blank.{no_index, no_final, no_repeats, no_current, no_drain, idle, no_candidates}
use Rattle.call_open.specs.Open.{new_memory, first_epoch, alone, fresh_state, blank_state, install_out, opened, open_of}

-- an `open` leaves a state that 3 to 6 accept
pub fresh-accepted : (responder : Bool) (transport : ℕ) (lease : Index) (spread : ℤ) (time : ℕ) → state_back (fresh_state responder transport lease spread time) ≡ 0
unfolding state_back state_tests first any_of is_pending epochs_bad_of numbers_bad ladders_bad held_of least between range among repeated pending_of epochs_of epoch_ladders cycle_ladders all_ladders ladders_of fresh_state alone new_memory first_epoch no_final no_repeats no_drain idle no_candidates
fresh-accepted responder transport lease spread time = refl

-- and so does a refused one
pub blank_accepted : state_back blank_state ≡ 0
unfolding state_back state_tests first any_of is_pending epochs_bad_of numbers_bad ladders_bad held_of least between range among repeated pending_of epochs_of epoch_ladders cycle_ladders all_ladders ladders_of blank_state alone no_current no_drain idle no_candidates
blank_accepted = refl

pub open_accepted : (cfg : Config) (p : Profile) (responder : Bool) (transport : ℕ) (lease : Index) (workers : Bool) (spread : ℤ) (time : ℕ) → state_back (open_of cfg p responder transport lease workers spread time).state ≡ 0
unfolding open_of opened
open_accepted cfg p responder transport lease workers spread time =
    by-either (before_open cfg p spread) blank_state (opened responder transport lease workers spread time) (λ o. state_back o.state ≡ 0) blank_accepted
    (fresh-accepted responder transport lease spread time)

-- document 01's case: a responder with no lease, workers off
pub printed : (transport : ℕ) → install_out (first_epoch true transport no_index 1000) false ≡ Installed 1 true evidence_first ∷ Prompt 1 no_rungs ∷ []
unfolding install_out delegate_out first_epoch
printed transport = refl

-- with a lease and workers an initiator's epoch is bound and offered, and nothing is prompted
pub offered_too : (transport index time : ℕ) → install_out (first_epoch false transport (record { some = true; index = index }) time) true ≡ Bind transport index (record { some = true; at = 1 }) purpose_current ∷ Delegate 1 transport index 0 (record { some = false; at = 0 }) ∷ Installed 1 false evidence_first ∷ []
unfolding install_out delegate_out offerable first_epoch
offered_too transport index time = refl

-- "No answer has more than 96": an `open` has four at most
only_one : (b : Bool) (v : Event) → length (only b v) ≤ 1
only_one true v = omega arith
only_one false v = omega arith

pub few : (e : Epoch) (workers : Bool) → length (install_out e workers) ≤ 4
unfolding install_out delegate_out
few e workers =
    simp length-append
    (omega (
      arith,
      only_one e.ids.lease.some (Bind e.ids.transport e.ids.lease.index (at e.tag) purpose_current),
      only_one (pick workers (offerable e) false) (Delegate e.tag e.ids.transport e.ids.lease.index e.session (floor_told e.floor)),
      only_one e.responder (Prompt e.tag no_rungs),
    ))

pub open_few : (cfg : Config) (p : Profile) (responder : Bool) (transport : ℕ) (lease : Index) (workers : Bool) (spread : ℤ) (time : ℕ) → length (open_of cfg p responder transport lease workers spread time).out ≤ 4
unfolding open_of opened
open_few cfg p responder transport lease workers spread time =
    by-either (before_open cfg p spread) blank_state (opened responder transport lease workers spread time) (λ o. length o.out ≤ 4) (omega arith)
    (few (first_epoch responder transport lease time) workers)
