-- How many events these have at most.
use Rattle.std.specs.Prelude.{ℕ, ◌≤◌, Bool, true, false, length}
use Rattle.std.proofs.Common.{arith, length-append}
use Rattle.time.specs.Pick.{pick}
use Rattle.epoch.specs.declared.Epoch.{Epoch}
use Rattle.cycle.specs.declared.Attempt.{Attempt}
use Rattle.events.specs.Events.{Event, Unbind, Revoke, Release, Delegate}
use Rattle.retire.specs.Retire.{only, retire_out, abandon_out, offerable, floor_told, delegate_out}

pub only-most : (b : Bool) (e : Event) → length (only b e) ≤ 1
only-most true e = omega arith
only-most false e = omega arith

pub retire_most : (e : Epoch) → length (retire_out e) ≤ 4
unfolding retire_out
retire_most e =
    simp length-append
    (omega (
      arith,
      only-most e.ids.lease.some (Unbind e.ids.transport e.ids.lease.index),
      only-most (pick e.ids.lease.some e.delegated false) (Revoke e.tag e.ids.transport e.ids.lease.index),
      only-most e.ids.lease.some (Release e.ids.lease.index),
    ))

pub abandon_most : (a : Attempt) (cause : ℕ) → length (abandon_out a cause) ≤ 3
unfolding abandon_out
abandon_most a cause =
    simp length-append
    (omega (arith, only-most a.lease.some (Unbind a.transport a.lease.index), only-most a.lease.some (Release a.lease.index)))

pub delegate_most : (e : Epoch) (workers : Bool) → length (delegate_out e workers) ≤ 1
unfolding delegate_out
delegate_most e workers = only-most (pick workers (offerable e) false) (Delegate e.tag e.ids.transport e.ids.lease.index e.session (floor_told e.floor))
