-- How many events a cutover has at most.
use Rattle.std.specs.Prelude.{ℕ, ◌≤◌, Bool, [], ℤ, length}
use Rattle.std.proofs.Common.{arith, length-append}
use Rattle.time.specs.declared.When.{When}
use Rattle.time.specs.Pick.{of_choice}
use Rattle.epoch.specs.declared.Epoch.{Epoch}
use Rattle.epoch.specs.declared.Drain.{Drain}
use Rattle.state.specs.declared.State.{State}
use Rattle.state.specs.declared.Given.{Given}
use Rattle.events.specs.Events.{PeerRestarted}
use Rattle.retire.specs.Retire.{retire_out}
use Rattle.retire.proofs.Most.{only-most, retire_most, delegate_most}
use Rattle.time.specs.Pick.{and}
use Rattle.cutover.specs.declared.Pend.{Pend}
use Rattle.cutover.specs.Cutover.{given_up, adopted, announced, cutover_of}

given-up-most : (d : Drain) (old : Epoch) (restart : Bool) → length (given_up d old restart) ≤ 8
unfolding given_up
given-up-most d old restart =
    simp length-append
    (omega (
      arith,
      of_choice (λ l. length l ≤ 4) d.some (retire_out d.ep) [] (retire_most d.ep) (omega arith),
      of_choice (λ l. length l ≤ 4) restart (retire_out old) [] (retire_most old) (omega arith),
    ))

announced-most : (e : Epoch) (restart : Bool) (peer : When) (evidence : ℕ) (workers : Bool) → length (announced e restart peer evidence workers) ≤ 5
unfolding announced
announced-most e restart peer evidence workers =
    simp length-append
    (omega (
      arith,
      delegate_most e workers,
      only-most (and restart peer.some) (PeerRestarted peer.at),
    ))

-- two epochs retired, and five events of the new one
pub cutover-most : (s : State) (g : Given) (spread : ℤ) (p : Pend) (evidence : ℕ) (k : Bool) → length (cutover_of s g spread p evidence k).out ≤ 13
unfolding cutover_of
cutover-most s g spread p evidence k =
    simp length-append
    (omega (
      arith,
      given-up-most s.drain s.cur.ep p.restart,
      announced-most (adopted p.ep p.fin evidence g.cfg g.now) p.restart s.mem.peer_epoch evidence g.workers,
    ))
