-- How many events a notice has at most.
use Rattle.std.specs.Prelude.{ℕ, ◌≤◌, Bool, false, length}
use Rattle.std.proofs.Common.{arith}
use Rattle.time.specs.Pick.{of_choice}
use Rattle.state.specs.declared.State.{State}
use Rattle.state.specs.declared.Given.{Given}
use Rattle.frame_hear.specs.Hear.{HearStep}
use Rattle.frame_hear.proofs.Most.{current-most, previous_most}
use Rattle.notice_rows.specs.Rows.{raised_current, raised_previous, worker_of, already, handed}
use Rattle.notice_rows.proofs.Laws.{slotted}

abbrev AtMost : ℕ → HearStep → Type 0
AtMost n t = length t.out ≤ n

-- "No answer has more than 96": a worker's notice has 6 at most, an abandoned attempt's three and a revert's three
pub worker-most : (s : State) (g : Given) (tag : ℕ) (k : Bool) (counter : ℕ) → length (worker_of s g tag k counter).out ≤ 6
unfolding worker_of
worker-most s g tag k counter =
    slotted (AtMost 6) s tag _ _ _ _
    (λ _. omega (arith, current-most (raised_current s counter) g k false)) (λ _. previous_most (raised_previous s counter) g) (omega arith) (omega arith)

-- the other four have one at most
pub handed-most : (s : State) (tag : ℕ) (on : Bool) (same early : ℕ) → length (handed s tag on same early).out ≤ 1
unfolding handed
handed-most s tag on same early =
    slotted (AtMost 1) s tag _ _ _ _
    (λ _. of_choice (AtMost 1) (already s.cur.ep.delegated on) _ _ (omega arith) (omega arith))
    (λ _. of_choice (AtMost 1) (already s.drain.ep.delegated on) _ _ (omega arith) (omega arith))
    (omega arith) (omega arith)
