-- Laws of hearing a frame.
use Rattle.std.specs.Prelude.{ℕ, ◌≤◌, Bool, true, false, ◌≡◌, refl, []}
use Rattle.std.proofs.Common.{arith}
use Rattle.time.specs.Pick.{pick}
use Rattle.cycle.specs.Kind.{is_init, is_pend_i, is_pend_r}
use Rattle.state.specs.declared.State.{State}
use Rattle.state.specs.declared.Given.{Given}
use Rattle.frame_evidence.specs.Evidence.{blind_to, moves_now, only_assumed}
use Rattle.frame_evidence.specs.Laws.{shortened_falls}
use Rattle.frame_hear.specs.Hear.{HearStep, hearing, heard_current, revert_of, assumed_heard, confirming_heard, heard_previous}

-- of two steps that leave the drain's deadline at n, the one that is picked
deadline_of : (n : ℕ) (b : Bool) (x y : HearStep) → x.state.drain.deadline ≡ n → y.state.drain.deadline ≡ n → (pick b x y).state.drain.deadline ≡ n
deadline_of n true x y p q = p
deadline_of n false x y p q = q

-- hearing the drained epoch never moves its deadline
pub previous_deadline : (s : State) (g : Given) → (heard_previous s g).state.drain.deadline ≡ s.drain.deadline
unfolding heard_previous assumed_heard confirming_heard revert_of
previous_deadline s g =
    deadline_of s.drain.deadline (only_assumed s.cur) _ _
    (deadline_of s.drain.deadline (is_init s.cycle.kind) _ _ refl
    (deadline_of s.drain.deadline (is_pend_i s.cycle.kind) _ _ refl
    (deadline_of s.drain.deadline (is_pend_r s.cycle.kind) _ _ refl refl)))
    refl

-- hearing the current one never raises it
pub current-deadline : (s : State) (g : Given) (k probe : Bool) → (heard_current s g k probe).state.drain.deadline ≤ s.drain.deadline
unfolding heard_current hearing
current-deadline s g k probe =
    under s.cur.some (hearing s g k (blind_to s.cur.ep g.profile.at_proof probe))
    (shortened_falls s.drain g.cfg.drain g.now (moves_now s.cur.ep (blind_to s.cur.ep g.profile.at_proof probe)))
  where
    under : (b : Bool) (x : HearStep) → x.state.drain.deadline ≤ s.drain.deadline → (pick {A = HearStep} b x (record { state = s; out = [] })).state.drain.deadline ≤ s.drain.deadline
    under true x h = h
    under false x h = omega arith
