-- How many events hearing has at most.
use Rattle.std.specs.Prelude.{ℕ, ◌≤◌, Bool, true, false, [], ◌∷◌, length}
use Rattle.std.proofs.Common.{arith, length-append}
use Rattle.time.specs.Pick.{pick, and}
use Rattle.time.specs.Time.{at}
use Rattle.epoch.specs.declared.Epoch.{Epoch}
use Rattle.epoch.specs.Put.{put_prompted}
use Rattle.cycle.specs.Kind.{is_init, is_pend_i, is_pend_r}
use Rattle.state.specs.declared.State.{State}
use Rattle.state.specs.declared.Given.{Given}
use Rattle.state.specs.Parts.{put_mem}
use Rattle.events.specs.Events.{Prompt, no_rungs}
use Rattle.retire.proofs.Most.{abandon_most}
use Rattle.frame_evidence.specs.Evidence.{EpochStep, prompt_due, prompted_now, heard_epoch, confirming, heard_any, only_assumed}
use Rattle.frame_hear.specs.Hear.{HearStep, hearing, heard_current, revert_of, assumed_heard, confirming_heard, heard_previous}

prompted-most : (e : Epoch) (asks : Bool) (now : ℕ) → length (prompted_now e asks now).out ≤ 1
unfolding prompted_now
prompted-most e asks now = under (and asks (prompt_due e.prompted now))
  where
    under : (b : Bool) → length (pick {A = EpochStep} b (record { ep = put_prompted e (at now); out = Prompt e.tag no_rungs ∷ [] }) (record { ep = e; out = [] })).out ≤ 1
    under true = omega arith
    under false = omega arith

-- of two steps with no more than n events, the one that is picked
stepped : (n : ℕ) (b : Bool) (x y : HearStep) → length x.out ≤ n → length y.out ≤ n → length (pick b x y).out ≤ n
stepped n true x y p q = p
stepped n false x y p q = q

pub current-most : (s : State) (g : Given) (k probe : Bool) → length (heard_current s g k probe).out ≤ 1
unfolding heard_current hearing heard_epoch
current-most s g k probe = stepped 1 s.cur.some _ _ (prompted-most _ _ g.now) (omega arith)

reverted-most : (s : State) (g : Given) → length (assumed_heard s g).out ≤ 6
unfolding assumed_heard revert_of
reverted-most s g =
    stepped 6 (is_init s.cycle.kind) _ _ (simp length-append (omega (arith, abandon_most s.cycle.init 6)))
    (stepped 6 (is_pend_i s.cycle.kind) _ _ (omega arith)
    (stepped 6 (is_pend_r s.cycle.kind) _ _ (omega arith) (omega arith)))

confirming-most : (s : State) (g : Given) → length (confirming_heard s g).out ≤ 6
unfolding confirming_heard
confirming-most s g =
    omega (arith, prompted-most s.cur.ep (confirming s.cur g.profile.at_proof g.cfg g.now) g.now)

pub previous_most : (s : State) (g : Given) → length (heard_previous s g).out ≤ 6
unfolding heard_previous
previous_most s g =
    stepped 6 (only_assumed s.cur) _ _
    (reverted-most (put_mem s (heard_any s.mem g.now)) g)
    (confirming-most (put_mem s (heard_any s.mem g.now)) g)
