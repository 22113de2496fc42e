-- What an authenticated frame tells: `heard_current`, `revert` and `heard_previous` of machine.rs, on
-- the whole state.
use Rattle.std.specs.Prelude.{ℕ, Bool, true, false, ◌≡◌, List, [], ◌∷◌, ◌++◌}
use Rattle.time.specs.Pick.{pick}
use Rattle.settings.specs.declared.Config.{Config}
use Rattle.numbers.specs.Numbers.{cycle_pend_i, abandon_reverted}
use Rattle.epoch.specs.Put.{put_ep}
use Rattle.cycle.specs.Kind.{is_init, is_pend_i, is_pend_r}
use Rattle.state.specs.declared.State.{State}
use Rattle.state.specs.declared.Profile.{Profile}
use Rattle.state.specs.declared.Given.{Given}
use Rattle.state.specs.Parts.{put_mem, put_cur, put_cycle}
use Rattle.events.specs.Events.{Event, Prompt, Reverted, no_rungs}
use Rattle.events.specs.Told.{Tells}
use Rattle.events.specs.declared.Log.{Log}
use Rattle.retire.specs.Retire.{abandon_out}
use Rattle.grace.specs.Grace.{grace}
use Rattle.cutover.specs.Cutover.{heard_frame}
use Rattle.frame_evidence.specs.Evidence.{blind_to, moves_now, heard_cands, shortened, prompted_now, stayed_now, heard_epoch, reverted_pend, heard_any, only_assumed, confirming}

-- "what a poll takes except the extra": it is 0, and no row of hearing reads it
unfoldable pub given_of : Config → Profile → ℕ → Bool → Given
given_of cfg profile time workers = record { cfg = cfg; profile = profile; now = time; workers = workers; extra = 0 }

-- what hearing leaves of the state
pub record HearStep : Type 0 where
  pub state : State
  pub out : List Event

-- what a function promises that hears so: its state, and its events behind those of the log
abbrev pub Did : HearStep → Log → State → Log → Type 0
Did t l r l' = (r ≡ t.state) × Tells t.out l l'

-- ---- `heard_current`

-- all its rows, on a current epoch that is held
unfoldable pub hearing : State → Given → Bool → Bool → HearStep
hearing s g k blind =
    record {
      state = record {
        mem = heard_frame s.mem k g.now;
        cur = record { some = true; ep = (heard_epoch s.cur.ep blind g.now).ep };
        drain = shortened s.drain (moves_now s.cur.ep blind) g.cfg.drain g.now;
        cycle = stayed_now s.cycle (grace s.mem g.cfg) g.now;
        cands = heard_cands s.cands s.cur.ep g.profile.smaller;
      };
      out = (heard_epoch s.cur.ep blind g.now).out;
    }

-- `heard_current`: without a current epoch nothing changes
unfoldable pub heard_current : State → Given → Bool → Bool → HearStep
heard_current s g k probe =
    pick s.cur.some
    (hearing s g k (blind_to s.cur.ep g.profile.at_proof probe))
    (record { state = s; out = [] })

-- ---- `revert`: "Return an assumed epoch to pending when the peer is heard on the drained one.
-- Nothing is retired." A current and a drained epoch are held.

-- `revert`: the drained epoch is current again, the assumed one pending
unfoldable pub revert_of : State → Config → ℕ → HearStep
revert_of s cfg now =
    record {
      state = record {
        mem = s.mem;
        cur = record { some = true; ep = s.drain.ep };
        drain = record { some = false; ep = s.drain.ep; deadline = s.drain.deadline; evidenced = s.drain.evidenced };
        cycle = record { kind = cycle_pend_i; init = s.cycle.init; pendi = reverted_pend s.cur.ep cfg now; pendr = s.cycle.pendr };
        cands = s.cands;
      };
      out = Reverted s.cur.ep.tag ∷ Prompt s.cur.ep.tag no_rungs ∷ Prompt s.drain.ep.tag no_rungs ∷ [];
    }

-- ---- `heard_previous`

-- its match on the cycle, for an epoch that was only assumed: Init abandons the attempt (cause 6, Reverted) and reverts;
-- PendI may only be marked as stayed; PendR leaves all; Idle reverts
unfoldable pub assumed_heard : State → Given → HearStep
assumed_heard s g =
    pick (is_init s.cycle.kind)
    (record { state = (revert_of s g.cfg g.now).state; out = abandon_out s.cycle.init abandon_reverted ++ (revert_of s g.cfg g.now).out })
    (pick (is_pend_i s.cycle.kind)
    (record { state = put_cycle s (stayed_now s.cycle (grace s.mem g.cfg) g.now); out = [] })
    (pick (is_pend_r s.cycle.kind)
    (record { state = s; out = [] })
    (revert_of s g.cfg g.now)))

-- its last row: a prompt while confirming
unfoldable pub confirming_heard : State → Given → HearStep
confirming_heard s g =
    record {
      state = put_cur s (put_ep s.cur (prompted_now s.cur.ep (confirming s.cur g.profile.at_proof g.cfg g.now) g.now).ep);
      out = (prompted_now s.cur.ep (confirming s.cur g.profile.at_proof g.cfg g.now) g.now).out;
    }

-- `heard_previous`: no row of it shortens or extends the drain
unfoldable pub heard_previous : State → Given → HearStep
heard_previous s g =
    pick (only_assumed s.cur)
    (assumed_heard (put_mem s (heard_any s.mem g.now)) g)
    (confirming_heard (put_mem s (heard_any s.mem g.now)) g)
