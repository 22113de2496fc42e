-- `open`: "it makes a fresh link at its instant, with an epoch of tag 1 put in by `install`, from
-- settings, profile, role, transport, lease or none, worker flag and spread."
use Rattle.std.specs.Prelude.{ℕ, Bool, true, false, List, ◌∷◌, ◌++◌, ℤ, pos}
use Rattle.time.specs.Time.{none, at}
use Rattle.settings.specs.declared.Config.{Config}
use Rattle.numbers.specs.Numbers.{purpose_current, evidence_first}
use Rattle.epoch.specs.declared.Index.{Index}
use Rattle.epoch.specs.declared.Epoch.{Epoch}
use Rattle.epoch.specs.declared.MayEpoch.{MayEpoch}
use Rattle.state.specs.declared.Memory.{Memory}
use Rattle.state.specs.declared.State.{State}
use Rattle.state.specs.declared.Profile.{Profile}
use Rattle.events.specs.Events.{Event, Bind, Installed, Prompt, no_rungs}
use Rattle.retire.specs.Retire.{only, delegate_out}
use Rattle.refusal.specs.Refusal.{before_open}
use Rattle.answer.specs.Outcome.{Outcome, done, outcome_by}
use Rattle.call_open.specs.Blank.{no_index, no_final, no_repeats, no_current, no_drain, idle, no_candidates}
use Rattle.time.specs.Time.{whenever}

-- "Its memory is that of a new `Rekey` at that instant" (`Memory::new`), with the jitter that
-- `install` draws
unfoldable pub new_memory : ℕ → ℤ → Memory
new_memory time spread =
    record {
      peer_epoch = none;
      peer_k = record { some = false; on = false };
      jitter = spread;
      damp = none;
      backoff = none;
      abandons = 0;
      last_rx = none;
      rx_cur = none;
      sent_data = false;
      silence = 0;
      link_since = time;
      last_cutover = none;
      hs_rtt = none;
      srtt = none;
      setup_rto = none;
      reachable = true;
      due = false;
    }

-- "what else the epoch holds is as in `Epoch::new`, with numbers 0 and `theirs` absent"; `install`
-- sets the timestamp base and the start, and for a responder the instant of its prompt
unfoldable pub first_epoch : Bool → ℕ → Index → ℕ → Epoch
first_epoch responder transport lease time =
    record {
      tag = 1;
      session = 0;
      sent = 0;
      ids = record { lease = lease; theirs = no_index; transport = transport };
      k = false;
      responder = responder;
      base = at time;
      started = time;
      route = none;
      ext = 0;
      delegated = false;
      floor = none;
      heard = none;
      moved = none;
      assumed = false;
      fin = no_final;
      elicit = no_repeats;
      prompted = whenever responder time;
    }

-- a memory and a current epoch or none, and nothing else: no drained epoch, nothing in progress, no
-- candidate
unfoldable pub alone : Memory → MayEpoch → State
alone m e = record { mem = m; cur = e; drain = no_drain; cycle = idle; cands = no_candidates }

unfoldable pub fresh_state : Bool → ℕ → Index → ℤ → ℕ → State
fresh_state responder transport lease spread time =
    alone (new_memory time spread) (record { some = true; ep = first_epoch responder transport lease time })

-- what a refused `open` hands back: no link, but a memory that is new at instant 0, no epoch, and
-- every number 0
unfoldable pub blank_state : State
blank_state = alone (new_memory 0 (pos 0)) no_current

-- `install`: Bind with a lease, the offer to a worker, Installed, and a responder's Prompt
unfoldable pub install_out : Epoch → Bool → List Event
install_out e workers =
    only e.ids.lease.some (Bind e.ids.transport e.ids.lease.index (at e.tag) purpose_current)
    ++ (delegate_out e workers
    ++ (Installed e.tag e.responder evidence_first ∷ only e.responder (Prompt e.tag no_rungs)))

-- the link and its events
unfoldable pub opened : Bool → ℕ → Index → Bool → ℤ → ℕ → Outcome
opened responder transport lease workers spread time =
    done (fresh_state responder transport lease spread time) (install_out (first_epoch responder transport lease time) workers)

-- 1, 2, 7; a refused call is given no state, and its answer has the blank one
unfoldable pub open_of : Config → Profile → Bool → ℕ → Index → Bool → ℤ → ℕ → Outcome
open_of cfg p responder transport lease workers spread time =
    outcome_by (before_open cfg p spread) blank_state (opened responder transport lease workers spread time)
