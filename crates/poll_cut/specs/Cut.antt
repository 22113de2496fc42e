-- The rows of the poll that change the whole state: a candidate that is dropped, and the three that may
-- cut over, in the order of `Due`.
use Rattle.std.specs.Prelude.{ℕ, Bool, true, false, ◌≡◌, List, [], ◌∷◌, ◌++◌, leb, ℤ}
use Rattle.time.specs.Pick.{pick}
use Rattle.numbers.specs.Numbers.{evidence_proof, evidence_assumed, evidence_delay, reason_candidate_expired, abandon_peer_stayed_on_old, abandon_revert_unconfirmed}
use Rattle.epoch.specs.Put.{put_assumed, put_ep}
use Rattle.cycle.specs.declared.Cycle.{Cycle}
use Rattle.cycle.specs.Kind.{idled, waits_held, waits_evidence, waits_delay}
use Rattle.candidates.specs.Held.{expire_of}
use Rattle.state.specs.declared.Memory.{Memory}
use Rattle.state.specs.declared.State.{State}
use Rattle.state.specs.declared.Given.{Given}
use Rattle.state.specs.Parts.{put_mem, put_cur, put_cycle, put_cands}
use Rattle.events.specs.Events.{Event, Reject, Abandoned}
use Rattle.events.specs.declared.Log.{Log}
use Rattle.events.specs.Told.{Tells}
use Rattle.retire.specs.Retire.{only, retire_out}
use Rattle.time.specs.Pick.{and}
use Rattle.cycle.specs.Held.{is_own}
use Rattle.cutover.specs.declared.Pend.{Pend}
use Rattle.cutover.specs.Cutover.{cutover_of}

-- what an item leaves: the state, its events, and whether the link ends
pub record Step : Type 0 where
  pub state : State
  pub out : List Event
  pub ends : Bool

-- what a function on the whole state promises that takes such a step: its state, its events behind those
-- of the log, and whether the link ends
abbrev pub Did : Step → Log → State → Bool → Log → Type 0
Did t l s ends l' = (s ≡ t.state) × (Tells t.out l l' × (ends ≡ t.ends))

abbrev pub stay : State → Step
stay s = record { state = s; out = []; ends = false }

-- a repair that falls due stays due
abbrev pub due_mem : Memory → Bool → Memory
due_mem m b =
    record {
      peer_epoch = m.peer_epoch;
      peer_k = m.peer_k;
      jitter = m.jitter;
      damp = m.damp;
      backoff = m.backoff;
      abandons = m.abandons;
      last_rx = m.last_rx;
      rx_cur = m.rx_cur;
      sent_data = m.sent_data;
      silence = m.silence;
      link_since = m.link_since;
      last_cutover = m.last_cutover;
      hs_rtt = m.hs_rtt;
      srtt = m.srtt;
      setup_rto = m.setup_rto;
      reachable = m.reachable;
      due = b;
    }

-- Candidate: one that reached its deadline is dropped
unfoldable pub candidate_due : State → ℕ → ℕ → Step
candidate_due s seq now =
    record { state = put_cands s (expire_of s.cands seq now).cands; out = only (expire_of s.cands seq now).gone (Reject reason_candidate_expired); ends = false }

-- ---- the rows that cut over

abbrev pub pend_of : Cycle → Pend
pend_of c = record { ep = c.pendi.ep; restart = c.pendi.restart; fin = c.pendi.fin }

unfoldable pub cut_by : State → Given → ℤ → ℕ → Step
cut_by s g spread evidence =
    record { state = (cutover_of s g spread (pend_of s.cycle) evidence false).state; out = (cutover_of s g spread (pend_of s.cycle) evidence false).out; ends = false }

-- Held: the completion itself proves the peer holds the keys
unfoldable pub held_due : State → Given → ℤ → ℕ → Step
held_due s g spread tag = pick (and (is_own s.cycle tag) (waits_held s.cycle.pendi.wait)) (cut_by s g spread evidence_proof) (stay s)

-- DelayEnd: a delayed cutover's deadline
unfoldable pub delay_end : State → Given → ℤ → ℕ → Step
delay_end s g spread tag = pick (and (is_own s.cycle tag) (waits_delay s.cycle.pendi.wait)) (cut_by s g spread evidence_delay) (stay s)

-- Confirm, the peer stayed or the revert is unconfirmed: the epoch is retired and a repair falls due
unfoldable pub unconfirmed : State → Step
unconfirmed s =
    record { state = put_mem (put_cycle s (idled s.cycle)) (due_mem s.mem true); out = retire_out s.cycle.pendi.ep ++ (Abandoned (pick s.cycle.pendi.reverted abandon_revert_unconfirmed abandon_peer_stayed_on_old) ∷ []); ends = false }

-- Confirm, nothing was heard: the cutover is assumed
unfoldable pub assumed : State → Given → ℤ → Step
assumed s g spread =
    record { state = put_cur (cut_by s g spread evidence_assumed).state (put_ep (cut_by s g spread evidence_assumed).state.cur (put_assumed (cut_by s g spread evidence_assumed).state.cur.ep true)); out = (cut_by s g spread evidence_assumed).out; ends = false }

unfoldable pub confirm_due : State → Given → ℤ → ℕ → Step
confirm_due s g spread tag =
    pick (and (is_own s.cycle tag) (and (waits_evidence s.cycle.pendi.wait) (leb s.cycle.pendi.deadline g.now)))
    (pick (pick s.cycle.pendi.stayed true s.cycle.pendi.reverted) (unconfirmed s) (assumed s g spread))
    (stay s)
