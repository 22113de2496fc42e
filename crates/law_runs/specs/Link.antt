-- The link as a machine: its calls, and demand 3 of it.
use Rattle.std.specs.Prelude.{ℕ, Bool, true, false, ◌≡◌, List, ℤ}
use Rattle.std.proofs.Math.Option.{Option, none, some}
use Rattle.time.specs.declared.When.{When}
use Rattle.time.specs.Pick.{pick}
use Rattle.settings.specs.declared.Config.{Config}
use Rattle.state.specs.declared.State.{State}
use Rattle.state.specs.declared.Profile.{Profile}
use Rattle.state.specs.Stands.{View, stands}
use Rattle.events.specs.Events.{Event}
use Rattle.start.specs.Start.{called_for}
use Rattle.wake.specs.Due.{any_due}
use Rattle.wake.specs.Quiet.{teardown_stands, offer_owed, held_something}
use Rattle.wake.specs.Wake.{wake_of}
use Rattle.refusal.specs.Refusal.{state_back}
use Rattle.frame_slots.specs.declared.FrameProof.{FrameProof}
use Rattle.call_reply.specs.declared.StartReply.{StartReply}
use Rattle.call_read.specs.Read.{woke_of, status_of}
use Rattle.law_early.specs.Early.{Early}
use Rattle.poll.specs.Poll.{poll_of}
use Rattle.law_runs.specs.Runs.{Kind, poll, named, Out, Machine, accepted, Demand3}
use Rattle.law_runs.specs.Served.{Name, Buffers, no_buffers, step_of, Served}
use Rattle.law_runs.specs.Others.{frame_served, reply_served, sent_served}
use Rattle.law_runs.specs.Notices.{worker_served, delegated_served, undelegated_served, data_sent_served, path_served}

-- a call that is no poll, with its instant and its own settings, profile, worker flag, draw, proof,
-- buffers and fields
pub data Other : Type 0 where
  a_frame : (cfg : Config) (p : Profile) (now : ℕ) (workers : Bool) (spread : ℤ) (proof : FrameProof) (body : ℕ) (source target : List ℕ) → Other
  a_reply : (cfg : Config) (p : Profile) (now : ℕ) (r : StartReply) → Other
  a_sent : (now count : ℕ) → Other
  a_worker : (cfg : Config) (p : Profile) (now : ℕ) (workers : Bool) (spread : ℤ) (tag : ℕ) (k : Bool) (counter : ℕ) → Other
  a_delegated : (cfg : Config) (p : Profile) (now : ℕ) (workers : Bool) (spread : ℤ) (tag : ℕ) → Other
  an_undelegated : (cfg : Config) (p : Profile) (now : ℕ) (workers : Bool) (spread : ℤ) (tag : ℕ) → Other
  a_data_sent : (cfg : Config) (p : Profile) (now : ℕ) (workers : Bool) (spread : ℤ) → Other
  a_path : (cfg : Config) (p : Profile) (now : ℕ) (workers : Bool) (spread : ℤ) (reachable : Bool) (srtt : When) → Other

abbrev pub served : Other → Served
served (a_frame cfg p now workers spread proof body source target) = frame_served cfg p now workers spread proof body source target
served (a_reply cfg p now r) = reply_served cfg p now r
served (a_sent now count) = sent_served now count
served (a_worker cfg p now workers spread tag k counter) = worker_served cfg p now workers spread tag k counter
served (a_delegated cfg p now workers spread tag) = delegated_served cfg p now workers spread tag
served (an_undelegated cfg p now workers spread tag) = undelegated_served cfg p now workers spread tag
served (a_data_sent cfg p now workers spread) = data_sent_served cfg p now workers spread
served (a_path cfg p now workers spread reachable srtt) = path_served cfg p now workers spread reachable srtt

pub data Call : Type 0 where
  a_poll : (cfg : Config) (p : Profile) (now : ℕ) (workers : Bool) (spread : ℤ) (extra : ℕ) → Call
  other : Other → Call

abbrev pub kind_of : Call → Kind Name
kind_of (a_poll cfg p now workers spread extra) = poll
kind_of (other o) = named (served o).name

abbrev pub at_of : Call → ℕ
at_of (a_poll cfg p now workers spread extra) = now
at_of (other o) = (served o).at

abbrev pub step : Call → State → Out State Event Buffers
step (a_poll cfg p now workers spread extra) s = let o = poll_of s cfg p now workers spread extra in step_of no_buffers (some o.count) o
step (other o) s = (served o).step s

-- the buffers that a call is given
abbrev pub given : Call → Buffers
given (a_poll cfg p now workers spread extra) = no_buffers
given (other o) = (served o).given

-- ---- the four conditions, of a poll

abbrev pub due : Call → State → Bool
due (a_poll cfg p now workers spread extra) s = any_due s now
due (other o) s = false

abbrev pub start_called : Call → State → Bool
start_called (a_poll cfg p now workers spread extra) s = called_for s cfg p now
start_called (other o) s = false

abbrev pub teardown : Call → State → Bool
teardown (a_poll cfg p now workers spread extra) s = teardown_stands s cfg
teardown (other o) s = false

abbrev pub offer : Call → State → Bool
offer (a_poll cfg p now workers spread extra) s = offer_owed s workers
offer (other o) s = false

-- ---- the wake, at a poll

abbrev pub workers_of : Call → Bool
workers_of (a_poll cfg p now workers spread extra) = workers
workers_of (other o) = false

abbrev pub instant_of : When → Option ℕ
instant_of w = pick w.some (some w.at) none

-- "taken for that poll's state, settings and profile"
abbrev pub wake_for : Call → State → Option ℕ
wake_for (a_poll cfg p now workers spread extra) s = instant_of (wake_of s cfg p)
wake_for (other o) s = none

-- "A call is accepted when no number sends it back, a state when 3 to 6 pass it."
abbrev pub link : Machine
link = record {
  State = State;
  Event = Event;
  Name = Name;
  Bytes = Buffers;
  Call = Call;
  kind_of = kind_of;
  at_of = at_of;
  step = step;
  given = given;
  View = View;
  stands = stands;
  Ok = λ s. state_back s ≡ 0;
  due = due;
  start_called = start_called;
  teardown = teardown;
  offer = offer;
  workers = workers_of;
  held = held_something;
  wake = wake_for;
  Early = Early;
}

-- demand 3, of the link. What stands also decides the words that a poll leaves behind its events. Of the two
-- calls that only read a state: what stands decides them, and where a poll is accepted they are too, and
-- name the wake of demand 3
pub record TwoRuns : Type 0 where
  pub holds : Demand3 link
  pub words :
      (s t : State) → stands s ≡ stands t → (cfg : Config) (p : Profile) (now : ℕ) (workers : Bool) (spread : ℤ) (extra : ℕ)
      → (poll_of s cfg p now workers spread extra).written ≡ (poll_of t cfg p now workers spread extra).written
  pub woken : (s t : State) → stands s ≡ stands t → (cfg : Config) (p : Profile) → woke_of s cfg p ≡ woke_of t cfg p
  pub shown : (s t : State) → stands s ≡ stands t → (cfg : Config) (p : Profile) (now : ℕ) → status_of s cfg p now ≡ status_of t cfg p now
  pub names :
      (s : State) (cfg : Config) (p : Profile) (now : ℕ) (workers : Bool) (spread : ℤ) (extra : ℕ) → accepted link (a_poll cfg p now workers spread extra) s ≡ true
      → ((woke_of s cfg p).number ≡ 0) × (instant_of (woke_of s cfg p).at ≡ link.wake (a_poll cfg p now workers spread extra) s)
  pub lines :
      (s : State) (cfg : Config) (p : Profile) (now : ℕ) (workers : Bool) (spread : ℤ) (extra t : ℕ) → accepted link (a_poll cfg p now workers spread extra) s ≡ true
      → ((status_of s cfg p t).number ≡ 0) × (instant_of (status_of s cfg p t).wake ≡ link.wake (a_poll cfg p now workers spread extra) s)
