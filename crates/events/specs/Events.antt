-- What an answer tells, as data and as words.
use Rattle.std.specs.Prelude.{ℕ, Bool, List, [], ◌∷◌}
use Rattle.time.specs.declared.When.{When}
use Rattle.numbers.specs.Numbers.{bit, role_no, event_send, event_prompt, event_deliver, event_bind, event_unbind, event_delegate, event_revoke, event_release, event_installed, event_retired, event_reverted, event_peer_restarted, event_rekeyed, event_reject, event_abandoned, event_teardown, event_mark, event_start, event_ended}

-- "Events are those of `Output`, `PeerRestarted` without its layer, plus three added: MARK (tag,
-- counter) for `mark`, START (kind), and ENDED (tag)". In the order of `Output` (mod.rs), without
-- its `ReplaceRequested`, which no ported call gives. An enum's case is its number (crate numbers).
pub data Event : Type 0 where
  -- the route is left out: the ported calls give `Established` without fallback only. "Each send and
  -- prompt that comes from a ladder carries that number" of rungs taken, "any other 0" (request 2)
  Send : (msg kind rungs : ℕ) → Event
  Prompt : (tag rungs : ℕ) → Event
  Deliver : (slot tag start end : ℕ) → Event
  Bind : (transport index : ℕ) (tag : When) (purpose : ℕ) → Event
  Unbind : (transport index : ℕ) → Event
  -- the receive half is the session and its floor, of which `copy` makes it
  Delegate : (tag transport index session : ℕ) (floor : When) → Event
  Revoke : (tag transport index : ℕ) → Event
  -- a lease is its index
  Release : (index : ℕ) → Event
  Installed : (tag : ℕ) (responder : Bool) (evidence : ℕ) → Event
  Retired : (tag : ℕ) → Event
  Reverted : (tag : ℕ) → Event
  -- the eight bytes as one number, low byte first
  PeerRestarted : (epoch : ℕ) → Event
  Rekeyed : (responder : Bool) → Event
  Reject : (reason : ℕ) → Event
  Abandoned : (cause : ℕ) → Event
  Teardown : (why : ℕ) → Event
  Mark : (tag counter : ℕ) → Event
  Start : (kind : ℕ) → Event
  Ended : (tag : ℕ) → Event

-- the number of rungs on a prompt that comes from no ladder
abbrev pub no_rungs : ℕ
no_rungs = 0

-- An event's eight words: its number; its fields in order, a
-- `When` as a flag and its number; then 0.
abbrev pub words_of : Event → List ℕ
words_of (Send msg kind rungs) = event_send ∷ msg ∷ kind ∷ rungs ∷ 0 ∷ 0 ∷ 0 ∷ 0 ∷ []
words_of (Prompt tag rungs) = event_prompt ∷ tag ∷ rungs ∷ 0 ∷ 0 ∷ 0 ∷ 0 ∷ 0 ∷ []
words_of (Deliver slot tag start end) = event_deliver ∷ slot ∷ tag ∷ start ∷ end ∷ 0 ∷ 0 ∷ 0 ∷ []
words_of (Bind transport index tag purpose) = event_bind ∷ transport ∷ index ∷ bit tag.some ∷ tag.at ∷ purpose ∷ 0 ∷ 0 ∷ []
words_of (Unbind transport index) = event_unbind ∷ transport ∷ index ∷ 0 ∷ 0 ∷ 0 ∷ 0 ∷ 0 ∷ []
words_of (Delegate tag transport index session floor) = event_delegate ∷ tag ∷ transport ∷ index ∷ session ∷ bit floor.some ∷ floor.at ∷ 0 ∷ []
words_of (Revoke tag transport index) = event_revoke ∷ tag ∷ transport ∷ index ∷ 0 ∷ 0 ∷ 0 ∷ 0 ∷ []
words_of (Release index) = event_release ∷ index ∷ 0 ∷ 0 ∷ 0 ∷ 0 ∷ 0 ∷ 0 ∷ []
words_of (Installed tag responder evidence) = event_installed ∷ tag ∷ role_no responder ∷ evidence ∷ 0 ∷ 0 ∷ 0 ∷ 0 ∷ []
words_of (Retired tag) = event_retired ∷ tag ∷ 0 ∷ 0 ∷ 0 ∷ 0 ∷ 0 ∷ 0 ∷ []
words_of (Reverted tag) = event_reverted ∷ tag ∷ 0 ∷ 0 ∷ 0 ∷ 0 ∷ 0 ∷ 0 ∷ []
words_of (PeerRestarted epoch) = event_peer_restarted ∷ epoch ∷ 0 ∷ 0 ∷ 0 ∷ 0 ∷ 0 ∷ 0 ∷ []
words_of (Rekeyed responder) = event_rekeyed ∷ role_no responder ∷ 0 ∷ 0 ∷ 0 ∷ 0 ∷ 0 ∷ 0 ∷ []
words_of (Reject reason) = event_reject ∷ reason ∷ 0 ∷ 0 ∷ 0 ∷ 0 ∷ 0 ∷ 0 ∷ []
words_of (Abandoned cause) = event_abandoned ∷ cause ∷ 0 ∷ 0 ∷ 0 ∷ 0 ∷ 0 ∷ 0 ∷ []
words_of (Teardown why) = event_teardown ∷ why ∷ 0 ∷ 0 ∷ 0 ∷ 0 ∷ 0 ∷ 0 ∷ []
words_of (Mark tag counter) = event_mark ∷ tag ∷ counter ∷ 0 ∷ 0 ∷ 0 ∷ 0 ∷ 0 ∷ []
words_of (Start kind) = event_start ∷ kind ∷ 0 ∷ 0 ∷ 0 ∷ 0 ∷ 0 ∷ 0 ∷ []
words_of (Ended tag) = event_ended ∷ tag ∷ 0 ∷ 0 ∷ 0 ∷ 0 ∷ 0 ∷ 0 ∷ []
