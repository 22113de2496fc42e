-- Each list is in its source's order, so that a number is the case's place; and the number of a reason tells
-- the reason.
use Rattle.std.specs.Prelude.{ℕ, List, [], ◌∷◌, ◌≡◌, refl, get_or}
use Rattle.std.proofs.Common.{sym, ◌∙◌, ap}
use Rattle.numbers.specs.declared.reason.Reason.{Reason}
use Rattle.numbers.specs.declared.reason.Reason.TheVariants.{EpochChanged, AnsweredBefore, OffLink, PendingHeld, DualInitWon, IndexExhausted, HandshakeWrite, ReplyUnauthenticated, LateReply, UnknownAttempt, UnknownIndex, SetupMalformed, TieBreakKept, CandidatesFull, FinalNoAttempt, FinalUnauthenticated, KeyMismatch, StaleIncarnation, Replay, FrameUnauthenticated, ShortPlaintext, DelegatedEpoch, NotEstablished, StaleTag, NotDelegated, AlreadyDelegated, NotOffered, AttemptInFlight, AlreadyEstablished, CandidateExpired, NotRekey}
use Rattle.numbers.specs.Numbers.{events, messages, slots, purposes, evidences, starts, items, cycles, waits, attributions, reasons, abandons, teardowns, closes, refusals}
use Rattle.numbers.specs.Reason.{reason_no}

-- ---- the lists, in their sources' order

-- `Output` (mod.rs), and then the three that document 01 adds
pub events_in_order : events ≡ 0 ∷ 1 ∷ 2 ∷ 3 ∷ 4 ∷ 5 ∷ 6 ∷ 7 ∷ 8 ∷ 9 ∷ 10 ∷ 11 ∷ 12 ∷ 13 ∷ 14 ∷ 15 ∷ 16 ∷ 17 ∷ 18 ∷ 19 ∷ []
events_in_order = refl

-- `MsgKind` (mod.rs)
pub messages_in_order : messages ≡ 0 ∷ 1 ∷ 2 ∷ 3 ∷ 4 ∷ []
messages_in_order = refl

-- `Slot` (epoch.rs)
pub slots_in_order : slots ≡ 0 ∷ 1 ∷ 2 ∷ []
slots_in_order = refl

-- `Purpose` (epoch.rs)
pub purposes_in_order : purposes ≡ 0 ∷ 1 ∷ 2 ∷ 3 ∷ []
purposes_in_order = refl

-- `EvidenceKind` (proof.rs)
pub evidences_in_order : evidences ≡ 0 ∷ 1 ∷ 2 ∷ 3 ∷ 4 ∷ 5 ∷ []
evidences_in_order = refl

-- `Start` (machine.rs)
pub starts_in_order : starts ≡ 0 ∷ 1 ∷ []
starts_in_order = refl

-- `Due` (machine.rs)
pub items_in_order : items ≡ 0 ∷ 1 ∷ 2 ∷ 3 ∷ 4 ∷ 5 ∷ 6 ∷ 7 ∷ 8 ∷ 9 ∷ 10 ∷ 11 ∷ []
items_in_order = refl

-- `Cycle` (cycle.rs)
pub cycles_in_order : cycles ≡ 0 ∷ 1 ∷ 2 ∷ 3 ∷ []
cycles_in_order = refl

-- `Wait` (cycle.rs)
pub waits_in_order : waits ≡ 0 ∷ 1 ∷ 2 ∷ []
waits_in_order = refl

-- `Attribution` (reason.rs)
pub attributions_in_order : attributions ≡ 0 ∷ 1 ∷ 2 ∷ []
attributions_in_order = refl

-- `Reason` (reason.rs)
pub reasons_in_order : reasons ≡ 0 ∷ 1 ∷ 2 ∷ 3 ∷ 4 ∷ 5 ∷ 6 ∷ 7 ∷ 8 ∷ 9 ∷ 10 ∷ 11 ∷ 12 ∷ 13 ∷ 14 ∷ 15 ∷ 16 ∷ 17 ∷ 18 ∷ 19 ∷ 20 ∷ 21 ∷ 22 ∷ 23 ∷ 24 ∷ 25 ∷ 26 ∷ 27 ∷ 28 ∷ 29 ∷ 30 ∷ []
reasons_in_order = refl

-- `Abandon` (reason.rs)
pub abandons_in_order : abandons ≡ 0 ∷ 1 ∷ 2 ∷ 3 ∷ 4 ∷ 5 ∷ 6 ∷ 7 ∷ 8 ∷ []
abandons_in_order = refl

-- `Teardown` (reason.rs)
pub teardowns_in_order : teardowns ≡ 0 ∷ 1 ∷ 2 ∷ []
teardowns_in_order = refl

-- `Close` (reason.rs)
pub closes_in_order : closes ≡ 0 ∷ 1 ∷ 2 ∷ 3 ∷ 4 ∷ 5 ∷ 6 ∷ 7 ∷ []
closes_in_order = refl

-- document 01, "What is sent back by number"
pub refusals_in_order : refusals ≡ 1 ∷ 2 ∷ 3 ∷ 4 ∷ 5 ∷ 6 ∷ 7 ∷ 8 ∷ 9 ∷ 10 ∷ 11 ∷ []
refusals_in_order = refl

-- ---- reasons

-- the cases in the source's order
source_order : List Reason
source_order =
    EpochChanged
    ∷ AnsweredBefore
    ∷ OffLink
    ∷ PendingHeld
    ∷ DualInitWon
    ∷ IndexExhausted
    ∷ HandshakeWrite
    ∷ ReplyUnauthenticated
    ∷ LateReply
    ∷ UnknownAttempt
    ∷ UnknownIndex
    ∷ SetupMalformed
    ∷ TieBreakKept
    ∷ CandidatesFull
    ∷ FinalNoAttempt
    ∷ FinalUnauthenticated
    ∷ KeyMismatch
    ∷ StaleIncarnation
    ∷ Replay
    ∷ FrameUnauthenticated
    ∷ ShortPlaintext
    ∷ DelegatedEpoch
    ∷ NotEstablished
    ∷ StaleTag
    ∷ NotDelegated
    ∷ AlreadyDelegated
    ∷ NotOffered
    ∷ AttemptInFlight
    ∷ AlreadyEstablished
    ∷ CandidateExpired
    ∷ NotRekey
    ∷ []

placed : (r : Reason) → get_or source_order (reason_no r) EpochChanged ≡ r
unfolding source_order
placed EpochChanged = refl
placed AnsweredBefore = refl
placed OffLink = refl
placed PendingHeld = refl
placed DualInitWon = refl
placed IndexExhausted = refl
placed HandshakeWrite = refl
placed ReplyUnauthenticated = refl
placed LateReply = refl
placed UnknownAttempt = refl
placed UnknownIndex = refl
placed SetupMalformed = refl
placed TieBreakKept = refl
placed CandidatesFull = refl
placed FinalNoAttempt = refl
placed FinalUnauthenticated = refl
placed KeyMismatch = refl
placed StaleIncarnation = refl
placed Replay = refl
placed FrameUnauthenticated = refl
placed ShortPlaintext = refl
placed DelegatedEpoch = refl
placed NotEstablished = refl
placed StaleTag = refl
placed NotDelegated = refl
placed AlreadyDelegated = refl
placed NotOffered = refl
placed AttemptInFlight = refl
placed AlreadyEstablished = refl
placed CandidateExpired = refl
placed NotRekey = refl

-- a number tells its reason
pub reason_injective : (a b : Reason) → reason_no a ≡ reason_no b → a ≡ b
reason_injective a b e = sym (placed a) ∙ (ap (λ (n : ℕ). get_or source_order n EpochChanged) e ∙ placed b)
