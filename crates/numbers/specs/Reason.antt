-- The numbers of the cases of reason.rs, and whom a reason is attributed to.
use Rattle.std.specs.Prelude.{ℕ, Bool, true, eqb}
use Rattle.numbers.specs.Numbers.{attribution_peer, attribution_network, attribution_local, reason_epoch_changed, reason_answered_before, reason_off_link, reason_pending_held, reason_dual_init_won, reason_index_exhausted, reason_handshake_write, reason_reply_unauthenticated, reason_late_reply, reason_unknown_attempt, reason_unknown_index, reason_setup_malformed, reason_tie_break_kept, reason_candidates_full, reason_final_no_attempt, reason_final_unauthenticated, reason_key_mismatch, reason_stale_incarnation, reason_replay, reason_frame_unauthenticated, reason_short_plaintext, reason_delegated_epoch, reason_not_established, reason_stale_tag, reason_not_delegated, reason_already_delegated, reason_not_offered, reason_attempt_in_flight, reason_already_established, reason_candidate_expired, reason_not_rekey, abandon_adoption_not_seen, abandon_unadopted, abandon_peer_stayed_on_old, abandon_revert_unconfirmed, abandon_unanswered, abandon_yielded, abandon_reverted, abandon_superseded, abandon_closed, teardown_opening_idle, teardown_opening_failed, teardown_counter_exhausted, close_restart, close_disconnect, close_link_dead, close_idle_purge, close_admin, close_cross_connection_move, close_opening_teardown, close_shutdown}
use Rattle.numbers.specs.declared.attribution.Attribution.{Attribution}
use Rattle.numbers.specs.declared.attribution.Attribution.TheVariants.{Peer, Network, Local}
use Rattle.numbers.specs.declared.reason.Reason.{Reason}
use Rattle.numbers.specs.declared.reason.Reason.TheVariants.{EpochChanged, AnsweredBefore, OffLink, PendingHeld, DualInitWon, IndexExhausted, HandshakeWrite, ReplyUnauthenticated, LateReply, UnknownAttempt, UnknownIndex, SetupMalformed, TieBreakKept, CandidatesFull, FinalNoAttempt, FinalUnauthenticated, KeyMismatch, StaleIncarnation, Replay, FrameUnauthenticated, ShortPlaintext, DelegatedEpoch, NotEstablished, StaleTag, NotDelegated, AlreadyDelegated, NotOffered, AttemptInFlight, AlreadyEstablished, CandidateExpired, NotRekey}
use Rattle.numbers.specs.declared.abandon.Abandon.{Abandon}
use Rattle.numbers.specs.declared.abandon.Abandon.TheVariants.{AdoptionNotSeen, Unadopted, PeerStayedOnOld, RevertUnconfirmed, Unanswered, Yielded, Reverted, Superseded, Closed}
use Rattle.numbers.specs.declared.teardown.Teardown.{Teardown}
use Rattle.numbers.specs.declared.teardown.Teardown.TheVariants.{OpeningIdle, OpeningFailed, CounterExhausted}
use Rattle.numbers.specs.declared.close.Close.{Close}
use Rattle.numbers.specs.declared.close.Close.TheVariants.{Restart, Disconnect, LinkDead, IdlePurge, Admin, CrossConnectionMove, OpeningTeardown, Shutdown}

-- `Attribution`
abbrev pub attribution_no : Attribution → ℕ
attribution_no Peer = attribution_peer
attribution_no Network = attribution_network
attribution_no Local = attribution_local

-- `Reason`
abbrev pub reason_no : Reason → ℕ
reason_no EpochChanged = reason_epoch_changed
reason_no AnsweredBefore = reason_answered_before
reason_no OffLink = reason_off_link
reason_no PendingHeld = reason_pending_held
reason_no DualInitWon = reason_dual_init_won
reason_no IndexExhausted = reason_index_exhausted
reason_no HandshakeWrite = reason_handshake_write
reason_no ReplyUnauthenticated = reason_reply_unauthenticated
reason_no LateReply = reason_late_reply
reason_no UnknownAttempt = reason_unknown_attempt
reason_no UnknownIndex = reason_unknown_index
reason_no SetupMalformed = reason_setup_malformed
reason_no TieBreakKept = reason_tie_break_kept
reason_no CandidatesFull = reason_candidates_full
reason_no FinalNoAttempt = reason_final_no_attempt
reason_no FinalUnauthenticated = reason_final_unauthenticated
reason_no KeyMismatch = reason_key_mismatch
reason_no StaleIncarnation = reason_stale_incarnation
reason_no Replay = reason_replay
reason_no FrameUnauthenticated = reason_frame_unauthenticated
reason_no ShortPlaintext = reason_short_plaintext
reason_no DelegatedEpoch = reason_delegated_epoch
reason_no NotEstablished = reason_not_established
reason_no StaleTag = reason_stale_tag
reason_no NotDelegated = reason_not_delegated
reason_no AlreadyDelegated = reason_already_delegated
reason_no NotOffered = reason_not_offered
reason_no AttemptInFlight = reason_attempt_in_flight
reason_no AlreadyEstablished = reason_already_established
reason_no CandidateExpired = reason_candidate_expired
reason_no NotRekey = reason_not_rekey

-- `Abandon`; why a machine was closed is no part of the number
abbrev pub abandon_no : Abandon → ℕ
abandon_no AdoptionNotSeen = abandon_adoption_not_seen
abandon_no Unadopted = abandon_unadopted
abandon_no PeerStayedOnOld = abandon_peer_stayed_on_old
abandon_no RevertUnconfirmed = abandon_revert_unconfirmed
abandon_no Unanswered = abandon_unanswered
abandon_no Yielded = abandon_yielded
abandon_no Reverted = abandon_reverted
abandon_no Superseded = abandon_superseded
abandon_no Closed = abandon_closed

-- `Teardown`
abbrev pub teardown_no : Teardown → ℕ
teardown_no OpeningIdle = teardown_opening_idle
teardown_no OpeningFailed = teardown_opening_failed
teardown_no CounterExhausted = teardown_counter_exhausted

-- `Close`
abbrev pub close_no : Close → ℕ
close_no Restart = close_restart
close_no Disconnect = close_disconnect
close_no LinkDead = close_link_dead
close_no IdlePurge = close_idle_purge
close_no Admin = close_admin
close_no CrossConnectionMove = close_cross_connection_move
close_no OpeningTeardown = close_opening_teardown
close_no Shutdown = close_shutdown

-- "Who the outcome is attributed to" (`attribution`)
abbrev pub attribution_of : Reason → Attribution
attribution_of EpochChanged = Peer
attribution_of AnsweredBefore = Network
attribution_of OffLink = Network
attribution_of PendingHeld = Peer
attribution_of DualInitWon = Peer
attribution_of IndexExhausted = Local
attribution_of HandshakeWrite = Local
attribution_of ReplyUnauthenticated = Network
attribution_of LateReply = Network
attribution_of UnknownAttempt = Network
attribution_of UnknownIndex = Network
attribution_of SetupMalformed = Network
attribution_of TieBreakKept = Peer
attribution_of CandidatesFull = Network
attribution_of FinalNoAttempt = Network
attribution_of FinalUnauthenticated = Network
attribution_of KeyMismatch = Network
attribution_of StaleIncarnation = Peer
attribution_of Replay = Network
attribution_of FrameUnauthenticated = Network
attribution_of ShortPlaintext = Peer
attribution_of DelegatedEpoch = Local
attribution_of NotEstablished = Network
attribution_of StaleTag = Local
attribution_of NotDelegated = Local
attribution_of AlreadyDelegated = Local
attribution_of NotOffered = Local
attribution_of AttemptInFlight = Local
attribution_of AlreadyEstablished = Local
attribution_of CandidateExpired = Network
attribution_of NotRekey = Local

abbrev pub reachable_by : Attribution → Bool → Bool
reachable_by Network kept = true
reachable_by Peer kept = kept
reachable_by Local kept = kept

-- "Whether input that has not authenticated can cause this outcome" (`unauthenticated_reachable`):
-- what is attributed to the network, and else TieBreakKept alone
abbrev pub reachable_of : Reason → Bool
reachable_of r = reachable_by (attribution_of r) (eqb (reason_no r) reason_tie_break_kept)
