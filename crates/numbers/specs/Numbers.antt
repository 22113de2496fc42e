-- The numbers that stand for the cases of an enum, each the case's place in the source's list from 0, and
-- document 01's numbers. A name is the enum's last word and then the case. src/ has the same names for
-- code; Laws.antt says that each list is in order.
use Rattle.std.specs.Prelude.{ℕ, Bool, true, false, List, [], ◌∷◌}

-- a flag as a word
abbrev pub bit : Bool → ℕ
bit false = 0
bit true = 1

-- `Role` (epoch.rs), which the port keeps as a flag: Initiator, Responder
abbrev pub role_no : Bool → ℕ
role_no responder = bit responder

-- ---- `Output` (mod.rs), and then the three that document 01 adds

abbrev pub event_send : ℕ
event_send = 0

abbrev pub event_prompt : ℕ
event_prompt = 1

abbrev pub event_deliver : ℕ
event_deliver = 2

abbrev pub event_bind : ℕ
event_bind = 3

abbrev pub event_unbind : ℕ
event_unbind = 4

abbrev pub event_delegate : ℕ
event_delegate = 5

abbrev pub event_revoke : ℕ
event_revoke = 6

abbrev pub event_release : ℕ
event_release = 7

abbrev pub event_installed : ℕ
event_installed = 8

abbrev pub event_retired : ℕ
event_retired = 9

abbrev pub event_reverted : ℕ
event_reverted = 10

abbrev pub event_peer_restarted : ℕ
event_peer_restarted = 11

abbrev pub event_rekeyed : ℕ
event_rekeyed = 12

abbrev pub event_replace_requested : ℕ
event_replace_requested = 13

abbrev pub event_reject : ℕ
event_reject = 14

abbrev pub event_abandoned : ℕ
event_abandoned = 15

abbrev pub event_teardown : ℕ
event_teardown = 16

abbrev pub event_mark : ℕ
event_mark = 17

abbrev pub event_start : ℕ
event_start = 18

abbrev pub event_ended : ℕ
event_ended = 19

abbrev pub events : List ℕ
events = event_send ∷ event_prompt ∷ event_deliver ∷ event_bind ∷ event_unbind ∷ event_delegate ∷ event_revoke ∷ event_release ∷ event_installed ∷ event_retired ∷ event_reverted ∷ event_peer_restarted ∷ event_rekeyed ∷ event_replace_requested ∷ event_reject ∷ event_abandoned ∷ event_teardown ∷ event_mark ∷ event_start ∷ event_ended ∷ []

-- ---- `MsgKind` (mod.rs)

abbrev pub kind_msg1 : ℕ
kind_msg1 = 0

abbrev pub kind_msg2 : ℕ
kind_msg2 = 1

abbrev pub kind_setup : ℕ
kind_setup = 2

abbrev pub kind_ack : ℕ
kind_ack = 3

abbrev pub kind_msg3 : ℕ
kind_msg3 = 4

abbrev pub messages : List ℕ
messages = kind_msg1 ∷ kind_msg2 ∷ kind_setup ∷ kind_ack ∷ kind_msg3 ∷ []

-- ---- `Slot` (epoch.rs)

abbrev pub slot_current : ℕ
slot_current = 0

abbrev pub slot_pending : ℕ
slot_pending = 1

abbrev pub slot_previous : ℕ
slot_previous = 2

abbrev pub slots : List ℕ
slots = slot_current ∷ slot_pending ∷ slot_previous ∷ []

-- ---- `Purpose` (epoch.rs)

abbrev pub purpose_attempt : ℕ
purpose_attempt = 0

abbrev pub purpose_pending : ℕ
purpose_pending = 1

abbrev pub purpose_current : ℕ
purpose_current = 2

abbrev pub purpose_previous : ℕ
purpose_previous = 3

abbrev pub purposes : List ℕ
purposes = purpose_attempt ∷ purpose_pending ∷ purpose_current ∷ purpose_previous ∷ []

-- ---- `EvidenceKind` (proof.rs)

abbrev pub evidence_proof : ℕ
evidence_proof = 0

abbrev pub evidence_frame : ℕ
evidence_frame = 1

abbrev pub evidence_restart : ℕ
evidence_restart = 2

abbrev pub evidence_assumed : ℕ
evidence_assumed = 3

abbrev pub evidence_delay : ℕ
evidence_delay = 4

abbrev pub evidence_first : ℕ
evidence_first = 5

abbrev pub evidences : List ℕ
evidences = evidence_proof ∷ evidence_frame ∷ evidence_restart ∷ evidence_assumed ∷ evidence_delay ∷ evidence_first ∷ []

-- ---- `Start` (machine.rs)

abbrev pub start_scheduled : ℕ
start_scheduled = 0

abbrev pub start_silence : ℕ
start_silence = 1

abbrev pub starts : List ℕ
starts = start_scheduled ∷ start_silence ∷ []

-- ---- `Due` (machine.rs)

abbrev pub item_drain : ℕ
item_drain = 0

abbrev pub item_candidate : ℕ
item_candidate = 1

abbrev pub item_unadopted : ℕ
item_unadopted = 2

abbrev pub item_held : ℕ
item_held = 3

abbrev pub item_probe : ℕ
item_probe = 4

abbrev pub item_delayed : ℕ
item_delayed = 5

abbrev pub item_fin : ℕ
item_fin = 6

abbrev pub item_elicit : ℕ
item_elicit = 7

abbrev pub item_confirm : ℕ
item_confirm = 8

abbrev pub item_delay_end : ℕ
item_delay_end = 9

abbrev pub item_resend : ℕ
item_resend = 10

abbrev pub item_expire : ℕ
item_expire = 11

abbrev pub items : List ℕ
items = item_drain ∷ item_candidate ∷ item_unadopted ∷ item_held ∷ item_probe ∷ item_delayed ∷ item_fin ∷ item_elicit ∷ item_confirm ∷ item_delay_end ∷ item_resend ∷ item_expire ∷ []

-- ---- `Cycle` (cycle.rs)

abbrev pub cycle_idle : ℕ
cycle_idle = 0

abbrev pub cycle_init : ℕ
cycle_init = 1

abbrev pub cycle_pend_i : ℕ
cycle_pend_i = 2

abbrev pub cycle_pend_r : ℕ
cycle_pend_r = 3

abbrev pub cycles : List ℕ
cycles = cycle_idle ∷ cycle_init ∷ cycle_pend_i ∷ cycle_pend_r ∷ []

-- ---- `Wait` (cycle.rs)

abbrev pub wait_held : ℕ
wait_held = 0

abbrev pub wait_evidence : ℕ
wait_evidence = 1

abbrev pub wait_delay : ℕ
wait_delay = 2

abbrev pub waits : List ℕ
waits = wait_held ∷ wait_evidence ∷ wait_delay ∷ []

-- ---- `Attribution` (reason.rs)

abbrev pub attribution_peer : ℕ
attribution_peer = 0

abbrev pub attribution_network : ℕ
attribution_network = 1

abbrev pub attribution_local : ℕ
attribution_local = 2

abbrev pub attributions : List ℕ
attributions = attribution_peer ∷ attribution_network ∷ attribution_local ∷ []

-- ---- `Reason` (reason.rs)

abbrev pub reason_epoch_changed : ℕ
reason_epoch_changed = 0

abbrev pub reason_answered_before : ℕ
reason_answered_before = 1

abbrev pub reason_off_link : ℕ
reason_off_link = 2

abbrev pub reason_pending_held : ℕ
reason_pending_held = 3

abbrev pub reason_dual_init_won : ℕ
reason_dual_init_won = 4

abbrev pub reason_index_exhausted : ℕ
reason_index_exhausted = 5

abbrev pub reason_handshake_write : ℕ
reason_handshake_write = 6

abbrev pub reason_reply_unauthenticated : ℕ
reason_reply_unauthenticated = 7

abbrev pub reason_late_reply : ℕ
reason_late_reply = 8

abbrev pub reason_unknown_attempt : ℕ
reason_unknown_attempt = 9

abbrev pub reason_unknown_index : ℕ
reason_unknown_index = 10

abbrev pub reason_setup_malformed : ℕ
reason_setup_malformed = 11

abbrev pub reason_tie_break_kept : ℕ
reason_tie_break_kept = 12

abbrev pub reason_candidates_full : ℕ
reason_candidates_full = 13

abbrev pub reason_final_no_attempt : ℕ
reason_final_no_attempt = 14

abbrev pub reason_final_unauthenticated : ℕ
reason_final_unauthenticated = 15

abbrev pub reason_key_mismatch : ℕ
reason_key_mismatch = 16

abbrev pub reason_stale_incarnation : ℕ
reason_stale_incarnation = 17

abbrev pub reason_replay : ℕ
reason_replay = 18

abbrev pub reason_frame_unauthenticated : ℕ
reason_frame_unauthenticated = 19

abbrev pub reason_short_plaintext : ℕ
reason_short_plaintext = 20

abbrev pub reason_delegated_epoch : ℕ
reason_delegated_epoch = 21

abbrev pub reason_not_established : ℕ
reason_not_established = 22

abbrev pub reason_stale_tag : ℕ
reason_stale_tag = 23

abbrev pub reason_not_delegated : ℕ
reason_not_delegated = 24

abbrev pub reason_already_delegated : ℕ
reason_already_delegated = 25

abbrev pub reason_not_offered : ℕ
reason_not_offered = 26

abbrev pub reason_attempt_in_flight : ℕ
reason_attempt_in_flight = 27

abbrev pub reason_already_established : ℕ
reason_already_established = 28

abbrev pub reason_candidate_expired : ℕ
reason_candidate_expired = 29

abbrev pub reason_not_rekey : ℕ
reason_not_rekey = 30

abbrev pub reasons : List ℕ
reasons = reason_epoch_changed ∷ reason_answered_before ∷ reason_off_link ∷ reason_pending_held ∷ reason_dual_init_won ∷ reason_index_exhausted ∷ reason_handshake_write ∷ reason_reply_unauthenticated ∷ reason_late_reply ∷ reason_unknown_attempt ∷ reason_unknown_index ∷ reason_setup_malformed ∷ reason_tie_break_kept ∷ reason_candidates_full ∷ reason_final_no_attempt ∷ reason_final_unauthenticated ∷ reason_key_mismatch ∷ reason_stale_incarnation ∷ reason_replay ∷ reason_frame_unauthenticated ∷ reason_short_plaintext ∷ reason_delegated_epoch ∷ reason_not_established ∷ reason_stale_tag ∷ reason_not_delegated ∷ reason_already_delegated ∷ reason_not_offered ∷ reason_attempt_in_flight ∷ reason_already_established ∷ reason_candidate_expired ∷ reason_not_rekey ∷ []

-- ---- `Abandon` (reason.rs)

abbrev pub abandon_adoption_not_seen : ℕ
abandon_adoption_not_seen = 0

abbrev pub abandon_unadopted : ℕ
abandon_unadopted = 1

abbrev pub abandon_peer_stayed_on_old : ℕ
abandon_peer_stayed_on_old = 2

abbrev pub abandon_revert_unconfirmed : ℕ
abandon_revert_unconfirmed = 3

abbrev pub abandon_unanswered : ℕ
abandon_unanswered = 4

abbrev pub abandon_yielded : ℕ
abandon_yielded = 5

abbrev pub abandon_reverted : ℕ
abandon_reverted = 6

abbrev pub abandon_superseded : ℕ
abandon_superseded = 7

abbrev pub abandon_closed : ℕ
abandon_closed = 8

abbrev pub abandons : List ℕ
abandons = abandon_adoption_not_seen ∷ abandon_unadopted ∷ abandon_peer_stayed_on_old ∷ abandon_revert_unconfirmed ∷ abandon_unanswered ∷ abandon_yielded ∷ abandon_reverted ∷ abandon_superseded ∷ abandon_closed ∷ []

-- ---- `Teardown` (reason.rs)

abbrev pub teardown_opening_idle : ℕ
teardown_opening_idle = 0

abbrev pub teardown_opening_failed : ℕ
teardown_opening_failed = 1

abbrev pub teardown_counter_exhausted : ℕ
teardown_counter_exhausted = 2

abbrev pub teardowns : List ℕ
teardowns = teardown_opening_idle ∷ teardown_opening_failed ∷ teardown_counter_exhausted ∷ []

-- ---- `Close` (reason.rs)

abbrev pub close_restart : ℕ
close_restart = 0

abbrev pub close_disconnect : ℕ
close_disconnect = 1

abbrev pub close_link_dead : ℕ
close_link_dead = 2

abbrev pub close_idle_purge : ℕ
close_idle_purge = 3

abbrev pub close_admin : ℕ
close_admin = 4

abbrev pub close_cross_connection_move : ℕ
close_cross_connection_move = 5

abbrev pub close_opening_teardown : ℕ
close_opening_teardown = 6

abbrev pub close_shutdown : ℕ
close_shutdown = 7

abbrev pub closes : List ℕ
closes = close_restart ∷ close_disconnect ∷ close_link_dead ∷ close_idle_purge ∷ close_admin ∷ close_cross_connection_move ∷ close_opening_teardown ∷ close_shutdown ∷ []

-- ---- document 01, "What is sent back by number"

-- "The settings fail a check of 004; the first such check's place in file order, from 1, is given."
abbrev pub refused_settings : ℕ
refused_settings = 1

-- "A profile value lies outside its range."
abbrev pub refused_profile : ℕ
refused_profile = 2

-- "The state holds more than 32 candidates."
abbrev pub refused_candidates : ℕ
refused_candidates = 3

-- "A pending or drained epoch stands without a current one."
abbrev pub refused_no_current : ℕ
refused_no_current = 4

-- "Two epochs share a tag, or two candidates a sequence number."
abbrev pub refused_shared : ℕ
refused_shared = 5

-- "A ladder has more than 16 rungs, or stands past its last."
abbrev pub refused_ladder : ℕ
refused_ladder = 6

-- "A draw lies outside its range."
abbrev pub refused_draw : ℕ
refused_draw = 7

-- "A frame names a slot that holds no epoch."
abbrev pub refused_slot : ℕ
refused_slot = 8

-- "A frame's tag is not that epoch's tag."
abbrev pub refused_tag : ℕ
refused_tag = 9

-- "A start reply comes while no start is called for or the sent count has reached `hard`."
abbrev pub refused_no_start : ℕ
refused_no_start = 10

-- "A told sent count is below the held one."
abbrev pub refused_sent : ℕ
refused_sent = 11

abbrev pub refusals : List ℕ
refusals = refused_settings ∷ refused_profile ∷ refused_candidates ∷ refused_no_current ∷ refused_shared ∷ refused_ladder ∷ refused_draw ∷ refused_slot ∷ refused_tag ∷ refused_no_start ∷ refused_sent ∷ []
