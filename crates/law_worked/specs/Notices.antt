-- Demand 3 applied to a run with calls of all nine kinds, in which the five notices change what later polls
-- do. And the answers of single notices at their edges.
use Rattle.std.specs.Prelude.{ℕ, ◌≤◌, ◌≡◌, refl, true, false, List, [], ◌∷◌, pos, length}
use Rattle.std.proofs.Common.{sym, ◌∙◌, subst, true≢false, arith}
use Rattle.std.proofs.lemmas.Bool.{false≢true}
use Rattle.std.proofs.Math.Option.{none, some}
use Rattle.time.specs.declared.When.{When}
use Rattle.time.specs.Time.{none as never, at, later_of, sat_add, sat_mul, least, most, factor_of, backoff_of, sooner_of}
use Rattle.settings.specs.Settings.{fmp, failing, first_at, place_of as settings_place_of}
use Rattle.numbers.specs.Numbers.{slot_current, cycle_init, start_scheduled, start_silence, abandon_revert_unconfirmed, abandon_reverted, refused_draw, reason_stale_tag, reason_not_delegated, reason_already_delegated, reason_not_offered}
use Rattle.epoch.specs.Put.{put_assumed}
use Rattle.state.specs.declared.State.{State}
use Rattle.state.specs.declared.Profile.{Profile}
use Rattle.events.specs.Events.{Event, Mark, Deliver, Delegate, Start, Reverted, Prompt, Reject, Unbind, Release, Retired, Abandoned, no_rungs}
use Rattle.law_early.specs.Early.{Early}
use Rattle.law_notice.specs.Tells.{rejects, worker-alone, notice_alone}
use Rattle.law_runs.specs.Runs.{poll, named as called, back, gave, Entry, LeftOut, done, stays, out, log_of, second, end_of, AllQuiet, Rises, Late, accepted, quiet}
use Rattle.law_runs.specs.Served.{Name, frame, worker, datasent}
use Rattle.law_runs.specs.Link.{Call, a_poll, other, a_frame, a_reply, a_sent, a_worker, a_delegated, an_undelegated, a_data_sent, a_path, link}
use Rattle.law_runs.proofs.Holds.{two_runs}
use Rattle.law_worked.specs.Worked.{epoch, pair, rises, early, shows}
use Rattle.time.specs.Lists.{fold, range, kept, take_while}
use Rattle.poll_listing.specs.Listing.{offered as listing_offered, fresh, pass_items}
use Rattle.ladder.specs.Ladder.{remaining, next_at_of, due_rungs, taking, take_of, instant_of}
use Rattle.ladder.specs.Schedule.{cut, doubled, doubling_of, keepalives, filled, probes_of, bits_of, laid, made_of, rung_at, held_of as ladder_held_of, rungs_of, last_of, last_send_of}
use Rattle.candidates.specs.Held.{held_of as candidates_held_of, between, held_by, earliest_of}
use Rattle.params.specs.Params.{last_offset, msg1_span, confirm_of, rung_of, gap_of, budget_of, first_made, probes_made, revert_made, grace_of}
use Rattle.candidates.specs.Repeats.{among, repeated}
use Rattle.items.specs.Items.{before, insert, sorted, listed_in}
use Rattle.state.specs.Parts.{pending_of, epochs_of, epoch_ladders, cycle_ladders, all_ladders, ladders_of}
use Rattle.state.specs.Stands.{stands}
use Rattle.call_reply.specs.Reply.{taken_of as reply_taken_of, setup_rtt, setup_first, setup_sched, attempt_sched, attempt_time, attempt_of, raises_silence, silence_after, memory_after, started_of, replied_tests, reply_refused, reply_of}
use Rattle.events.specs.Queries.{any_of as events_any_of, offered_in, any_from}
use Rattle.refusal.specs.Refusal.{any_of as refusal_any_of, profile_bad, is_pending, epochs_bad_of, numbers_bad, ladder_bad, ladders_bad, spread_bad, first, given_tests, state_tests, poll_tests, frame_tests, link_tests, state_back}
use Rattle.events.specs.Withdraw.{sealable, words_stay}
use Rattle.retire.specs.Retire.{retire_out, abandon_out, offerable, delegate_out}
use Rattle.start.specs.Start.{trigger_of, silence_interval, latest_of, trigger_at, silence_at, floors_passed, damped_now, backed_now, triggered_now, scheduled_now, silent_now, kind_of, may_start, start_kind, start_at, called_for}
use Rattle.wake.specs.Due.{ladder_instants, may_instants, fin_instants, elicit_instants, drain_items, candidate_items, pending_items, cycle_items, current_items, named, due_items, any_due, current_instants, standing}
use Rattle.wake.specs.Quiet.{opening_idle, teardown_stands, offer_owed, held_something}
use Rattle.wake.specs.Wake.{exhausted, cycle_instants, stored_instants, wake_instants, wake_of}
use Rattle.epoch.specs.Held.{is_tag}
use Rattle.cycle.specs.Held.{is_own, is_peers}
use Rattle.grace.specs.Grace.{grace}
use Rattle.poll_cycle.specs.CycleRows.{late_for, probing, probe_due}
use Rattle.cutover.specs.Cutover.{heard_frame}
use Rattle.poll_cut.specs.Cut.{unconfirmed, confirm_due}
use Rattle.poll_item.specs.Item.{low_step, high_step, other_step, item_step}
use Rattle.poll_pass.specs.Pass.{run_item, pass_of}
use Rattle.poll_loop.specs.Passes.{passes_of, three_passes}
use Rattle.poll_close.specs.Closing.{idle_now, tests_out, ends_now, start_out, offer_out, going, waits_for, sealing, closing}
use Rattle.answer.specs.Outcome.{Outcome, outcome_by, done as accepting}
use Rattle.poll.specs.Poll.{accepted_poll, poll_of}
use Rattle.frame_deliver.specs.Deliver.{reaches, deliver_out}
use Rattle.frame_evidence.specs.Evidence.{blind_to, prompt_due, staying, moves_now, heard_first, heard_cands, moved_first, shortened, prompted_now, stayed_now, heard_epoch, unassumed, reverted_pend, heard_any, only_assumed}
use Rattle.frame_hear.specs.Hear.{given_of, hearing, heard_current, revert_of, assumed_heard, heard_previous}
use Rattle.frame_slots.specs.Frame.{slot_tag, current_frame, slot_frame, frame_of}
use Rattle.frame.specs.Frames.{heard_tests, frame_refused, frame_answer}
use Rattle.call_open.specs.Blank.{no_index, no_ladder, no_final, no_repeats, no_epoch, no_drain, no_attempt, no_pend_i, no_pend_r, idle, no_candidates}
use Rattle.call_sent.specs.Told.{below_held, told_tests, told_number, told_state, told_of}
use Rattle.notice_rows.specs.Rows.{is_pending as notice_is_pending, by_slot, put_floor, put_current, raised, raised_current, raised_previous, worker_of, already, handed, data_mem, path_mem}
use Rattle.notice.specs.Notices.{notice_by, worker_answer, delegated_answer, undelegated_answer}

-- ---- the run

-- two handshake messages, the silence trigger on, no shortest plaintext
abbrev profile : Profile
profile = record { messages = 2; at_proof = false; silence = true; smaller = false; floor = 0 }

-- a current epoch of tag 2 with lease 9, assumed and not yet heard, and a drained one of tag 1, until 100 s
abbrev pub assumed_pair : State
assumed_pair =
    record {
      mem = pair.mem;
      cur = record { some = true; ep = put_assumed (epoch 2 (record { some = true; index = 9 })) true };
      drain = record { some = true; ep = epoch 1 no_index; deadline = 100000; evidenced = false };
      cycle = idle;
      cands = no_candidates;
    }

abbrev poll_at : ℕ → Call
poll_at now = a_poll fmp profile now false (pos 0) 0

-- a poll with workers
abbrev with_workers : ℕ → Call
with_workers now = a_poll fmp profile now true (pos 0) 0

-- a worker takes the epoch of tag 2, and is gone
abbrev taken : Call
taken = other (a_delegated fmp profile 1001 true (pos 0) 2)

abbrev gone : Call
gone = other (an_undelegated fmp profile 1200 true (pos 0) 2)

-- the spread 16 is above the setting jitter, 15
abbrev bad_spread : Call
bad_spread = other (a_data_sent fmp profile 1400 false (pos 16))

abbrev data_sent : Call
data_sent = other (a_data_sent fmp profile 1500 false (pos 0))

-- no next hop; and then one, with a round trip of 80 ms
abbrev cut_off : Call
cut_off = other (a_path fmp profile 1600 false (pos 0) false never)

abbrev found : Call
found = other (a_path fmp profile 32100 false (pos 0) true (at 80))

-- the start is answered: an attempt in progress, with lease 4
abbrev answered : Call
answered = other (a_reply fmp profile 32300 (record { opened = true; hs = 1; msg = 2; transport = 3; lease = record { some = true; index = 4 } }))

-- a worker authenticated a frame under the current epoch (no call of the run)
abbrev heard_new : Call
heard_new = other (a_worker fmp profile 32150 false (pos 0) 2 false 5)

-- a worker authenticated a frame under the drained epoch; and later one under tag 2, which is pending then
abbrev heard_old : Call
heard_old = other (a_worker fmp profile 33000 false (pos 0) 1 false 5)

abbrev heard_pending : Call
heard_pending = other (a_worker fmp profile 33200 false (pos 0) 2 false 6)

-- an empty frame under tag 1, which is current then, and as many frames sent under it
abbrev framed : Call
framed = other (a_frame fmp profile 33300 false (pos 0) (record { tag = 1; slot = slot_current; counter = 7; k = true; len = 0; probe = false }) 0 [] [])

abbrev counted : Call
counted = other (a_sent 33400 8)

abbrev calls : List Call
calls =
    with_workers 1000
    ∷ taken
    ∷ with_workers 1100
    ∷ gone
    ∷ with_workers 1300
    ∷ bad_spread
    ∷ data_sent
    ∷ cut_off
    ∷ poll_at 32000
    ∷ found
    ∷ poll_at 32200
    ∷ answered
    ∷ heard_old
    ∷ poll_at 33100
    ∷ heard_pending
    ∷ framed
    ∷ counted
    ∷ poll_at 45000
    ∷ []

-- ---- the hypotheses

in_order : Rises link calls
in_order =
    rises 0 calls
    (omega arith, (omega arith, (omega arith, (omega arith, (omega arith, (omega arith, (omega arith, (omega arith, (omega arith, (omega arith, (omega arith, (omega arith, (omega arith, (omega arith, (omega arith, (omega arith, (omega arith, (omega arith, tt))))))))))))))))))

-- every start of the first state is 0
begun : (t : ℕ) → Early assumed_pair t
unfolding idle
begun t = record { link = omega arith; cutover = λ e. absurd (false≢true e); current = λ e. omega arith; own = λ e. absurd (false≢true e); peers = λ e. absurd (false≢true e); drained = λ e. omega arith }

-- ---- what one sees

abbrev offered : ℕ → Entry Name Event
offered now = record { kind = poll; at = now; said = gave (Delegate 2 0 9 2 never ∷ []) (some 0) }

-- a line of the log for each call that says something
abbrev lines : List (Entry Name Event)
lines =
    offered 1000
    ∷ offered 1300
    ∷ (record { kind = called datasent; at = 1400; said = back refused_draw 0 })
    ∷ (record { kind = poll; at = 32200; said = gave (Start start_silence ∷ []) (some 0) })
    ∷ (record { kind = called worker; at = 33000; said = gave (Unbind 3 4 ∷ Release 4 ∷ Abandoned abandon_reverted ∷ Reverted 2 ∷ Prompt 2 no_rungs ∷ Prompt 1 no_rungs ∷ []) none })
    ∷ (record { kind = called worker; at = 33200; said = gave (Reject reason_not_delegated ∷ []) none })
    ∷ (record { kind = called frame; at = 33300; said = gave (Mark 1 7 ∷ Deliver slot_current 1 0 0 ∷ []) none })
    ∷ (record { kind = poll; at = 45000; said = gave (Prompt 1 3 ∷ Unbind 0 9 ∷ Release 9 ∷ Retired 2 ∷ Abandoned abandon_revert_unconfirmed ∷ Start start_scheduled ∷ []) (some 2) })
    ∷ []

-- the three quiet polls left out
abbrev quiet_polls : LeftOut link calls
quiet_polls =
    stays (stays (out refl (stays (stays (stays (stays (stays (out refl (stays (stays (stays (stays (out refl (stays (stays (stays (stays done)))))))))))))))))

-- the first poll left out, which makes the offer
abbrev offer-poll : LeftOut link calls
offer-poll =
    out refl (stays (stays (stays (stays (stays (stays (stays (stays (stays (stays (stays (stays (stays (stays (stays (stays (stays done)))))))))))))))))

-- the poll that makes it again left out
abbrev again-poll : LeftOut link calls
again-poll =
    stays (stays (stays (stays (out refl (stays (stays (stays (stays (stays (stays (stays (stays (stays (stays (stays (stays (stays done)))))))))))))))))

-- the poll that calls for the start left out
abbrev start-poll : LeftOut link calls
start-poll =
    stays (stays (stays (stays (stays (stays (stays (stays (stays (stays (out refl (stays (stays (stays (stays (stays (stays (stays done)))))))))))))))))

-- the states that the calls get: with a worker, back here, without a next hop, with one, reverted
abbrev handed_over : State
handed_over = end_of link assumed_pair (with_workers 1000 ∷ taken ∷ [])

abbrev handed_back : State
handed_back = end_of link handed_over (with_workers 1100 ∷ gone ∷ [])

abbrev unreached : State
unreached = end_of link handed_back (with_workers 1300 ∷ bad_spread ∷ data_sent ∷ cut_off ∷ [])

abbrev reached : State
reached = end_of link unreached (poll_at 32000 ∷ found ∷ [])

abbrev reverted : State
reverted = end_of link reached (poll_at 32200 ∷ answered ∷ heard_old ∷ [])

pub record Noticed : Type 0 where
  pub passes : link.Ok assumed_pair
  pub log : log_of link assumed_pair calls ≡ lines
  pub idle : AllQuiet link assumed_pair quiet_polls
  -- an offer is owed; none, while a worker has the receive half; and again one, when the worker is gone
  pub offer : (link.offer (with_workers 1000) assumed_pair ≡ true) × (quiet link (with_workers 1000) assumed_pair ≡ false)
  pub delegated : (link.offer (with_workers 1100) handed_over ≡ false) × (quiet link (with_workers 1100) handed_over ≡ true)
  pub undelegated : (link.offer (with_workers 1300) handed_back ≡ true) × (quiet link (with_workers 1300) handed_back ≡ false)
  -- data was sent, and nothing was heard for 30 s: no start while there is no next hop, and one when there is
  pub no-hop : link.start_called (poll_at 32000) unreached ≡ false
  pub hop : (link.start_called (poll_at 32200) reached ≡ true) × (quiet link (poll_at 32200) reached ≡ false)
  -- without the notice that data was sent that poll is quiet; and so it is where a worker has heard the current epoch
  pub no_data : quiet link (poll_at 32200) (end_of link handed_back (with_workers 1300 ∷ bad_spread ∷ cut_off ∷ poll_at 32000 ∷ found ∷ [])) ≡ true
  pub hears : quiet link (poll_at 32200) (end_of link reached (heard_new ∷ [])) ≡ true
  -- after the revert none is called for; before it was answered, it was
  pub reverts : (link.start_called (poll_at 33100) reverted ≡ false) × (link.start_called (poll_at 33100) (end_of link reached (poll_at 32200 ∷ [])) ≡ true)
  -- the drained epoch is current again, with the counter that the worker told
  pub floor : (reverted.cur.ep.tag ≡ 1) × (reverted.cur.ep.floor ≡ at 5)
  -- the last worker's notice rejects
  pub rejected : rejects (worker_answer reverted fmp profile 33200 false (pos 0) 2 false 6).out ≡ true
  -- without a next hop the wake is the drained epoch's deadline
  pub wake : link.wake (poll_at 32000) unreached ≡ some 100000
  pub something : link.held unreached ≡ true
  pub goes_on : accepted link (poll_at 32000) unreached ≡ true

pub noticed : Noticed
unfolding fold range kept take_while later_of sat_add sat_mul least most factor_of backoff_of sooner_of listing_offered remaining next_at_of due_rungs taking take_of instant_of cut doubled doubling_of keepalives filled probes_of bits_of laid made_of rung_at ladder_held_of candidates_held_of rungs_of last_of last_send_of failing first_at settings_place_of last_offset msg1_span confirm_of rung_of gap_of budget_of first_made probes_made revert_made grace_of between held_by earliest_of among repeated before insert sorted listed_in pending_of epochs_of epoch_ladders cycle_ladders all_ladders ladders_of reply_taken_of events_any_of refusal_any_of offered_in any_from sealable words_stay retire_out abandon_out offerable delegate_out trigger_of silence_interval latest_of trigger_at silence_at floors_passed damped_now backed_now triggered_now scheduled_now silent_now kind_of may_start start_kind start_at called_for ladder_instants may_instants fin_instants elicit_instants drain_items candidate_items pending_items cycle_items current_items named due_items any_due current_instants standing opening_idle teardown_stands offer_owed held_something exhausted cycle_instants stored_instants wake_instants wake_of profile_bad is_pending epochs_bad_of numbers_bad ladder_bad ladders_bad spread_bad first given_tests state_tests poll_tests frame_tests link_tests state_back is_tag is_own is_peers grace late_for probing probe_due heard_frame unconfirmed confirm_due low_step high_step other_step item_step fresh pass_items run_item pass_of passes_of three_passes idle_now tests_out ends_now start_out offer_out going waits_for sealing closing accepted_poll poll_of reaches deliver_out blind_to prompt_due staying moves_now heard_first heard_cands moved_first shortened prompted_now stayed_now heard_epoch unassumed reverted_pend heard_any only_assumed hearing heard_current revert_of assumed_heard heard_previous slot_tag current_frame slot_frame frame_of heard_tests frame_refused given_of frame_answer setup_rtt setup_first setup_sched attempt_sched attempt_time attempt_of raises_silence silence_after memory_after started_of replied_tests reply_refused reply_of no_ladder no_final no_repeats no_epoch no_drain no_attempt no_pend_i no_pend_r idle no_candidates below_held told_tests told_number told_state told_of outcome_by notice_is_pending by_slot raised raised_current raised_previous worker_of already handed data_mem path_mem notice_by
noticed =
    record {
      passes = refl;
      log = refl;
      idle = (refl, (refl, (refl, tt)));
      offer = (refl, refl);
      delegated = (refl, refl);
      undelegated = (refl, refl);
      no-hop = refl;
      hop = (refl, refl);
      no_data = refl;
      hears = refl;
      reverts = (refl, refl);
      floor = (refl, refl);
      rejected = refl;
      wake = refl;
      something = refl;
      goes_on = refl;
    }

-- ---- what the theorem gives

-- the quiet polls may be left out: same log, same end state, as a record too
pub same : (log_of link assumed_pair calls ≡ log_of link assumed_pair (second link quiet_polls)) × (stands (end_of link assumed_pair calls) ≡ stands (end_of link assumed_pair (second link quiet_polls)))
same = (two_runs.holds.exactly assumed_pair calls quiet_polls in_order).1 noticed.idle

pub same_record : end_of link assumed_pair calls ≡ end_of link assumed_pair (second link quiet_polls)
same_record = two_runs.holds.records assumed_pair calls quiet_polls noticed.idle

-- neither poll that makes the offer may be left out, ..
pub offer-shows : log_of link assumed_pair calls ≡ log_of link assumed_pair (second link offer-poll) → ⊥
offer-shows = shows assumed_pair calls in_order offer-poll (λ a. true≢false (sym a.0 ∙ noticed.offer.1))

pub again-shows : log_of link assumed_pair calls ≡ log_of link assumed_pair (second link again-poll) → ⊥
again-shows = shows assumed_pair calls in_order again-poll (λ a. true≢false (sym a.0 ∙ noticed.undelegated.1))

-- .. nor the one that calls for the start
pub start-shows : log_of link assumed_pair calls ≡ log_of link assumed_pair (second link start-poll) → ⊥
start-shows = shows assumed_pair calls in_order start-poll (λ a. true≢false (sym a.0 ∙ noticed.hop.1))

-- the wake clause at the poll without a next hop: the wake is later, so the poll is quiet
pub sleeps : quiet link (poll_at 32000) unreached ≡ true
sleeps =
    two_runs.holds.wakes assumed_pair
    (with_workers 1000 ∷ taken ∷ with_workers 1100 ∷ gone ∷ with_workers 1300 ∷ bad_spread ∷ data_sent ∷ cut_off ∷ [])
    (poll_at 32000)
    (found ∷ poll_at 32200 ∷ answered ∷ heard_old ∷ poll_at 33100 ∷ heard_pending ∷ framed ∷ counted ∷ poll_at 45000 ∷ [])
    noticed.passes in_order (early assumed_pair begun calls)
    refl noticed.goes_on refl noticed.something (subst (λ w. Late w 32000) (sym noticed.wake) (omega arith))

-- the notice that rejects leaves the state
pub left : end_of link reverted (heard_pending ∷ []) ≡ reverted
left = (notice_alone reverted fmp profile (pos 0) _ (worker-alone reverted (given_of fmp profile 33200 false) 2 false 6) noticed.rejected).0

-- ---- single notices

-- at two seconds
abbrev worked : State → ℕ → ℕ → Outcome
worked s tag counter = worker_answer s fmp profile 2000 false (pos 0) tag false counter

abbrev handing : State → ℕ → Outcome
handing s tag = delegated_answer s fmp profile (pos 0) tag

abbrev handing_back : State → ℕ → Outcome
handing_back s tag = undelegated_answer s fmp profile (pos 0) tag

-- a floor of the current epoch
abbrev floored : When → State
floored w = put_current assumed_pair (put_floor assumed_pair.cur.ep w)

abbrev floor_after : When → ℕ → When
floor_after w counter = (worked (floored w) 2 counter).state.cur.ep.floor

-- an attempt in progress, with lease 4
abbrev attempting : State
attempting =
    record {
      mem = assumed_pair.mem;
      cur = assumed_pair.cur;
      drain = assumed_pair.drain;
      cycle = record { kind = cycle_init; init = record { hs = 1; out = 2; lease = record { some = true; index = 4 }; transport = 3; first = 0; ladder = no_ladder; deadline = 30000; resent = false }; pendi = no_pend_i; pendr = no_pend_r };
      cands = no_candidates;
    }

-- a call that is accepted, rejects, and leaves the state
abbrev Rejects : State → Outcome → ℕ → Type 0
Rejects s o reason = o ≡ accepting s (Reject reason ∷ [])

pub record NoticeEdges : Type 0 where
  -- a counter below the floor, equal to it and above it; and the first
  pub below : floor_after (at 7) 6 ≡ at 7
  pub equal : floor_after (at 7) 7 ≡ at 7
  pub above : floor_after (at 7) 8 ≡ at 8
  pub first : floor_after never 0 ≡ at 0
  -- the current epoch is heard, also one that is received here, and tells nothing
  pub heard : ((worked assumed_pair 2 0).state.cur.ep.heard ≡ at 2000) × ((worked assumed_pair 2 0).out ≡ [])
  -- an attempt in progress is abandoned by the revert: six events, so that the bound of law_notice is the least
  pub six : ((worked attempting 1 5).number ≡ 0) × ((worked attempting 1 5).out ≡ Unbind 3 4 ∷ Release 4 ∷ Abandoned abandon_reverted ∷ Reverted 2 ∷ Prompt 2 no_rungs ∷ Prompt 1 no_rungs ∷ [])
  -- the epoch of tag 2 is pending: no cutover
  pub pending : Rejects pair (worked pair 2 7) reason_not_delegated × Rejects pair (handing pair 2) reason_not_offered × Rejects pair (handing_back pair 2) reason_not_delegated
  -- nothing has tag 3
  pub stale : Rejects pair (worked pair 3 7) reason_stale_tag × Rejects pair (handing pair 3) reason_stale_tag × Rejects pair (handing_back pair 3) reason_stale_tag
  -- handed over twice, and back from here
  pub twice : Rejects (handing pair 1).state (handing (handing pair 1).state 1) reason_already_delegated
  pub here : Rejects pair (handing_back pair 1) reason_not_delegated
  -- handed over and back, it is what it was
  pub returned : handing_back (handing pair 1).state 1 ≡ accepting pair []

pub notice_edges : NoticeEdges
unfolding range least later_of most failing first_at settings_place_of candidates_held_of between among repeated pending_of epochs_of epoch_ladders cycle_ladders all_ladders ladders_of refusal_any_of profile_bad epochs_bad_of numbers_bad ladder_bad ladders_bad spread_bad first given_tests state_tests frame_tests is_tag is_own is_peers blind_to moves_now heard_first moved_first prompted_now heard_epoch hearing heard_current revert_of assumed_heard heard_previous only_assumed abandon_out given_of no_ladder no_final no_repeats no_epoch no_drain idle no_pend_i no_pend_r no_candidates outcome_by notice_is_pending by_slot raised raised_current raised_previous worker_of already handed notice_by
notice_edges =
    record {
      below = refl;
      equal = refl;
      above = refl;
      first = refl;
      heard = (refl, refl);
      six = (refl, refl);
      pending = (refl, refl, refl);
      stale = (refl, refl, refl);
      twice = refl;
      here = refl;
      returned = refl;
    }

-- no bound of a worker's events is below 6
pub six-least : (n : ℕ) → ((s : State) (tag counter : ℕ) → length (worked s tag counter).out ≤ n) → 6 ≤ n
six-least n h = subst (λ (l : List Event). length l ≤ n) notice_edges.six.1 (h attempting 1 5)
