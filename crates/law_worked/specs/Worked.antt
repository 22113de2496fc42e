-- Demand 3 applied to one run that has every kind of call, quiet polls, a refused one, and one for each
-- of the four conditions: an item due, a start called for, a teardown standing, an offer owed. The
-- hypotheses are met, and the theorem gives what one sees by running it.
use Rattle.std.specs.Prelude.{ℕ, ◌≤◌, ◌<◌, ◌≡◌, refl, true, false, List, [], ◌∷◌, pos}
use Rattle.std.proofs.Common.{sym, ◌∙◌, subst, true≢false, arith}
use Rattle.std.proofs.lemmas.Bool.{false≢true}
use Rattle.std.proofs.Math.Option.{none, some}
use Rattle.time.specs.Time.{none as never}
use Rattle.settings.specs.Settings.{fmp}
use Rattle.numbers.specs.Numbers.{slot_current, slot_pending, evidence_frame, start_scheduled, cycle_pend_r, teardown_counter_exhausted, refused_draw}
use Rattle.epoch.specs.declared.Epoch.{Epoch}
use Rattle.epoch.specs.declared.Index.{Index}
use Rattle.state.specs.declared.State.{State}
use Rattle.state.specs.declared.Profile.{Profile}
use Rattle.events.specs.Events.{Event, Mark, Deliver, Delegate, Installed, Rekeyed, Retired, Prompt, Teardown, Start, no_rungs}
use Rattle.call_open.specs.Blank.{no_epoch, no_attempt, no_pend_i, no_candidates, no_drain, no_index}
use Rattle.law_early.specs.Early.{Early}
use Rattle.law_runs.specs.Runs.{poll, named as called, back, gave, Entry, LeftOut, done, stays, out, log_of, second, end_of, AllQuiet, After, Rises, EarlyFor, Late, accepted, quiet}
use Rattle.law_runs.specs.Served.{Name, frame}
use Rattle.law_runs.specs.Link.{Call, a_poll, other, a_frame, a_reply, a_sent, link}
use Rattle.law_runs.proofs.Holds.{two_runs}
use Rattle.time.specs.Lists.{fold, range, kept, take_while}
use Rattle.time.specs.Time.{later_of, sat_add, sat_mul, least, most, factor_of, backoff_of, sum_of, later_by_of, sooner_of}
use Rattle.ladder.specs.Fill.{lost_of, losing, pushed as ladder_pushed, put_of, offered as ladder_offered}
use Rattle.events.specs.Log.{pushed as events_pushed, at, stored, taken_of as events_taken_of, places_of, held}
use Rattle.poll_listing.specs.Listing.{offered as listing_offered, fresh, pass_items}
use Rattle.ladder.specs.Ladder.{remaining, next_at_of, due_rungs, taking, take_of, instant_of}
use Rattle.ladder.specs.Schedule.{cut, doubled, doubling_of, keepalives, filled, probes_of, bits_of, laid, made_of, rung_at, held_of as ladder_held_of, rungs_of, last_of, last_send_of}
use Rattle.candidates.specs.Held.{held_of as candidates_held_of, place_of as candidates_place_of, between, cand_at, held_by, without, expired_in, earliest_of, chosen, choosing, others, removed_of, kept_after, cleared_of, expire_of}
use Rattle.settings.specs.Settings.{failing, first_at, place_of as settings_place_of}
use Rattle.params.specs.Params.{last_offset, msg1_span, confirm_of, span_of, rung_of, gap_of, budget_of, first_made, fin_made, probes_made, revert_made, elicit_made, delayed_made, grace_of, with_hold_of}
use Rattle.candidates.specs.Places.{moved}
use Rattle.candidates.specs.Repeats.{among, repeated, rises_from}
use Rattle.items.specs.Items.{before, insert, sorted, listed_in}
use Rattle.state.specs.Parts.{pending_of, epochs_of, epoch_ladders, cycle_ladders, all_ladders, ladders_of}
use Rattle.state.specs.Stands.{ladder_view, epoch_view, attempt_view, pend_iView, pend_rView, cycle_view, candidate_view, candidates_view, memory_view, stands}
use Rattle.call_reply.specs.Reply.{taken_of as reply_taken_of, setup_rtt, setup_first, setup_sched, attempt_sched, attempt_time, attempt_of, raises_silence, silence_after, memory_after, started_of, replied_tests, reply_refused, reply_of}
use Rattle.events.specs.Queries.{any_of as events_any_of, offered_in, any_from}
use Rattle.refusal.specs.Refusal.{any_of as refusal_any_of, profile_bad, is_pending, epochs_bad_of, numbers_bad, ladder_bad, ladders_bad, spread_bad, first, given_tests, state_tests, poll_tests, frame_tests, link_tests, state_back}
use Rattle.events.specs.Withdraw.{sealable, words_stay}
use Rattle.retire.specs.Retire.{retire_out, abandon_out, offerable, delegate_out}
use Rattle.start.specs.Start.{trigger_of, silence_interval, latest_of, latest_in, trigger_at, silence_at, floors_passed, floor_ends, damped_ends, backed_ends, silence_waits, damped_now, backed_now, triggered_now, scheduled_now, silent_now, kind_of, scheduled_waits, at_of, may_start, start_kind, start_at, called_for}
use Rattle.wake.specs.Due.{ladder_instants, may_instants, fin_instants, elicit_instants, drain_items, candidate_items, pending_items, cycle_items, current_items, named, due_items, any_due, current_instants, standing}
use Rattle.wake.specs.Quiet.{opening_idle, teardown_stands, offer_owed, held_something}
use Rattle.wake.specs.Wake.{exhausted, cycle_instants, stored_instants, wake_instants, wake_of}
use Rattle.refusal.specs.First.{rising}
use Rattle.refusal.specs.Standing.{shared_of, tags_bad, pending_ep, standing_bad, either_bad, epoch_bad, held_bad, cycle_bad}
use Rattle.epoch.specs.Held.{is_tag}
use Rattle.cycle.specs.Held.{is_own, is_peers}
use Rattle.grace.specs.Grace.{grace}
use Rattle.poll_epoch.specs.EpochRows.{drain_due, fin_taken, fin_due, elicit_taken, elicit_due}
use Rattle.poll_cycle.specs.CycleRows.{unadopted_due, late_for, probing, probe_due, delayed_due, resend_taken, resend_due, abandoned_mem, expire_due}
use Rattle.cutover.specs.Cutover.{prunes, pruned, demoted, given_up, spent, kept_fin, heard_now, adopted, heard_frame, cut_memory, remembered, announced, cutover_of}
use Rattle.poll_cut.specs.Cut.{candidate_due, cut_by, held_due, delay_end, unconfirmed, assumed, confirm_due}
use Rattle.poll_item.specs.Item.{holds, alone as turn_alone, low_step, high_step, other_step, item_step}
use Rattle.call_open.specs.Open.{alone as calls_alone}
use Rattle.poll_pass.specs.Pass.{run_item, pass_of}
use Rattle.poll_loop.specs.Passes.{passes_of, three_passes}
use Rattle.poll_close.specs.Closing.{idle_now, tests_out, ends_now, start_out, offer_out, going, waits_for, sealing, closing}
use Rattle.answer.specs.Outcome.{outcome_by}
use Rattle.poll.specs.Poll.{accepted_poll, poll_of}
use Rattle.frame_deliver.specs.Deliver.{reaches, deliver_out, deliver_into}
use Rattle.frame_evidence.specs.Evidence.{blind_to, prompt_due, staying, moves_now, heard_first, heard_cands, moved_first, shortened, prompted_now, stayed_now, heard_epoch, unassumed, reverted_pend, heard_any, only_assumed, confirming}
use Rattle.frame_hear.specs.Hear.{given_of, hearing, heard_current, revert_of, assumed_heard, confirming_heard, heard_previous}
use Rattle.frame_slots.specs.Frame.{pending_tag, slot_tag, ended_out, pend_of, pending_frame, current_frame, previous_frame, slot_frame, frame_of}
use Rattle.frame.specs.Frames.{heard_tests, frame_refused, frame_answer, frame_target}
use Rattle.call_open.specs.Blank.{no_ladder, no_final, no_repeats, no_epoch, no_drain, no_attempt, no_pend_i, no_pend_r, idle, no_candidates}
use Rattle.call_sent.specs.Told.{below_held, told_tests, told_number, told_state, told_of}

-- ---- the run

-- two handshake messages, no silence trigger, no shortest plaintext
abbrev profile : Profile
profile = record { messages = 2; at_proof = false; silence = false; smaller = false; floor = 0 }

-- an epoch of a tag, begun at instant 0, with a lease or none
abbrev pub epoch : ℕ → Index → Epoch
epoch tag lease =
    record {
      tag = tag;
      session = tag;
      sent = 0;
      ids = record { lease = lease; theirs = no_index; transport = 0 };
      k = false;
      responder = true;
      base = never;
      started = 0;
      route = never;
      ext = 0;
      delegated = false;
      floor = never;
      heard = never;
      moved = never;
      assumed = false;
      fin = no_epoch.fin;
      elicit = no_epoch.elicit;
      prompted = never;
    }

-- a current epoch of tag 1 without a lease, and a responder's pending one of tag 2 with lease 9, until
-- 100 s
abbrev pub pair : State
pair =
    record {
      mem = record {
        peer_epoch = never;
        peer_k = record { some = false; on = false };
        jitter = pos 0;
        damp = never;
        backoff = never;
        abandons = 0;
        last_rx = never;
        rx_cur = never;
        sent_data = false;
        silence = 0;
        link_since = 0;
        last_cutover = never;
        hs_rtt = never;
        srtt = never;
        setup_rto = never;
        reachable = true;
        due = false;
      };
      cur = record { some = true; ep = epoch 1 no_index };
      drain = no_drain;
      cycle = record { kind = cycle_pend_r; init = no_attempt; pendi = no_pend_i; pendr = record { ep = epoch 2 (record { some = true; index = 9 }); deadline = 100000; restart = false; answer = never } };
      cands = no_candidates;
    }

abbrev poll_at : ℕ → Call
poll_at now = a_poll fmp profile now false (pos 0) 0

-- an empty frame under the pending epoch
abbrev heard_pending : Call
heard_pending = other (a_frame fmp profile 2000 false (pos 0) (record { tag = 2; slot = slot_pending; counter = 7; k = true; len = 0; probe = false }) 0 [] [])

-- the extra 16 is above the setting jitter, 15
abbrev bad_draw : Call
bad_draw = a_poll fmp profile 2500 false (pos 0) 16

-- a poll with workers
abbrev with_workers : Call
with_workers = a_poll fmp profile 3000 true (pos 0) 0

abbrev answered : Call
answered = other (a_reply fmp profile 122001 (record { opened = true; hs = 1; msg = 2; transport = 3; lease = no_index }))

-- as many as the setting `hard`
abbrev exhausted_at : ℕ → Call
exhausted_at now = other (a_sent now fmp.hard)

abbrev calls : List Call
calls =
    poll_at 1500
    ∷ heard_pending
    ∷ bad_draw
    ∷ with_workers
    ∷ poll_at 12000
    ∷ poll_at 122000
    ∷ answered
    ∷ poll_at 122002
    ∷ exhausted_at 122003
    ∷ poll_at 122004
    ∷ []

-- ---- the hypotheses

-- each instant is above the one before it
abbrev pub Ascends : ℕ → List Call → Type 0
Ascends t [] = Unit {0}
Ascends t (c ∷ cs) = (t < link.at_of c) × Ascends (link.at_of c) cs

after : (c : Call) (t : ℕ) (cs : List Call) → link.at_of c ≤ t → Ascends t cs → After link c cs
after c t [] h a = tt
after c t (d ∷ ds) h a = (omega (arith, h, a.0), λ p q. omega (arith, h, a.0), after c (link.at_of d) ds (omega (arith, h, a.0)) a.1)

pub rises : (t : ℕ) (cs : List Call) → Ascends t cs → Rises link cs
rises t [] a = tt
rises t (c ∷ cs) a = (after c (link.at_of c) cs (omega arith) a.1, rises (link.at_of c) cs a.1)

in_order : Rises link calls
in_order =
    rises 0 calls
    (omega arith, (omega arith, (omega arith, (omega arith, (omega arith, (omega arith, (omega arith, (omega arith, (omega arith, (omega arith, tt))))))))))

-- every start of the first state is 0
begun : (t : ℕ) → Early pair t
unfolding no_drain
begun t = record { link = omega arith; cutover = λ e. absurd (false≢true e); current = λ e. omega arith; own = λ e. absurd (false≢true e); peers = λ e. omega arith; drained = λ e. absurd (false≢true e) }

-- a state whose starts are not after any instant
pub early : (s : State) → ((t : ℕ) → Early s t) → (cs : List Call) → EarlyFor link s cs
early s b [] = tt
early s b (c ∷ cs) = (b (link.at_of c), early s b cs)

-- ---- what one sees

-- what the frame tells: a cutover by frame
abbrev cut_frame : Entry Name Event
cut_frame = record { kind = called frame; at = 2000; said = gave (Mark 2 7 ∷ Installed 2 true evidence_frame ∷ Prompt 2 no_rungs ∷ Rekeyed true ∷ Deliver slot_current 2 0 0 ∷ []) none }

abbrev refused_poll : Entry Name Event
refused_poll = record { kind = poll; at = 2500; said = back refused_draw 0 }

abbrev offer_made : Entry Name Event
offer_made = record { kind = poll; at = 3000; said = gave (Delegate 2 0 9 2 never ∷ []) (some 0) }

abbrev exhaustion : Entry Name Event
exhaustion = record { kind = poll; at = 122004; said = gave (Teardown teardown_counter_exhausted ∷ []) (some 0) }

-- a line of the log for each call that says something
abbrev lines : List (Entry Name Event)
lines =
    cut_frame
    ∷ refused_poll
    ∷ offer_made
    ∷ (record { kind = poll; at = 12000; said = gave (Retired 1 ∷ []) (some 1) })
    ∷ (record { kind = poll; at = 122000; said = gave (Start start_scheduled ∷ []) (some 0) })
    ∷ exhaustion
    ∷ []

-- the two quiet polls left out
abbrev idle_polls : LeftOut link calls
idle_polls = out refl (stays (stays (stays (stays (stays (stays (out refl (stays (stays done)))))))))

-- the poll that retires the drained epoch left out
abbrev due-poll : LeftOut link calls
due-poll = stays (stays (stays (stays (out refl (stays (stays (stays (stays (stays done)))))))))

-- the poll that calls for the start left out
abbrev start-poll : LeftOut link calls
start-poll = stays (stays (stays (stays (stays (out refl (stays (stays (stays (stays done)))))))))

-- the poll that ends the link left out
abbrev teardown-poll : LeftOut link calls
teardown-poll = stays (stays (stays (stays (stays (stays (stays (stays (stays (out refl done)))))))))

-- the poll that makes the offer left out
abbrev offer-poll : LeftOut link calls
offer-poll = stays (stays (stays (out refl (stays (stays (stays (stays (stays (stays done)))))))))

-- the refused poll left out
abbrev refused-poll : LeftOut link calls
refused-poll = stays (stays (out refl (stays (stays (stays (stays (stays (stays (stays done)))))))))

-- the states that those polls get
abbrev cut_over : State
cut_over = end_of link pair (poll_at 1500 ∷ heard_pending ∷ bad_draw ∷ [])

abbrev retired : State
retired = end_of link cut_over (with_workers ∷ poll_at 12000 ∷ [])

abbrev spent_state : State
spent_state = end_of link retired (poll_at 122000 ∷ answered ∷ poll_at 122002 ∷ exhausted_at 122003 ∷ [])

pub record Seen : Type 0 where
  pub passes : link.Ok pair
  pub log : log_of link pair calls ≡ lines
  pub idle : AllQuiet link pair idle_polls
  -- without the poll at 12 s the epoch is retired 110 seconds late, with the start
  pub late : log_of link pair (second link due-poll) ≡ cut_frame ∷ refused_poll ∷ offer_made ∷ (record { kind = poll; at = 122000; said = gave (Retired 1 ∷ Start start_scheduled ∷ []) (some 1) }) ∷ exhaustion ∷ []
  -- each of the four conditions, by itself, at its poll
  pub due : (link.due (poll_at 12000) (end_of link cut_over (with_workers ∷ [])) ≡ true) × (quiet link (poll_at 12000) (end_of link cut_over (with_workers ∷ [])) ≡ false)
  pub start : (link.start_called (poll_at 122000) retired ≡ true) × (quiet link (poll_at 122000) retired ≡ false)
  pub teardown : (link.teardown (poll_at 122004) spent_state ≡ true) × (quiet link (poll_at 122004) spent_state ≡ false)
  pub offer : (link.offer with_workers cut_over ≡ true) × (quiet link with_workers cut_over ≡ false)
  pub refused : quiet link bad_draw (end_of link pair (poll_at 1500 ∷ heard_pending ∷ [])) ≡ false
  -- the wake is the pending epoch's deadline
  pub wake : link.wake (poll_at 1500) pair ≡ some 100000
  pub something : link.held pair ≡ true
  pub goes_on : accepted link (poll_at 1500) pair ≡ true

pub seen : Seen
unfolding fold range kept take_while later_of sat_add sat_mul least most factor_of backoff_of sum_of later_by_of sooner_of lost_of losing ladder_pushed events_pushed put_of ladder_offered listing_offered remaining next_at_of due_rungs taking take_of instant_of cut doubled doubling_of keepalives filled probes_of bits_of laid made_of rung_at ladder_held_of candidates_held_of rungs_of last_of last_send_of failing first_at settings_place_of candidates_place_of last_offset msg1_span confirm_of span_of rung_of gap_of budget_of first_made fin_made probes_made revert_made elicit_made delayed_made grace_of with_hold_of between cand_at held_by without expired_in earliest_of chosen choosing others removed_of kept_after cleared_of expire_of moved among repeated rises_from before insert sorted listed_in pending_of epochs_of epoch_ladders cycle_ladders all_ladders ladders_of ladder_view epoch_view attempt_view pend_iView pend_rView cycle_view candidate_view candidates_view memory_view stands at stored events_taken_of reply_taken_of places_of held events_any_of refusal_any_of offered_in any_from sealable words_stay retire_out abandon_out offerable delegate_out trigger_of silence_interval latest_of latest_in trigger_at silence_at floors_passed floor_ends damped_ends backed_ends silence_waits damped_now backed_now triggered_now scheduled_now silent_now kind_of scheduled_waits at_of may_start start_kind start_at called_for ladder_instants may_instants fin_instants elicit_instants drain_items candidate_items pending_items cycle_items current_items named due_items any_due current_instants standing opening_idle teardown_stands offer_owed held_something exhausted cycle_instants stored_instants wake_instants wake_of rising profile_bad is_pending epochs_bad_of numbers_bad ladder_bad ladders_bad spread_bad first given_tests state_tests poll_tests frame_tests link_tests state_back shared_of tags_bad pending_ep standing_bad either_bad epoch_bad held_bad cycle_bad is_tag is_own is_peers grace drain_due unadopted_due late_for probing probe_due delayed_due fin_taken fin_due elicit_taken elicit_due resend_taken resend_due abandoned_mem expire_due prunes pruned demoted given_up spent kept_fin heard_now adopted heard_frame cut_memory remembered announced cutover_of candidate_due cut_by held_due delay_end unconfirmed assumed confirm_due holds turn_alone calls_alone low_step high_step other_step item_step fresh pass_items run_item pass_of passes_of three_passes idle_now tests_out ends_now start_out offer_out going waits_for sealing closing accepted_poll poll_of reaches deliver_out deliver_into blind_to prompt_due staying moves_now heard_first heard_cands moved_first shortened prompted_now stayed_now heard_epoch unassumed reverted_pend heard_any only_assumed confirming hearing heard_current revert_of assumed_heard confirming_heard heard_previous pending_tag slot_tag ended_out pend_of pending_frame current_frame previous_frame slot_frame frame_of heard_tests frame_refused given_of frame_answer setup_rtt setup_first setup_sched attempt_sched attempt_time attempt_of raises_silence silence_after memory_after started_of replied_tests reply_refused reply_of no_ladder no_final no_repeats no_epoch no_drain no_attempt no_pend_i no_pend_r idle no_candidates below_held told_tests told_number told_state told_of outcome_by frame_target
seen =
    record {
      passes = refl;
      log = refl;
      idle = (refl, (refl, tt));
      late = refl;
      due = (refl, refl);
      start = (refl, refl);
      teardown = (refl, refl);
      offer = (refl, refl);
      refused = refl;
      wake = refl;
      something = refl;
      goes_on = refl;
    }

-- ---- what the theorem gives

-- the quiet polls may be left out: same log, same end state, as a record too
pub same : (log_of link pair calls ≡ log_of link pair (second link idle_polls)) × (stands (end_of link pair calls) ≡ stands (end_of link pair (second link idle_polls)))
same = (two_runs.holds.exactly pair calls idle_polls in_order).1 seen.idle

pub same_record : end_of link pair calls ≡ end_of link pair (second link idle_polls)
same_record = two_runs.holds.records pair calls idle_polls seen.idle

-- a choice with a poll that was not quiet shows in the log, of every run
pub shows : (s : State) (cs : List Call) → Rises link cs → (d : LeftOut link cs) → (AllQuiet link s d → ⊥) → log_of link s cs ≡ log_of link s (second link d) → ⊥
shows s cs r d h p = h (two_runs.holds.logs s cs d r p)

-- so none of the others may: not the poll with a due item, ..
pub due-shows : log_of link pair calls ≡ log_of link pair (second link due-poll) → ⊥
due-shows = shows pair calls in_order due-poll (λ a. true≢false (sym a.0 ∙ seen.due.1))

-- .. a start called for, ..
pub start-shows : log_of link pair calls ≡ log_of link pair (second link start-poll) → ⊥
start-shows = shows pair calls in_order start-poll (λ a. true≢false (sym a.0 ∙ seen.start.1))

-- .. a teardown standing, ..
pub teardown-shows : log_of link pair calls ≡ log_of link pair (second link teardown-poll) → ⊥
teardown-shows = shows pair calls in_order teardown-poll (λ a. true≢false (sym a.0 ∙ seen.teardown.1))

-- .. an offer owed, ..
pub offer-shows : log_of link pair calls ≡ log_of link pair (second link offer-poll) → ⊥
offer-shows = shows pair calls in_order offer-poll (λ a. true≢false (sym a.0 ∙ seen.offer.1))

-- .. nor the refused one
pub refused-shows : log_of link pair calls ≡ log_of link pair (second link refused-poll) → ⊥
refused-shows = shows pair calls in_order refused-poll (λ a. true≢false (sym a.0 ∙ seen.refused))

-- the wake clause at the first poll: the wake is later, so the poll is quiet
pub sleeps : quiet link (poll_at 1500) pair ≡ true
sleeps =
    two_runs.holds.wakes pair [] (poll_at 1500) (heard_pending ∷ [])
    seen.passes
    (rises 0 (poll_at 1500 ∷ heard_pending ∷ []) (omega arith, (omega arith, tt)))
    (early pair begun (poll_at 1500 ∷ heard_pending ∷ []))
    refl seen.goes_on refl seen.something (subst (λ w. Late w 1500) (sym seen.wake) (omega arith))

-- ---- what stands decides

-- the same state, with something else behind the drain's flag and in the attempt that is not open
abbrev littered : State
littered =
    record {
      mem = pair.mem;
      cur = pair.cur;
      drain = record { some = false; ep = epoch 7 no_index; deadline = 5; evidenced = true };
      cycle = record { kind = cycle_pend_r; init = record { hs = 1; out = 2; lease = no_index; transport = 3; first = 4; ladder = no_epoch.fin.ladder; deadline = 5; resent = true }; pendi = no_pend_i; pendr = pair.cycle.pendr };
      cands = pair.cands;
    }

one : stands pair ≡ stands littered
unfolding stands cycle_view no_drain no_epoch
one = refl

-- the log of the run from there is the same
pub one-log : log_of link littered calls ≡ lines
one-log = sym (two_runs.holds.one_state pair littered calls one).0 ∙ seen.log
