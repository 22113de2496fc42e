-- The edges that document 01 names, each computed on both sides through the definition of its call.
use Rattle.std.specs.Prelude.{ℕ, ◌-◌, true, false, ◌≡◌, refl, [], ◌∷◌, pos, replicate}
use Rattle.time.specs.Lists.{fold, range, kept}
use Rattle.time.specs.Time.{least, later_of}
use Rattle.settings.specs.Settings.{fmp, failing, first_at, place_of as settings_place_of}
use Rattle.numbers.specs.Numbers.{slot_current, refused_candidates, refused_no_start}
use Rattle.candidates.specs.declared.Candidates.{Candidates}
use Rattle.candidates.specs.Held.{held_of, place_of as candidates_place_of, between, cand_at, held_by, expired_in, choosing, others, removed_of, expire_of}
use Rattle.candidates.specs.Repeats.{among, repeated}
use Rattle.items.specs.Items.{insert, sorted, listed_in}
use Rattle.state.specs.declared.State.{State}
use Rattle.state.specs.declared.Profile.{Profile}
use Rattle.state.specs.Parts.{put_cands, pending_of, epochs_of, epoch_ladders, cycle_ladders, all_ladders, ladders_of}
use Rattle.events.specs.Events.{Mark, Deliver, Prompt, no_rungs}
use Rattle.refusal.specs.Refusal.{any_of, profile_bad, epochs_bad_of, numbers_bad, ladders_bad, spread_bad, first, given_tests, state_tests, poll_tests, frame_tests, link_tests}
use Rattle.start.specs.Start.{floors_passed, damped_now, backed_now, triggered_now, scheduled_now, kind_of, may_start, start_kind, called_for}
use Rattle.wake.specs.Due.{may_instants, fin_instants, elicit_instants, drain_items, candidate_items, cycle_items, current_items, named, due_items}
use Rattle.poll_cut.specs.Cut.{candidate_due}
use Rattle.poll_item.specs.Item.{item_step}
use Rattle.poll_listing.specs.Listing.{fresh, pass_items}
use Rattle.poll_pass.specs.Pass.{run_item, pass_of}
use Rattle.poll_loop.specs.Passes.{passes_of, three_passes}
use Rattle.frame_deliver.specs.Deliver.{reaches, deliver_out}
use Rattle.frame_evidence.specs.Evidence.{blind_to, prompt_due, moves_now, heard_first, moved_first, prompted_now, heard_epoch}
use Rattle.frame_hear.specs.Hear.{given_of, hearing, heard_current}
use Rattle.frame_slots.specs.Frame.{slot_tag, current_frame, slot_frame, frame_of}
use Rattle.answer.specs.Outcome.{Outcome, outcome_by}
use Rattle.frame.specs.Frames.{heard_tests, frame_refused, frame_answer}
use Rattle.call_reply.specs.Reply.{replied_tests, reply_refused, reply_of}
use Rattle.call_open.specs.Blank.{no_index, no_final, no_repeats, no_drain, idle, no_candidates}
use Rattle.call_open.specs.Open.{new_memory, first_epoch, alone, fresh_state}
use Rattle.call_sent.specs.Told.{told_state}
use Rattle.poll.specs.Poll.{accepted_poll, poll_of}

-- ---- the calls

-- two handshake messages; a responder cuts over at the proof, so that a probe does not show it that
-- the initiator moved
abbrev profile : Profile
profile = record { messages = 2; at_proof = true; silence = false; smaller = false; floor = 0 }

-- a link that a responder opened at an instant, with its first prompt
abbrev opened : ℕ → State
opened time = fresh_state true 0 no_index (pos 0) time

-- n candidates of a deadline, numbered from 0
abbrev candidates_of : ℕ → ℕ → Candidates
candidates_of n deadline =
    record {
      hs = no_candidates.hs;
      msg1 = no_candidates.msg1;
      ack = no_candidates.ack;
      carrier = no_candidates.carrier;
      route = no_candidates.route;
      born = no_candidates.born;
      deadline = replicate 32 deadline;
      bounded = no_candidates.bounded;
      bound = no_candidates.bound;
      seq = range 0 32;
      len = n;
      next = n;
    }

-- a poll while n candidates wait until 7000
abbrev polled : ℕ → ℕ → Outcome
polled n now = poll_of (put_cands (opened 1000) (candidates_of n 7000)) fmp profile now false (pos 0) 0

-- a start reply where the floors have passed and the soft limit is met, with that sent count
abbrev replied : ℕ → Outcome
replied sent = reply_of (told_state (opened 0) sent) fmp profile 31000 (record { opened = true; hs = 1; msg = 2; transport = 3; lease = no_index })

-- a probe under the current epoch, last prompted at 5000: it is blind
abbrev probed : ℕ → Outcome
probed now = frame_answer (opened 5000) fmp profile now false (pos 0) (record { tag = 1; slot = slot_current; counter = 7; k = false; len = 0; probe = true }) 0 [] []

-- ---- the edges

-- "a candidate whose deadline is 7000 is listed at 7000, not at 6999": by the count of items
abbrev pub Deadline : Type 0
Deadline = ((polled 1 7000).count ≡ 1) × ((polled 1 6999).count ≡ 0)

deadline : Deadline
unfolding fold range kept least failing first_at settings_place_of held_of candidates_place_of between cand_at held_by expired_in choosing others removed_of expire_of among repeated insert sorted listed_in pending_of epochs_of epoch_ladders cycle_ladders all_ladders ladders_of any_of profile_bad epochs_bad_of numbers_bad ladders_bad spread_bad first given_tests state_tests poll_tests may_instants fin_instants elicit_instants drain_items candidate_items cycle_items current_items named due_items candidate_due item_step fresh pass_items run_item pass_of passes_of three_passes no_final no_repeats no_drain idle first_epoch alone fresh_state accepted_poll poll_of outcome_by
deadline = (refl, refl)

-- "A start reply with one below `hard` sent may pass."
abbrev pub BelowHard : Type 0
BelowHard = ((replied (fmp.hard - 1)).number ≡ 0) × ((replied fmp.hard).number ≡ refused_no_start)

below-hard : BelowHard
unfolding range least failing first_at settings_place_of held_of between among repeated pending_of epochs_of epoch_ladders cycle_ladders all_ladders ladders_of any_of profile_bad epochs_bad_of numbers_bad ladders_bad first given_tests state_tests link_tests floors_passed damped_now backed_now triggered_now scheduled_now kind_of may_start start_kind called_for replied_tests reply_refused reply_of told_state no_final no_repeats no_drain idle no_candidates new_memory first_epoch alone fresh_state outcome_by
below-hard = (refl, refl)

-- "A blind probe last prompted at 5000 draws no prompt at 5999 and one at 6000."
abbrev pub PromptGap : Type 0
PromptGap = ((probed 5999).out ≡ Mark 1 7 ∷ Deliver slot_current 1 0 0 ∷ []) × ((probed 6000).out ≡ Mark 1 7 ∷ Deliver slot_current 1 0 0 ∷ Prompt 1 no_rungs ∷ [])

prompt-gap : PromptGap
unfolding range least later_of failing first_at settings_place_of held_of between among repeated pending_of epochs_of epoch_ladders cycle_ladders all_ladders ladders_of any_of profile_bad epochs_bad_of numbers_bad ladders_bad spread_bad first given_tests state_tests frame_tests reaches deliver_out blind_to prompt_due moves_now heard_first moved_first prompted_now heard_epoch hearing heard_current slot_tag current_frame slot_frame frame_of heard_tests frame_refused given_of frame_answer no_final no_repeats no_drain idle no_candidates first_epoch alone fresh_state outcome_by
prompt-gap = (refl, refl)

-- "32 candidates pass, 33 do not."
abbrev pub ManyCandidates : Type 0
ManyCandidates = ((polled 32 6999).number ≡ 0) × ((polled 33 6999).number ≡ refused_candidates)

candidates : ManyCandidates
unfolding range least failing first_at settings_place_of held_of between among repeated pending_of epochs_of epoch_ladders cycle_ladders all_ladders ladders_of any_of profile_bad epochs_bad_of numbers_bad ladders_bad spread_bad first given_tests state_tests poll_tests no_final no_repeats no_drain idle first_epoch alone fresh_state accepted_poll poll_of outcome_by
candidates = (refl, refl)

pub record Edges : Type 0 where
  pub deadline : Deadline
  pub below-hard : BelowHard
  pub prompt-gap : PromptGap
  pub candidates : ManyCandidates

pub edges : Edges
edges = record { deadline = deadline; below-hard = below-hard; prompt-gap = prompt-gap; candidates = candidates }
