-- "A link line that showed two seconds of quiet belonged to a tablet heard only on its drain": the laws of the quiet
-- time applied to such a tablet, whose last frame came two seconds before the line.
use Rattle.std.specs.Prelude.{ℕ, true, false, ◌≡◌, refl, [], pos}
use Rattle.std.proofs.Common.{inl, ◌∙◌}
use Rattle.time.specs.declared.When.{When}
use Rattle.time.specs.Lists.{range}
use Rattle.time.specs.Time.{none, at, least, most}
use Rattle.settings.specs.Settings.{fmp, failing, first_at, place_of}
use Rattle.numbers.specs.Numbers.{slot_current, slot_pending, slot_previous}
use Rattle.state.specs.declared.State.{State}
use Rattle.state.specs.declared.Profile.{Profile}
use Rattle.state.specs.Parts.{put_mem, pending_of, epochs_of, epoch_ladders, cycle_ladders, all_ladders, ladders_of}
use Rattle.answer.specs.Outcome.{Outcome, outcome_by}
use Rattle.cutover.specs.Cutover.{heard_frame, prunes, pruned, demoted, kept_fin, heard_now, adopted, remembered, cutover_of}
use Rattle.frame.specs.Frames.{frame_answer, heard_tests, frame_refused}
use Rattle.call_read.specs.Read.{quiet_time, status_of}
use Rattle.candidates.specs.Held.{held_of, between, cleared_of, choosing}
use Rattle.candidates.specs.Repeats.{among, repeated}
use Rattle.refusal.specs.Refusal.{any_of, profile_bad, is_pending, epochs_bad_of, numbers_bad, ladders_bad, spread_bad, first, given_tests, state_tests, frame_tests, link_tests}
use Rattle.frame_deliver.specs.Deliver.{reaches, deliver_out}
use Rattle.frame_evidence.specs.Evidence.{prompted_now, heard_any, only_assumed, confirming}
use Rattle.frame_hear.specs.Hear.{revert_of, assumed_heard, confirming_heard, heard_previous, given_of}
use Rattle.frame_slots.specs.Frame.{pending_tag, slot_tag, pend_of, pending_frame, previous_frame, slot_frame, frame_of}
use Rattle.call_open.specs.Blank.{no_final, no_repeats, no_epoch, no_drain, idle, no_candidates}
use Rattle.start.specs.Start.{latest_of}
use Rattle.law_status.specs.Hearing.{reverts}
use Rattle.law_status.proofs.Line.{quiet_line}
use Rattle.law_worked.specs.Worked.{pair}
use Rattle.law_worked.specs.Notices.{assumed_pair}

-- ---- the tablet

-- two handshake messages, no silence trigger, no shortest plaintext
abbrev profile : Profile
profile = record { messages = 2; at_proof = false; silence = false; smaller = false; floor = 0 }

-- an empty frame under the epoch of a slot
abbrev framed : State → ℕ → ℕ → ℕ → Outcome
framed s now slot tag = frame_answer s fmp profile now false (pos 0) (record { tag = tag; slot = slot; counter = 7; k = true; len = 0; probe = false }) 0 [] []

-- the quiet time of its line
abbrev quiet_at : State → ℕ → When
quiet_at s now = (status_of s fmp profile now).quiet

-- at 2 s the peer's first frame under epoch 2 cuts over to it, and epoch 1 is drained
abbrev cut_over : State
cut_over = (framed pair 2000 slot_pending 2).state

-- at 8 s a frame comes under epoch 1
abbrev old : Outcome
old = framed cut_over 8000 slot_previous 1

-- at 11 s one under epoch 2
abbrev new : Outcome
new = framed old.state 11000 slot_current 2

-- a cutover that was only assumed; a current epoch was last heard at 5 s. At 8 s a frame under epoch 1 reverts it
abbrev unheard : State
unheard = put_mem assumed_pair (heard_frame pair.mem false 5000)

abbrev back : Outcome
back = framed unheard 8000 slot_previous 1

-- ---- what one sees

pub record Seen : Type 0 where
  -- at 10 s the last frame is two seconds ago, and the line says eight: since the cutover
  pub two_seconds : old.state.mem.last_rx ≡ at 8000
  pub eight_seconds : quiet_at cut_over 10000 ≡ at 8000
  pub lines : ((status_of cut_over fmp profile 10000).number ≡ 0) × ((status_of unheard fmp profile 10000).number ≡ 0)
  -- the frames are taken; that under epoch 1 makes no revert, but where the cutover was assumed
  pub taken : ((framed pair 2000 slot_pending 2).number ≡ 0) × ((old.number ≡ 0) × (new.number ≡ 0))
  pub stays : reverts old.out ≡ false
  pub reverted : (reverts back.out ≡ true) × (back.state.cur.ep.tag ≡ 1)
  -- nothing is shown before an epoch is current; and 0 while the clock is behind
  pub absent : quiet_at (record { mem = pair.mem; cur = record { some = false; ep = pair.cur.ep }; drain = pair.drain; cycle = assumed_pair.cycle; cands = pair.cands }) 10000 ≡ none
  pub behind : quiet_at cut_over 1999 ≡ at 0

pub seen : Seen
unfolding range least most failing first_at place_of held_of between among repeated pending_of epochs_of epoch_ladders cycle_ladders all_ladders ladders_of any_of profile_bad is_pending epochs_bad_of numbers_bad ladders_bad spread_bad first given_tests state_tests frame_tests link_tests reaches deliver_out prompted_now heard_any only_assumed confirming revert_of assumed_heard confirming_heard heard_previous pending_tag slot_tag pend_of pending_frame previous_frame slot_frame frame_of heard_tests frame_refused given_of frame_answer no_final no_repeats no_epoch no_drain idle no_candidates outcome_by prunes pruned demoted kept_fin heard_now adopted heard_frame remembered cutover_of latest_of cleared_of choosing quiet_time status_of
seen =
    record {
      two_seconds = refl;
      eight_seconds = refl;
      lines = (refl, refl);
      taken = (refl, (refl, refl));
      stays = refl;
      reverted = (refl, refl);
      absent = refl;
      behind = refl;
    }

-- ---- what the theorem gives

-- the frame under the drained epoch leaves the line: it says eight seconds, not two
pub eight : quiet_at old.state 10000 ≡ at 8000
eight =
    ((quiet_line.drained cut_over fmp profile 8000 false (pos 0) _ 0 [] [] refl).0 seen.stays fmp profile 10000 seen.lines.0).1
    ∙ seen.eight_seconds

-- a frame under the current one brings it to 0
pub zero : quiet_at new.state 11000 ≡ at 0
zero = (quiet_line.heard old.state fmp profile 11000 false (pos 0) _ 0 [] [] seen.taken.1.1 (inl refl)).0

-- after the revert it counts from the last frame under a current epoch, at 5 s, and not from the one that reverted
pub five : quiet_at back.state 10000 ≡ at 5000
unfolding heard_frame latest_of most
five = ((quiet_line.drained unheard fmp profile 8000 false (pos 0) _ 0 [] [] refl).1 seen.reverted.0 fmp profile 10000 seen.lines.1).1
