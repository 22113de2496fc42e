-- What each call does to what the quiet time counts from, refused or not: of a refused call it stays.
use Rattle.std.specs.Prelude.{ℕ, Bool, ◌||◌, ◌⊎◌, ◌≡◌, List, [], ◌∷◌, ◌++◌, eqb, ℤ, length}
use Rattle.std.proofs.Math.Bool.{true, false}
use Rattle.std.proofs.lemmas.Bool.{false≢true}
use Rattle.std.proofs.Math.Logic.{inl, inr, ⊎_elim}
use Rattle.std.proofs.Math.Path.{refl, sym, subst}
use Rattle.std.proofs.Common.{◌∙◌, ap}
use borrow.Author.Tests.{eq-eqb}
use Rattle.time.specs.declared.When.{When}
use Rattle.time.specs.Pick.{pick, by-test, of_choice}
use Rattle.time.specs.Time.{none}
use Rattle.settings.specs.declared.Config.{Config}
use Rattle.numbers.specs.Numbers.{slot_current, slot_pending, slot_previous, reason_stale_tag, reason_not_delegated}
use Rattle.epoch.specs.declared.Index.{Index}
use Rattle.epoch.specs.Held.{is_tag}
use Rattle.epoch.specs.Put.{put_ep}
use Rattle.state.specs.declared.State.{State}
use Rattle.state.specs.declared.Profile.{Profile}
use Rattle.state.specs.declared.Given.{Given}
use Rattle.state.specs.Parts.{put_cur}
use Rattle.events.specs.Events.{Event, Mark}
use Rattle.refusal.specs.Refusal.{any_of, numbered, before_open, before_poll, before_frame}
use Rattle.refusal.proofs.Standing.{any_append}
use Rattle.answer.specs.Outcome.{Outcome, done}
use Rattle.answer.proofs.Laws.{by-either, by_zero, by-taken}
use Rattle.frame_deliver.specs.Deliver.{reaches, deliver_out}
use Rattle.frame_hear.specs.Hear.{HearStep, given_of, heard_previous}
use Rattle.frame_slots.specs.declared.FrameProof.{FrameProof}
use Rattle.frame_slots.specs.Frame.{FrameStep, slot_tag, current_frame, previous_frame, pending_frame, slot_frame, frame_of}
use Rattle.frame.specs.Frames.{frame_refused, heard, frame_answer}
use Rattle.frame.proofs.Exact.{frame-exact}
use Rattle.notice_rows.specs.Rows.{is_pending, raised_current, raised_previous, rejected, by_slot, worker_of, already, handed, data_mem, data_sent_of, path_mem, path_of}
use Rattle.notice_rows.proofs.Laws.{slotted}
use Rattle.notice.specs.Notices.{notice_by, worker_answer, delegated_answer, undelegated_answer, data_sent_answer, path_answer}
use Rattle.poll.specs.Poll.{given_to, accepted_poll, poll_of}
use Rattle.call_open.specs.Open.{new_memory, first_epoch, alone, fresh_state, blank_state, opened, open_of}
use Rattle.call_reply.specs.declared.StartReply.{StartReply}
use Rattle.call_reply.specs.Reply.{memory_after, started_of, taken_of, reply_refused, reply_of}
use Rattle.call_sent.specs.Told.{put_sent, told_number, told_state, told_of}
use Rattle.law_status.specs.Counts.{Same, HeardAt, Began}
use Rattle.law_status.proofs.Counts.{same_self}
use Rattle.law_status.specs.Hearing.{reverts, is_reverted, Went}
use Rattle.law_status.proofs.Hearing.{went_after, current-heard, pending-heard, previous_went}
use Rattle.law_status.specs.Polls.{Polled}
use Rattle.law_status.proofs.Polls.{passes-after}

-- a tag of the current epoch has the current epoch's case
at-current : (s : State) (tag : ℕ) (a b c d : HearStep) → is_tag s.cur.some s.cur.ep.tag tag ≡ true → by_slot s tag a b c d ≡ a
unfolding by_slot
at-current s tag a b c d e = rw e

-- ---- an open: nothing was heard, and its epoch starts at its instant

module _ (cfg : Config) (p : Profile) (responder : Bool) (transport : ℕ) (lease : Index) (workers : Bool) (spread : ℤ) (time : ℕ) where
  abbrev o : Outcome
  o = open_of cfg p responder transport lease workers spread time

  pub open_began : o.number ≡ 0 → (o.state.mem.rx_cur ≡ none) × Began o.state o.state time
  unfolding open_of opened fresh_state alone new_memory first_epoch
  open_began z =
      let r = before_open cfg p spread in
      let fresh = opened responder transport lease workers spread time in
      subst (λ (x : Outcome). (x.state.mem.rx_cur ≡ none) × Began x.state x.state time)
      (sym (by-taken r blank_state fresh (by_zero r blank_state fresh refl z)))
      (refl, record { held = refl; heard = refl; started = refl })

-- ---- a poll

pub poll-counts : (s : State) (cfg : Config) (p : Profile) (now : ℕ) (workers : Bool) (spread : ℤ) (extra : ℕ) → Polled now s (poll_of s cfg p now workers spread extra).state
unfolding poll_of accepted_poll
poll-counts s cfg p now workers spread extra =
    by-either (before_poll s cfg p spread extra) s (accepted_poll s (given_to cfg p now workers extra) spread) (λ (a : Outcome). Polled now s a.state)
    (inl (same_self s)) (passes-after s (given_to cfg p now workers extra) spread)

-- ---- a frame

-- neither the copy nor the mark tells a revert
delivered_none : (slot tag body n floor : ℕ) (source target : List ℕ) → reverts (deliver_out slot tag body n floor source target) ≡ false
unfolding deliver_out any_of
delivered_none slot tag body n floor source target =
    of_choice (λ l. reverts l ≡ false) (reaches body n floor (length source) (length target)) _ _ refl refl

marked_none : (tag counter : ℕ) (l : List Event) → reverts (Mark tag counter ∷ l) ≡ reverts l
unfolding any_of
marked_none tag counter l = refl

behind : (l m : List Event) → reverts l ≡ false → reverts (l ++ m) ≡ reverts m
behind l m e = any_append is_reverted l m ∙ ap (λ b. b || reverts m) e

module _ (s : State) (cfg : Config) (profile : Profile) (time : ℕ) (workers : Bool) (spread : ℤ) (p : FrameProof) (body : ℕ) (source target : List ℕ) where
  abbrev g : Given
  g = given_of cfg profile time workers

  abbrev f : FrameStep
  f = frame_of s g spread p body source target

  abbrev a : Outcome
  a = frame_answer s cfg profile time workers spread p body source target

  -- accepted, it is what its slot does
  frame-taken : a.number ≡ 0 → a ≡ heard f
  unfolding frame_answer
  frame-taken z =
      let r = frame_refused s cfg profile spread p.slot p.tag in
      by-taken r s (heard f) (by_zero r s (heard f) refl z)

  -- the slot of the current epoch holds one
  current-held : a.number ≡ 0 → p.slot ≡ slot_current → s.cur.some ≡ true
  unfolding slot_tag
  current-held z e =
      sym (ap (λ n. (slot_tag s n).some) e) ∙ ((frame-exact s cfg profile time workers spread p body source target).accepted.0 z).held

  -- the row of a slot
  abbrev row_of : ℕ → FrameStep
  row_of n =
      pick (eqb n slot_pending) (pending_frame s g spread p body source target)
      (pick (eqb n slot_current) (current_frame s g p body source target) (previous_frame s g p body source target))

  slot-heard : a.number ≡ 0 → (p.slot ≡ slot_current) ⊎ (p.slot ≡ slot_pending) → HeardAt (row_of p.slot).state time
  unfolding current_frame given_of
  slot-heard z w =
      ⊎_elim
      (λ e. subst (λ n. HeardAt (row_of n).state time) (sym e) (current-heard s g p.k p.probe (current-held z e)))
      (λ e. subst (λ n. HeardAt (row_of n).state time) (sym e) (pending-heard s g spread p body source target))
      w

  -- "heard on the current epoch": on the one that is current, or on the pending one, which it makes current
  pub frame-heard : a.number ≡ 0 → (p.slot ≡ slot_current) ⊎ (p.slot ≡ slot_pending) → HeardAt a.state time
  unfolding frame_of slot_frame
  frame-heard z w = subst (λ (x : Outcome). HeardAt x.state time) (sym (frame-taken z)) (slot-heard z w)

  previous_frame_lem : Went s (Mark p.tag p.counter ∷ (previous_frame s g p body source target).out) (previous_frame s g p body source target).state
  unfolding previous_frame
  previous_frame_lem =
      let h = heard_previous s g in
      let d = deliver_out slot_previous p.tag body p.len g.profile.floor source target in
      let e =
      marked_none p.tag p.counter (d ++ h.out)
      ∙ behind d h.out (delivered_none slot_previous p.tag body p.len g.profile.floor source target) in
      ⊎_elim (λ w. inl (e ∙ w.0, w.1)) (λ w. inr (e ∙ w.0, w.1)) (previous_went s g)

  slot_went : p.slot ≡ slot_previous → Went s f.out f.state
  unfolding frame_of slot_frame
  slot_went e = subst (λ n. Went s (Mark p.tag p.counter ∷ (row_of n).out) (row_of n).state) (sym e) previous_frame_lem

  -- "heard only on its drain"
  pub frame-drained : p.slot ≡ slot_previous → Went s a.out a.state
  unfolding frame_answer any_of
  frame-drained e =
      by-either (frame_refused s cfg profile spread p.slot p.tag) s (heard f) (λ (x : Outcome). Went s x.out x.state)
      (inl (refl, same_self s)) (slot_went e)

-- ---- the notices

module _ (s : State) (cfg : Config) (p : Profile) (spread : ℤ) where
  notice_taken : (step : HearStep) → (notice_by s cfg p spread step).number ≡ 0 → notice_by s cfg p spread step ≡ done step.state step.out
  unfolding notice_by
  notice_taken step z =
      let r = before_frame s cfg p spread in
      by-taken r s (done step.state step.out) (by_zero r s (done step.state step.out) refl z)

  notice_went : (step : HearStep) → Went s step.out step.state → Went s (notice_by s cfg p spread step).out (notice_by s cfg p spread step).state
  unfolding notice_by any_of
  notice_went step h =
      by-either (before_frame s cfg p spread) s (done step.state step.out) (λ (x : Outcome). Went s x.out x.state) (inl (refl, same_self s)) h

  notice_same : (step : HearStep) → Same s step.state → Same s (notice_by s cfg p spread step).state
  unfolding notice_by
  notice_same step h =
      by-either (before_frame s cfg p spread) s (done step.state step.out) (λ (x : Outcome). Same s x.state) (same_self s) h

  module _ (time : ℕ) (workers : Bool) (tag : ℕ) (k : Bool) (counter : ℕ) where
    abbrev w : Outcome
    w = worker_answer s cfg p time workers spread tag k counter

    raised-held : s.cur.some ≡ true → (raised_current s counter).cur.some ≡ true
    unfolding raised_current
    raised-held h = h

    -- a worker's frame under the current epoch
    pub worker-heard : w.number ≡ 0 → s.cur.some ≡ true → s.cur.ep.tag ≡ tag → HeardAt w.state time
    unfolding worker_of is_tag given_of
    worker-heard z h e =
        let t = notice_taken (worker_of s (given_of cfg p time workers) tag k counter) z in
        let q : is_tag s.cur.some s.cur.ep.tag tag ≡ true = rw (h, eq-eqb s.cur.ep.tag tag e) refl in
        subst (λ (x : Outcome). HeardAt x.state time) (sym t)
        (subst (λ (x : HearStep). HeardAt x.state time) (sym (at-current s tag _ _ _ _ q)) (current-heard (raised_current s counter) (given_of cfg p time workers) k false (raised-held h)))

    rejected_went : (reason : ℕ) → Went s (rejected s reason).out (rejected s reason).state
    unfolding any_of
    rejected_went reason = inl (refl, same_self s)

    raised_went : Went s (heard_previous (raised_previous s counter) (given_of cfg p time workers)).out (heard_previous (raised_previous s counter) (given_of cfg p time workers)).state
    unfolding raised_previous
    raised_went = went_after _ (record { held = refl; heard = refl; started = refl }) refl (previous_went (raised_previous s counter) (given_of cfg p time workers))

    -- under any other tag
    pub worker-drained : is_tag s.cur.some s.cur.ep.tag tag ≡ false → Went s w.out w.state
    unfolding worker_of by_slot
    worker-drained n =
        notice_went (worker_of s (given_of cfg p time workers) tag k counter)
        (by-test (λ (x : HearStep). Went s x.out x.state) (is_tag s.cur.some s.cur.ep.tag tag) _ _
        (λ e. absurd (false≢true (sym n ∙ e)))
        (λ m. of_choice (λ (x : HearStep). Went s x.out x.state) (is_tag s.drain.some s.drain.ep.tag tag) _ _ raised_went
        (of_choice (λ (x : HearStep). Went s x.out x.state) (is_pending s.cycle tag) _ _ (rejected_went reason_not_delegated) (rejected_went reason_stale_tag))))

  handed-same : (tag : ℕ) (on : Bool) (same early : ℕ) → Same s (handed s tag on same early).state
  unfolding handed
  handed-same tag on same early =
      slotted (λ (x : HearStep). Same s x.state) s tag _ _ _ _
      (λ c. of_choice (λ (x : HearStep). Same s x.state) (already s.cur.ep.delegated on) _ _ (same_self s) (record { held = refl; heard = refl; started = refl }))
      (λ d. of_choice (λ (x : HearStep). Same s x.state) (already s.drain.ep.delegated on) _ _ (same_self s) (record { held = refl; heard = refl; started = refl }))
      (same_self s) (same_self s)

  pub delegated-same : (tag : ℕ) → Same s (delegated_answer s cfg p spread tag).state
  delegated-same tag = notice_same _ (handed-same tag true _ _)

  pub undelegated-same : (tag : ℕ) → Same s (undelegated_answer s cfg p spread tag).state
  undelegated-same tag = notice_same _ (handed-same tag false _ _)

  pub data_same : Same s (data_sent_answer s cfg p spread).state
  unfolding data_mem
  data_same = notice_same (data_sent_of s) (record { held = refl; heard = refl; started = refl })

  pub path-same : (reachable : Bool) (srtt : When) → Same s (path_answer s cfg p spread reachable srtt).state
  unfolding path_mem
  path-same reachable srtt = notice_same (path_of s reachable srtt) (record { held = refl; heard = refl; started = refl })

-- ---- a start reply and a told sent count

pub reply-same : (s : State) (cfg : Config) (p : Profile) (now : ℕ) (r : StartReply) → Same s (reply_of s cfg p now r).state
unfolding reply_of taken_of started_of memory_after
reply-same s cfg p now r =
    by-either (reply_refused s cfg p now) s (done (taken_of s cfg p now r) []) (λ (x : Outcome). Same s x.state) (same_self s)
    (of_choice (Same s) r.opened (started_of s cfg p now r) s (record { held = refl; heard = refl; started = refl }) (same_self s))

pub told_same : (s : State) (count : ℕ) → Same s (told_of s count).state
unfolding told_of told_state
told_same s count =
    by-either (numbered (told_number s count)) s (done (told_state s count) []) (λ (x : Outcome). Same s x.state) (same_self s)
    (of_choice (Same s) s.cur.some (put_cur s (put_ep s.cur (put_sent s.cur.ep count))) s (record { held = refl; heard = refl; started = refl }) (same_self s))
