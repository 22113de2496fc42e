-- The quiet time of the link line over every call: which call brings it to 0, which leaves it, and what it counts
-- from where another epoch is current. `siklyavon_status` cites it.
use Rattle.std.specs.Prelude.{ℕ, ◌≤◌, ◌-◌, true, false, ◌⊎◌, ◌≡◌, List}
use Rattle.std.proofs.Common.{true≢false, inl, inr, ⊎_elim, sym, ◌∙◌, ap, eq-eqb}
use Rattle.time.specs.declared.When.{When}
use Rattle.time.specs.Pick.{pick}
use Rattle.time.specs.Time.{none, at}
use Rattle.settings.specs.declared.Config.{Config}
use Rattle.state.specs.declared.State.{State}
use Rattle.state.specs.declared.Profile.{Profile}
use Rattle.events.specs.Events.{Event}
use Rattle.refusal.specs.Refusal.{before_link}
use Rattle.start.specs.Start.{latest_of}
use Rattle.law_refusal.specs.Sound.{Sound}
use Rattle.law_exact.specs.Numbers.{LinkOk, sound-words}
use Rattle.frame_hear.specs.Hear.{given_of}
use Rattle.frame.specs.Frames.{frame_answer}
use Rattle.frame.proofs.Exact.{frame-exact}
use Rattle.notice_rows.specs.Rows.{worker_of}
use Rattle.notice.specs.Notices.{worker_answer}
use Rattle.notice.proofs.Exact.{notice_exact}
use Rattle.poll.specs.Poll.{poll_of}
use Rattle.poll.proofs.Laws.{poll-kept}
use Rattle.call_open.specs.Open.{open_of}
use Rattle.call_open.proofs.Exact.{open_exact}
use Rattle.call_read.specs.Read.{quiet_time, status_of}
use Rattle.call_read.proofs.Exact.{status_exact}
use Rattle.law_frame.specs.Frames.{frame-kept}
use Rattle.law_reply.specs.Reply.{reply-kept}
use Rattle.law_reply.specs.Told.{told-kept, open_kept}
use Rattle.law_notice.specs.Kept.{notice_keeps, worker_keeps, handed_keeps, data_keeps, path_keeps}
use Rattle.law_status.specs.Counts.{Same, HeardAt, Began}
use Rattle.law_status.proofs.Counts.{quiet_same, quiet_began, quiet-heard, quiet_now}
use Rattle.law_status.specs.Hearing.{Went}
use Rattle.law_status.proofs.Calls.{open_began, poll-counts, frame-heard, frame-drained, worker-heard, worker-drained, delegated-same, undelegated-same, data_same, path-same, reply-same, told_same}
use Rattle.law_status.specs.Line.{Drained, QuietLine}

-- ---- from what the quiet time counts from to the line

-- an accepted line shows the quiet time
shows : (s : State) (cfg : Config) (p : Profile) (u : ℕ) → LinkOk s cfg p → ((status_of s cfg p u).number ≡ 0) × ((status_of s cfg p u).quiet ≡ quiet_time s u)
unfolding status_of
shows s cfg p u o =
    let z = (status_exact s cfg p u).accepted.1 o in
    (z, ap (λ b. pick b (quiet_time s u) none) (eq-eqb (before_link s cfg p).number 0 z))

module _ (s x : State) (kept : Sound s → Sound x) (cfg : Config) (p : Profile) (u : ℕ) (z : (status_of s cfg p u).number ≡ 0) where
  first : LinkOk s cfg p
  first = (status_exact s cfg p u).accepted.0 z

  second : LinkOk x cfg p
  second = record { given = first.given; state = (sound-words x).0 (kept ((sound-words s).1 first.state)) }

  leaves_at : Same s x → ((status_of x cfg p u).number ≡ 0) × ((status_of x cfg p u).quiet ≡ (status_of s cfg p u).quiet)
  leaves_at h =
      let a = shows x cfg p u second in
      (a.0, a.1 ∙ (quiet_same h u ∙ sym (shows s cfg p u first).1))

  counts-at : {t : ℕ} → Began s x t → ((status_of x cfg p u).number ≡ 0) × ((status_of x cfg p u).quiet ≡ at (u - latest_of s.mem.rx_cur t))
  counts-at h =
      let a = shows x cfg p u second in
      (a.0, a.1 ∙ quiet_began h u)

  zero-at : {t : ℕ} → HeardAt x t → ((status_of x cfg p u).number ≡ 0) × (((status_of x cfg p u).quiet.some ≡ true) × ((status_of x cfg p u).quiet.at ≤ u - t))
  zero-at h =
      let a = shows x cfg p u second in
      let q = quiet-heard h u in
      (a.0, (ap (λ (w : When). w.some) a.1 ∙ q.0, rw (ap (λ (w : When). w.at) a.1) q.1))

drained : (s x : State) (out : List Event) → (Sound s → Sound x) → Went s out x → Drained s out x
drained s x out kept w = (
  λ e. ⊎_elim (λ a cfg p u z. leaves_at s x kept cfg p u z a.1) (λ a. absurd (true≢false (sym a.0 ∙ e))) w,
  λ e. ⊎_elim (λ a. absurd (true≢false (sym e ∙ a.0))) (λ a cfg p u z. counts-at s x kept cfg p u z a.1) w,
)

-- where nothing was heard, it counts from the start
from_start : {w : When} → w ≡ none → (t u : ℕ) → at (u - latest_of w t) ≡ at (u - t)
unfolding latest_of
from_start e t u = ap (λ (v : When). at (u - latest_of v t)) e

-- the line of x at t, where x was heard at t
zero_now : (s x : State) → (Sound s → Sound x) → (cfg : Config) (p : Profile) (t : ℕ) → LinkOk s cfg p → HeardAt x t → (status_of x cfg p t).quiet ≡ at 0
zero_now s x kept cfg p t o h =
    (shows x cfg p t (record { given = o.given; state = (sound-words x).0 (kept ((sound-words s).1 o.state)) })).1 ∙ quiet_now h

pub quiet_line : QuietLine
quiet_line =
    record {
      opened = λ cfg p responder transport lease workers spread time z u.
          let x = (open_of cfg p responder transport lease workers spread time).state in
          let o : LinkOk x cfg p = record { given = ((open_exact cfg p spread responder transport lease workers time).accepted.0 z).given; state = (sound-words x).0 (open_kept cfg p responder transport lease workers spread time) } in
          let b = open_began cfg p responder transport lease workers spread time z in
          (shows x cfg p u o).1 ∙ (quiet_began b.1 u ∙ from_start b.0 time u);
      heard = λ s cfg profile time workers spread p body source target z w.
          let x = (frame_answer s cfg profile time workers spread p body source target).state in
          let kept = frame-kept s cfg profile time workers spread p body source target in
          let h = frame-heard s cfg profile time workers spread p body source target z w in
          let o = ((frame-exact s cfg profile time workers spread p body source target).accepted.0 z).link in
          (zero_now s x kept cfg profile time o h, λ cfg' p' u q. zero-at s x kept cfg' p' u q h);
      drained = λ s cfg profile time workers spread p body source target e.
          drained s _ _ (frame-kept s cfg profile time workers spread p body source target) (frame-drained s cfg profile time workers spread p body source target e);
      reported = λ s cfg p spread time workers tag k counter z c e.
          let x = (worker_answer s cfg p time workers spread tag k counter).state in
          let step = worker_of s (given_of cfg p time workers) tag k counter in
          let kept = (notice_keeps s cfg p spread step (worker_keeps s (given_of cfg p time workers) tag k counter)).sound in
          let h = worker-heard s cfg p spread time workers tag k counter z c e in
          let o = ((notice_exact s cfg p spread step).accepted.0 z).link in
          (zero_now s x kept cfg p time o h, λ cfg' p' u q. zero-at s x kept cfg' p' u q h);
      reported-other = λ s cfg p spread time workers tag k counter e.
          let step = worker_of s (given_of cfg p time workers) tag k counter in
          drained s _ _ (notice_keeps s cfg p spread step (worker_keeps s (given_of cfg p time workers) tag k counter)).sound (worker-drained s cfg p spread time workers tag k counter e);
      polled = λ s cfg p now workers spread extra.
          let x = (poll_of s cfg p now workers spread extra).state in
          let kept = poll-kept s cfg p now workers spread extra in
          ⊎_elim (λ h. inl (λ cfg' p' u q. leaves_at s x kept cfg' p' u q h)) (λ h. inr (λ cfg' p' u q. counts-at s x kept cfg' p' u q h)) (poll-counts s cfg p now workers spread extra);
      replied = λ s cfg p now r cfg' p' u q. leaves_at s _ (reply-kept s cfg p now r) cfg' p' u q (reply-same s cfg p now r);
      told = λ s count cfg' p' u q. leaves_at s _ (told-kept s count) cfg' p' u q (told_same s count);
      delegated = λ s cfg p spread tag cfg' p' u q.
          leaves_at s _ (notice_keeps s cfg p spread _ (handed_keeps s tag true _ _)).sound cfg' p' u q (delegated-same s cfg p spread tag);
      undelegated = λ s cfg p spread tag cfg' p' u q.
          leaves_at s _ (notice_keeps s cfg p spread _ (handed_keeps s tag false _ _)).sound cfg' p' u q (undelegated-same s cfg p spread tag);
      data_sent_lem = λ s cfg p spread cfg' p' u q.
          leaves_at s _ (notice_keeps s cfg p spread _ (data_keeps s)).sound cfg' p' u q (data_same s cfg p spread);
      path = λ s cfg p spread reachable srtt cfg' p' u q.
          leaves_at s _ (notice_keeps s cfg p spread _ (path_keeps s reachable srtt)).sound cfg' p' u q (path-same s cfg p spread reachable srtt);
    }
