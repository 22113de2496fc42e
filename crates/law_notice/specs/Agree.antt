-- The five notices: their answers and what they leave are decided by what stands.
use Rattle.std.specs.Prelude.{ℕ, Bool, false, ◌≡◌, [], ◌∷◌, ℤ}
use Rattle.std.proofs.Math.Bool.{true}
use Rattle.std.proofs.Math.Path.{refl, ap, ap₂}
use Rattle.std.proofs.Common.{sym, ◌∙◌}
use Rattle.std.proofs.Math.Dec.{eqb}
use Rattle.time.specs.declared.When.{When}
use Rattle.time.specs.Pick.{pick}
use Rattle.time.specs.Time.{at, most}
use Rattle.settings.specs.declared.Config.{Config}
use Rattle.epoch.specs.declared.Epoch.{Epoch}
use Rattle.epoch.specs.Held.{is_tag}
use Rattle.state.specs.declared.Memory.{Memory}
use Rattle.state.specs.declared.State.{State}
use Rattle.state.specs.declared.Profile.{Profile}
use Rattle.state.specs.declared.Given.{Given}
use Rattle.state.specs.Stands.{when_view, epoch_view, memory_view}
use Rattle.refusal.specs.Refusal.{first, by, spread_bad, given_tests, state_tests, frame_tests, before_frame}
use Rattle.answer.specs.Outcome.{done}
use Rattle.answer.proofs.Laws.{by-taken}
use Rattle.law_refusal.specs.Sound.{Sound}
use Rattle.law_alike.specs.Optional.{Same, when, related}
use Rattle.law_alike.specs.Parts.{AlikeEpoch, epoch_fields, AlikeMemory, memory_fields}
use Rattle.law_alike.specs.Cycle.{cycle_fields}
use Rattle.law_alike.specs.Whole.{Alike, cur-some, cur-ep, cur-whole, drain-some, drain_fields, drain-whole}
use Rattle.law_alike.specs.Refusals.{frame-tests}
use Rattle.law_agree.specs.Outcomes.{Outcomes, outcome-alike}
use Rattle.law_agree.specs.Rows.{anded, own-alike, peers-alike, cur-tag, tag_is}
use Rattle.law_agree.specs.Turn.{with_mem, with_cur, with_drain}
use Rattle.law_agree.specs.Hear.{HearSteps, heard-current, heard_previous_lem}
use Rattle.law_agree.specs.Taken.{taken-sound}
use Rattle.frame_hear.specs.Hear.{HearStep, given_of, hearing, heard_current, revert_of, assumed_heard, confirming_heard, heard_previous}
use Rattle.notice_rows.specs.Rows.{is_pending, by_slot, rejected, put_floor, put_recv, put_current, put_previous, raised, raised_current, raised_previous, worker_of, already, handed, data_mem, data_sent_of, path_mem, path_of}
use Rattle.notice.specs.Notices.{notice_by, worker_answer}

-- ---- the slot of a tag

module _ {s t : State} (a : Alike s t) (tag : ℕ) where
  drain-tag : is_tag s.drain.some s.drain.ep.tag tag ≡ is_tag t.drain.some t.drain.ep.tag tag
  unfolding is_tag
  drain-tag = anded (drain-some a.drain) (λ q. ap (λ n. eqb n tag) (drain_fields a.drain q).ep.tag)

  pending-alike : is_pending s.cycle tag ≡ is_pending t.cycle tag
  unfolding is_pending
  pending-alike = let c = cycle_fields a.cycle in ap₂ (λ x y. pick x true y) (own-alike c tag) (peers-alike c tag)

  -- of four cases that are alike, the current and the drained epoch's where one is held, the one that is taken
  slots-alike :
      {A : Type 0} (R : A → A → Type 0) {b c d e b' c' d' e' : A}
      → (s.cur.some ≡ true → R b b') → (s.drain.some ≡ true → R c c') → R d d' → R e e'
      → R (by_slot s tag b c d e) (by_slot t tag b' c' d' e')
  unfolding by_slot
  slots-alike R p q r u =
      related R (cur-tag a.cur tag) (λ h. p (tag_is _ _ tag h))
      (λ _. related R drain-tag (λ h. q (tag_is _ _ tag h))
      (λ _. related R pending-alike (λ _. r) (λ _. u)))

-- ---- a part put in place

put-floor : {x y : Epoch} → AlikeEpoch x y → {w z : When} → w ≡ z → Same epoch_view (put_floor x w) (put_floor y z)
unfolding epoch_view
put-floor h e = record { eq = cc }

put_recv_lem : {x y : Epoch} → AlikeEpoch x y → (on : Bool) → Same epoch_view (put_recv x on) (put_recv y on)
unfolding epoch_view
put_recv_lem h on = record { eq = cc }

raised-alike : {w z : When} → Same when_view w z → (counter : ℕ) → raised w counter ≡ raised z counter
unfolding raised
raised-alike e counter = when (λ b n. at (pick b (most n counter) counter)) (λ u v. refl) e

data_mem_lem : {m n : Memory} → AlikeMemory m n → Same memory_view (data_mem m) (data_mem n)
unfolding data_mem memory_view
data_mem_lem h = record { eq = cc }

path-mem : {m n : Memory} → AlikeMemory m n → (reachable : Bool) (srtt : When) → Same memory_view (path_mem m reachable srtt) (path_mem n reachable srtt)
unfolding path_mem memory_view
path-mem h reachable srtt = record { eq = cc }

module _ {s t : State} (a : Alike s t) {e f : Epoch} where
  put-current : (s.cur.some ≡ true → Same epoch_view e f) → Alike (put_current s e) (put_current t f)
  put-current h = with_cur a (cur-whole (cur-some a.cur) h)

  put_previous_lem : (s.drain.some ≡ true → Same epoch_view e f) → Alike (put_previous s e) (put_previous t f)
  put_previous_lem h =
      with_drain a
      (drain-whole (drain-some a.drain)
      (λ q. let d = drain_fields a.drain q in record { view = h q; ep = epoch_fields (h q); deadline = d.deadline; evidenced = d.evidenced }))

-- ---- the five

module _ {s t : State} (a : Alike s t) where
  rejects-alike : (reason : ℕ) → HearSteps (rejected s reason) (rejected t reason)
  rejects-alike reason = record { state = a; out = refl }

  pub worker-alike : Sound s → (g : Given) (tag : ℕ) (k : Bool) (counter : ℕ) → HearSteps (worker_of s g tag k counter) (worker_of t g tag k counter)
  unfolding worker_of raised_current raised_previous
  worker-alike o g tag k counter =
      slots-alike a tag HearSteps
      (λ _. heard-current (put-current a (λ q. let h = cur-ep a.cur q in put-floor h (raised-alike h.floor counter))) g k false)
      (λ d. heard_previous_lem (put_previous_lem a (λ q. let h = (drain_fields a.drain q).ep in put-floor h (raised-alike h.floor counter))) (o.drain-led d) d g)
      (rejects-alike _) (rejects-alike _)

  pub handed-alike : (tag : ℕ) (on : Bool) (same early : ℕ) → HearSteps (handed s tag on same early) (handed t tag on same early)
  unfolding handed
  handed-alike tag on same early =
      slots-alike a tag HearSteps
      (λ c. related HearSteps (ap (λ b. already b on) (cur-ep a.cur c).delegated) (λ _. rejects-alike same)
      (λ _. record { state = put-current a (λ q. put_recv_lem (cur-ep a.cur q) on); out = refl }))
      (λ d. related HearSteps (ap (λ b. already b on) (drain_fields a.drain d).ep.delegated) (λ _. rejects-alike same)
      (λ _. record { state = put_previous_lem a (λ q. put_recv_lem (drain_fields a.drain q).ep on); out = refl }))
      (rejects-alike _) (rejects-alike _)

  pub data_alike : HearSteps (data_sent_of s) (data_sent_of t)
  data_alike = record { state = with_mem a (data_mem_lem (memory_fields a.mem)); out = refl }

  pub path-alike : (reachable : Bool) (srtt : When) → HearSteps (path_of s reachable srtt) (path_of t reachable srtt)
  path-alike reachable srtt = record { state = with_mem a (path-mem (memory_fields a.mem) reachable srtt); out = refl }

-- ---- the call

taken : (s : State) (cfg : Config) (p : Profile) (spread : ℤ) → eqb (before_frame s cfg p spread).number 0 ≡ true → Sound s
unfolding frame_tests given_tests state_tests
taken s cfg p spread e = taken-sound s cfg p (by 7 (spread_bad cfg.jitter spread) ∷ []) e

module _ {s t : State} (a : Alike s t) (cfg : Config) (p : Profile) (spread : ℤ) where
  -- refusals 1 to 7 read only what stands
  pub notice_back : before_frame s cfg p spread ≡ before_frame t cfg p spread
  notice_back = ap first (frame-tests a cfg p spread)

  -- steps that are alike in an accepted state
  pub notice_alike : {x y : HearStep} → (Sound s → HearSteps x y) → Outcomes (notice_by s cfg p spread x) (notice_by t cfg p spread y)
  unfolding notice_by
  notice_alike f =
      outcome-alike a notice_back
      (λ q. let h = f (taken s cfg p spread q) in record { number = refl; place = refl; state = h.state; written = refl; out = h.out; count = refl })

-- ---- what is not read: the worker flag, and the spread of a call that is accepted

pub worker-flag :
    (s : State) (cfg : Config) (p : Profile) (time : ℕ) (on off : Bool) (spread : ℤ) (tag : ℕ) (k : Bool) (counter : ℕ)
    → worker_answer s cfg p time on spread tag k counter ≡ worker_answer s cfg p time off spread tag k counter
unfolding worker_of heard_current hearing heard_previous assumed_heard confirming_heard revert_of given_of
worker-flag s cfg p time on off spread tag k counter = refl

pub notice-spread :
    (s : State) (cfg : Config) (p : Profile) (one two : ℤ) (step : HearStep) → (before_frame s cfg p one).number ≡ 0 → (before_frame s cfg p two).number ≡ 0
    → notice_by s cfg p one step ≡ notice_by s cfg p two step
unfolding notice_by
notice-spread s cfg p one two step a b = let o = done step.state step.out in by-taken (before_frame s cfg p one) s o a ∙ sym (by-taken (before_frame s cfg p two) s o b)
