-- Where a start is called for, the instant that the wake counts for it is not after now; and the silence interval's cap.
use Prim.Native.Nat.{ℕ, ◌≤◌, ◌<◌, ◌+◌, ◌-◌, max}
use Rattle.std.specs.Prelude.{Bool, ◌&&◌, ◌||◌, ◌≡◌, refl, leb, ltb}
use Rattle.std.proofs.Math.Bool.{true, false, not}
use Rattle.std.proofs.lemmas.Bool.{false≢true}
use Rattle.std.proofs.Common.{◌∙◌, arith, le_trans, leb-true, leb-false, ltb-false, le-leb}
use mathlib.Core.List.{List, [], ◌∷◌, ◌++◌}
use Rattle.time.specs.declared.When.{When}
use Rattle.time.specs.Pick.{pick}
use Rattle.time.specs.Time.{none, at, later_of, backoff_of, least, most, reached_of}
use Rattle.time.specs.Laws.{least-le}
use Rattle.settings.specs.declared.Config.{Config}
use Rattle.numbers.specs.Numbers.{start_scheduled, start_silence}
use Rattle.state.specs.Parts.{listed}
use Rattle.state.specs.declared.Memory.{Memory}
use Rattle.state.specs.declared.State.{State}
use Rattle.state.specs.declared.Profile.{Profile}
use Rattle.start.specs.Start.{silence_interval, latest_of, ahead, aged, latest_in, instants, soft_met, enough_sent, trigger_at, silence_at, floors_passed, floor_ends, damped_ends, backed_ends, silence_waits, damped_now, backed_now, triggered_now, scheduled_now, silent_now, kind_of, scheduled_waits, at_of, may_start, start_kind, start_at, called_for}
use Rattle.start.specs.Laws.{Begun}

-- "at most `after`"
pub silence-capped : (m : Memory) (cfg : Config) → silence_interval m cfg ≤ cfg.after
unfolding silence_interval backoff_of
silence-capped m cfg = (least-le _ _).1

-- ---- the last of some instants

pub most-max : (a b : ℕ) → most a b ≡ max a b
unfolding most
most-max a b = under (leb a b) refl
  where
    under : (q : Bool) → leb a b ≡ q → pick q b a ≡ max a b
    under true e = let h : a ≤ b = leb-true a b e in omega arith
    under false e = let h : b < a = leb-false a b e in omega arith

pub latest-append : (l k : List ℕ) → latest_in (l ++ k) ≡ max (latest_in l) (latest_in k)
unfolding latest_in
latest-append [] k = omega arith
latest-append (t ∷ l) k = rw (latest-append l k, most-max t (max (latest_in l) (latest_in k)), most-max t (latest_in l)) (omega arith)

pub latest-one : (t : ℕ) → latest_in (t ∷ []) ≡ t
unfolding latest_in
latest-one t = most-max t 0 ∙ omega arith

-- one more instant
pub latest_with : (t : ℕ) (l : List ℕ) → most t (latest_in l) ≡ latest_in (l ++ t ∷ [])
latest_with t l = rw (latest-append l (t ∷ []), latest-one t, most-max t (latest_in l)) (omega arith)

-- and one that may be absent
pub latest-listed : (b : Bool) (t : ℕ) (l : List ℕ) → pick b (most t (latest_in l)) (latest_in l) ≡ latest_in (l ++ listed b t)
unfolding latest_in
latest-listed true t l = latest_with t l
latest-listed false t l = rw latest-append (omega arith)

pub latest-instants : (w : When) (l : List ℕ) → latest_of w (latest_in l) ≡ latest_in (l ++ instants w)
unfolding latest_of
latest-instants w l = latest-listed w.some w.at l

pub latest-more : (l k : List ℕ) → latest_in l ≤ latest_in (l ++ k)
latest-more l k = omega (arith, latest-append l k)

-- both not after now
latest-both : (now : ℕ) (l k : List ℕ) → latest_in l ≤ now → latest_in k ≤ now → latest_in (l ++ k) ≤ now
latest-both now l k p q = omega (arith, latest-append l k)

-- ---- where a start is called for, what it waits for has passed

and_left : (a b : Bool) → (a && b) ≡ true → a ≡ true
and_left true b p = refl
and_left false b p = p

and_right : (a b : Bool) → (a && b) ≡ true → b ≡ true
and_right true b p = p
and_right false b p = absurd (false≢true p)

not_so : (a : Bool) → not a ≡ true → a ≡ false
not_so true p = absurd (false≢true p)
not_so false p = refl

-- a floor that has passed since an instant not after now
later-by : (now t d : ℕ) → t ≤ now → leb d (now - t) ≡ true → later_of t d ≤ now
unfolding later_of
later-by now t d h p = under (leb (t + d) 18446744073709551615)
  where
    under : (q : Bool) → pick q (t + d) t ≤ now
    under true = omega (arith, leb-true d (now - t) p)
    under false = h

-- an instant that may be absent, not ahead
listed_by : (b : Bool) (t now : ℕ) → (b && ltb now t) ≡ false → latest_in (listed b t) ≤ now
unfolding latest_in
listed_by true t now p = omega (arith, ltb-false now t p, most-max t 0)
listed_by false t now p = omega arith

-- a floor that may be absent
aged-by : (b : Bool) (t d now : ℕ) → (b ≡ true → t ≤ now) → (not b || leb d (now - t)) ≡ true → latest_in (listed b (later_of t d)) ≤ now
unfolding latest_in
aged-by true t d now h p = omega (arith, later-by now t d (h refl) p, most-max (later_of t d) 0)
aged-by false t d now h p = omega arith

module _ (m : Memory) (cfg : Config) (started now : ℕ) where
  floors_by : m.link_since ≤ now → (m.last_cutover.some ≡ true → m.last_cutover.at ≤ now) → started ≤ now → floors_passed m cfg started now ≡ true → latest_in (floor_ends m cfg started) ≤ now
  unfolding floors_passed floor_ends latest_in
  floors_by link cutover begun p =
      let rest = and_right (leb cfg.floor_link (now - m.link_since)) (leb cfg.floor_session (now - started) && aged m.last_cutover cfg.floor_cutover now) p in
      let x : later_of m.link_since cfg.floor_link ≤ now = later-by now m.link_since cfg.floor_link link (and_left (leb cfg.floor_link (now - m.link_since)) _ p) in
      let y : later_of started cfg.floor_session ≤ now = later-by now started cfg.floor_session begun (and_left (leb cfg.floor_session (now - started)) _ rest) in
      let z : latest_in (listed m.last_cutover.some (later_of m.last_cutover.at cfg.floor_cutover)) ≤ now = aged-by m.last_cutover.some m.last_cutover.at cfg.floor_cutover now cutover (and_right (leb cfg.floor_session (now - started)) _ rest) in
      simp most-max (omega arith)

  damped_by : latest_in (floor_ends m cfg started) ≤ now → ahead m.damp now ≡ false → latest_in (damped_ends m cfg started) ≤ now
  unfolding damped_ends
  damped_by g d = latest-both now (floor_ends m cfg started) (instants m.damp) g (listed_by m.damp.some m.damp.at now d)

  backed_by : latest_in (floor_ends m cfg started) ≤ now → ahead m.damp now ≡ false → ahead m.backoff now ≡ false → latest_in (backed_ends m cfg started) ≤ now
  unfolding backed_ends
  backed_by g d b = latest-both now (damped_ends m cfg started) (instants m.backoff) (damped_by g d) (listed_by m.backoff.some m.backoff.at now b)

  module _ (sent : ℕ) (gate : latest_in (floor_ends m cfg started) ≤ now) where
    -- the last of an instant and others that are not after now
    with_one : (t : ℕ) → ahead m.damp now ≡ false → ahead m.backoff now ≡ false → t ≤ now → latest_in (backed_ends m cfg started ++ t ∷ []) ≤ now
    with_one t d b h = latest-both now (backed_ends m cfg started) (t ∷ []) (backed_by gate d b) (omega (arith, latest-one t))

    scheduled_by : damped_now m cfg sent now ≡ false → scheduled_now m cfg started sent now ≡ true → latest_in (scheduled_waits m cfg started sent) ≤ now
    unfolding damped_now scheduled_now triggered_now backed_now scheduled_waits
    scheduled_by = under (soft_met cfg sent) m.due (enough_sent cfg sent) (leb (trigger_at m cfg started) now) (leb-true (trigger_at m cfg started) now)
      where
        under :
            (soft due enough timed : Bool)
            → (timed ≡ true → trigger_at m cfg started ≤ now)
            → (not soft && ahead m.damp now) ≡ false
            → ((due || (soft || (enough || timed))) && not (not soft && (not due && ahead m.backoff now))) ≡ true
            → latest_in (pick soft (floor_ends m cfg started) (pick due (damped_ends m cfg started) (pick enough (backed_ends m cfg started) (backed_ends m cfg started ++ trigger_at m cfg started ∷ [])))) ≤ now
        under true due enough timed h d p = gate
        under false true enough timed h d p = damped_by gate d
        under false false true timed h d p = backed_by gate d (not_so (ahead m.backoff now) p)
        under false false false timed h d p = with_one (trigger_at m cfg started) d (not_so (ahead m.backoff now) (and_right timed _ p)) (h (and_left timed _ p))

    -- a met soft limit waits for the floors alone
    silent-by : damped_now m cfg sent now ≡ false → silent_now m cfg started sent now ≡ true → least (latest_in (scheduled_waits m cfg started sent)) (latest_in (silence_waits m cfg started)) ≤ now
    unfolding damped_now silent_now backed_now scheduled_waits silence_waits
    silent-by = under (soft_met cfg sent) m.sent_data (leb (silence_at m cfg started) now) (leb-true (silence_at m cfg started) now)
      where
        later : List ℕ
        later = pick m.due (damped_ends m cfg started) (pick (enough_sent cfg sent) (backed_ends m cfg started) (backed_ends m cfg started ++ trigger_at m cfg started ∷ []))

        under :
            (soft sends past : Bool)
            → (past ≡ true → silence_at m cfg started ≤ now)
            → (not soft && ahead m.damp now) ≡ false
            → (sends && (past && not (not soft && (not false && ahead m.backoff now)))) ≡ true
            → least (latest_in (pick soft (floor_ends m cfg started) later)) (latest_in (backed_ends m cfg started ++ silence_at m cfg started ∷ [])) ≤ now
        under true sends past h d p = le_trans (least-le _ _).0 gate
        under false sends past h d p =
            let q = and_right sends _ p in
            le_trans (least-le _ _).1 (with_one (silence_at m cfg started) d (not_so (ahead m.backoff now) (and_right past _ q)) (h (and_left past _ q)))

  silent-sends : (sent : ℕ) → silent_now m cfg started sent now ≡ true → m.sent_data ≡ true
  unfolding silent_now
  silent-sends sent p = and_left m.sent_data _ p

  kind-by :
      (sent : ℕ) (silence : Bool)
      → m.link_since ≤ now → (m.last_cutover.some ≡ true → m.last_cutover.at ≤ now) → started ≤ now
      → (kind_of m cfg started sent silence now).some ≡ true → at_of m cfg started sent silence ≤ now
  unfolding kind_of at_of
  kind-by sent silence link cutover begun =
      under (floors_passed m cfg started now) (damped_now m cfg sent now) (scheduled_now m cfg started sent now) silence (silent_now m cfg started sent now)
      (λ f d p. scheduled_by sent (floors_by link cutover begun f) d p)
      (λ f d p. silent-by sent (floors_by link cutover begun f) d p)
      (silent-sends sent)
    where
      first : ℕ
      first = latest_in (scheduled_waits m cfg started sent)

      both : ℕ
      both = least first (latest_in (silence_waits m cfg started))

      sooner : (b : Bool) → first ≤ now → pick b both first ≤ now
      sooner true h = le_trans (least-le _ _).0 h
      sooner false h = h

      sending : (b : Bool) → b ≡ true → both ≤ now → pick b both first ≤ now
      sending true e h = h
      sending false e h = absurd (false≢true e)

      under :
          (f d scheduled silence silent : Bool)
          → (f ≡ true → d ≡ false → scheduled ≡ true → first ≤ now)
          → (f ≡ true → d ≡ false → silent ≡ true → both ≤ now)
          → (silent ≡ true → m.sent_data ≡ true)
          → (pick (f && not d) (pick scheduled (at start_scheduled) (pick (silence && silent) (at start_silence) none)) none).some ≡ true
          → pick (silence && m.sent_data) both first ≤ now
      under false d scheduled silence silent hs hq hd p = absurd (false≢true p)
      under true true scheduled silence silent hs hq hd p = absurd (false≢true p)
      under true false true silence silent hs hq hd p = sooner (silence && m.sent_data) (hs refl refl refl)
      under true false false false silent hs hq hd p = absurd (false≢true p)
      under true false false true false hs hq hd p = absurd (false≢true p)
      under true false false true true hs hq hd p = sending m.sent_data (hd refl) (hq refl refl refl)

-- a start needs a current epoch
pub may-start-cur : (s : State) → may_start s ≡ true → s.cur.some ≡ true
unfolding may_start
may-start-cur s e = and_left s.cur.some _ e

-- a start that `start_kind` yields at now, where the link, the last cutover and the epoch began by
-- then, stands in the wake at an instant not after now
pub start-by : (s : State) (cfg : Config) (p : Profile) (now : ℕ) → Begun s now → (start_kind s cfg p now).some ≡ true → reached_of (start_at s cfg p) now ≡ true
unfolding start_kind start_at
start-by s cfg p now b = under (may_start s) refl
  where
    under :
        (q : Bool) → may_start s ≡ q
        → (pick q (kind_of s.mem cfg s.cur.ep.started s.cur.ep.sent p.silence now) none).some ≡ true
        → reached_of (pick q (at (at_of s.mem cfg s.cur.ep.started s.cur.ep.sent p.silence)) none) now ≡ true
    under true e h = le-leb _ _ (kind-by s.mem cfg s.cur.ep.started now s.cur.ep.sent p.silence b.link b.cutover (b.started (may-start-cur s e)) h)
    under false e h = h

-- the same of a start that is called for
pub called-by : (s : State) (cfg : Config) (p : Profile) (now : ℕ) → Begun s now → called_for s cfg p now ≡ true → reached_of (start_at s cfg p) now ≡ true
unfolding called_for
called-by s cfg p now b h = start-by s cfg p now b (and_left (start_kind s cfg p now).some _ h)
