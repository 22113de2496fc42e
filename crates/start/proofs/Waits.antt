-- The code's maxima are the last instants of the lists that a start waits for. Assumes nothing.
use Prim.Native.Nat.{ℕ, ◌≤◌}
use mathlib.Core.Bool.{Bool, true, false, ◌&&◌}
use mathlib.Core.Path.{◌≡◌, refl, sym}
use mathlib.Core.List.{[], ◌∷◌, ◌++◌}
use native.Mathlib.Omega.{arith}
use native.Mathlib.Nat.{le_trans}
use Rattle.time.specs.Pick.{pick}
use Rattle.time.specs.Time.{later_of, least, most}
use Rattle.time.specs.Laws.{least-left}
use Rattle.settings.specs.declared.Config.{Config}
use Rattle.state.specs.declared.Memory.{Memory}
use Rattle.start.specs.Start.{latest_of, latest_in, soft_met, enough_sent, trigger_at, silence_at, floor_ends, damped_ends, backed_ends, silence_waits, scheduled_waits, scheduled_after, at_of}
use Rattle.start.proofs.Laws.{most-max, latest_with, latest-instants, latest-more}

-- the floors' ends, the third of them there or not
three : (x y z : ℕ) → most z (most x y) ≡ latest_in (x ∷ y ∷ z ∷ [])
unfolding latest_in
three x y z = simp most-max (omega arith)

two : (x y : ℕ) → most x y ≡ latest_in (x ∷ y ∷ [])
unfolding latest_in
two x y = simp most-max (omega arith)

pub told-none : (a b : Bool) → b ≡ false → (a && b) ≡ false
told-none true b e = e
told-none false b e = refl

module _ (m : Memory) (cfg : Config) (started : ℕ) where
  pub gate_three : m.last_cutover.some ≡ true → most (later_of m.last_cutover.at cfg.floor_cutover) (most (later_of m.link_since cfg.floor_link) (later_of started cfg.floor_session)) ≡ latest_in (floor_ends m cfg started)
  unfolding floor_ends
  gate_three e = rw e (three _ _ _)

  pub gate_two : m.last_cutover.some ≡ false → most (later_of m.link_since cfg.floor_link) (later_of started cfg.floor_session) ≡ latest_in (floor_ends m cfg started)
  unfolding floor_ends
  gate_two e = rw e (two _ _)

  pub damped_last : latest_of m.damp (latest_in (floor_ends m cfg started)) ≡ latest_in (damped_ends m cfg started)
  unfolding damped_ends
  damped_last = latest-instants m.damp (floor_ends m cfg started)

  pub backed_last : latest_of m.backoff (latest_in (damped_ends m cfg started)) ≡ latest_in (backed_ends m cfg started)
  unfolding backed_ends
  backed_last = latest-instants m.backoff (damped_ends m cfg started)

  pub silence-last : most (silence_at m cfg started) (latest_in (backed_ends m cfg started)) ≡ latest_in (silence_waits m cfg started)
  unfolding silence_waits
  silence-last = latest_with (silence_at m cfg started) (backed_ends m cfg started)

  -- the floors are among what a start by silence waits for
  floors_first : latest_in (floor_ends m cfg started) ≤ latest_in (silence_waits m cfg started)
  unfolding damped_ends backed_ends silence_waits
  floors_first =
      le_trans (latest-more (floor_ends m cfg started) _)
      (le_trans (latest-more (damped_ends m cfg started) _) (latest-more (backed_ends m cfg started) _))

  module _ (sent : ℕ) where
    pub scheduled_last : soft_met cfg sent ≡ false → scheduled_after m cfg started sent (latest_in (damped_ends m cfg started)) (latest_in (backed_ends m cfg started)) ≡ latest_in (scheduled_waits m cfg started sent)
    unfolding scheduled_after scheduled_waits
    scheduled_last e = rw e (under m.due (enough_sent cfg sent))
      where
        under : (d n : Bool) → pick d (latest_in (damped_ends m cfg started)) (pick n (latest_in (backed_ends m cfg started)) (most (trigger_at m cfg started) (latest_in (backed_ends m cfg started)))) ≡ latest_in (pick d (damped_ends m cfg started) (pick n (backed_ends m cfg started) (backed_ends m cfg started ++ trigger_at m cfg started ∷ [])))
        under true n = refl
        under false true = refl
        under false false = latest_with (trigger_at m cfg started) (backed_ends m cfg started)

    -- a met soft limit waits for the floors alone, by silence too
    pub soft-last : (silence : Bool) → soft_met cfg sent ≡ true → latest_in (floor_ends m cfg started) ≡ at_of m cfg started sent silence
    unfolding at_of scheduled_waits
    soft-last silence e = rw e (under (silence && m.sent_data))
      where
        under : (q : Bool) → latest_in (floor_ends m cfg started) ≡ pick q (least (latest_in (floor_ends m cfg started)) (latest_in (silence_waits m cfg started))) (latest_in (floor_ends m cfg started))
        under true = sym (least-left floors_first)
        under false = refl

    -- the earlier of the two kinds of start, from the values that the code works out one by one
    pub silent-last :
        (silence : Bool) (g d b t q : ℕ)
        → soft_met cfg sent ≡ false → silence ≡ true → m.sent_data ≡ true
        → g ≡ latest_in (floor_ends m cfg started) → d ≡ latest_of m.damp g → b ≡ latest_of m.backoff d
        → t ≡ scheduled_after m cfg started sent d b → q ≡ silence_at m cfg started
        → least t (most q b) ≡ at_of m cfg started sent silence
    unfolding at_of
    silent-last silence g d b t q soft s told hg hd hb ht hq =
        simp (hq, ht, hb, hd, hg, s, told, damped_last, backed_last, silence-last, scheduled_last soft)

    -- and where no start by silence is waited for
    pub scheduled-alone :
        (silence : Bool) (g d b t : ℕ)
        → soft_met cfg sent ≡ false → (silence && m.sent_data) ≡ false
        → g ≡ latest_in (floor_ends m cfg started) → d ≡ latest_of m.damp g → b ≡ latest_of m.backoff d
        → t ≡ scheduled_after m cfg started sent d b
        → t ≡ at_of m cfg started sent silence
    unfolding at_of
    scheduled-alone silence g d b t soft told hg hd hb ht =
        simp (ht, hb, hd, hg, told, damped_last, backed_last, scheduled_last soft)
