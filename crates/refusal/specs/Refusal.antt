-- Refusals 1 to 7: "A call tests, in this order, those that concern what it was given. The answer is
-- the number alone, with the check's place in 1; state and buffers remain."
use Rattle.std.specs.Prelude.{ℕ, Bool, false, not, ◌&&◌, ◌||◌, List, [], ◌∷◌, ◌++◌, map, ltb, eqb, ℤ, pos, neg_ℤ}
use Rattle.std.specs.Int.Signed.{lt_z}
use Rattle.time.specs.Pick.{pick}
use Rattle.ladder.specs.Schedule.{max_rungs}
use Rattle.settings.specs.declared.Config.{Config}
use Rattle.settings.specs.Settings.{place_of}
use Rattle.numbers.specs.Numbers.{refused_settings, refused_profile, refused_candidates, refused_no_current, refused_shared, refused_ladder, refused_draw}
use Rattle.cycle.specs.Kind.{is_pend_i, is_pend_r}
use Rattle.candidates.specs.Held.{firsts}
use Rattle.candidates.specs.Repeats.{repeated}
use Rattle.state.specs.declared.State.{State}
use Rattle.state.specs.declared.Profile.{Profile}
use Rattle.state.specs.Parts.{epochs_of, ladders_of}
use Rattle.refusal.specs.Refused.{Refused}

-- a test that holds of some element
unfoldable pub any_of : {A : Type 0} → (A → Bool) → List A → Bool
any_of p [] = false
any_of p (a ∷ l) = p a || any_of p l

-- ---- the conditions

-- 2. "A profile value lies outside its range": "messages (2 or 3) .. and a floor of 0 to 64 bytes"
unfoldable pub profile_bad : Profile → Bool
profile_bad p = not (eqb p.messages 2 || eqb p.messages 3) || ltb 64 p.floor

-- 3. "The state holds more than 32 candidates."
abbrev pub cands_bad : State → Bool
cands_bad s = ltb 32 s.cands.len

-- 4. "A pending or drained epoch stands without a current one."
unfoldable pub is_pending : ℕ → Bool
is_pending kind = is_pend_i kind || is_pend_r kind

unfoldable pub epochs_bad_of : Bool → Bool → Bool → Bool
epochs_bad_of cur pending drain = not cur && (pending || drain)

abbrev pub epochs_bad : State → Bool
epochs_bad s = epochs_bad_of s.cur.some (is_pending s.cycle.kind) s.drain.some

-- 5. "Two epochs share a tag, or two candidates a sequence number."
abbrev pub tags_of : State → List ℕ
tags_of s = map (λ e. e.tag) (epochs_of s)

abbrev pub seqs_of : State → List ℕ
seqs_of s = firsts s.cands.len s.cands.seq

unfoldable pub numbers_bad : State → Bool
numbers_bad s = repeated (tags_of s) || repeated (seqs_of s)

-- 6. "A ladder has more than 16 rungs, or stands past its last." One whose cursor is at its length
-- has every rung taken, and is accepted.
unfoldable pub ladder_bad : ℕ → ℕ → Bool
ladder_bad len next = ltb max_rungs len || ltb len next

unfoldable pub ladders_bad : State → Bool
ladders_bad s = any_of (λ l. ladder_bad l.sched.len l.next) (ladders_of s)

-- 7. "A draw lies outside its range." "Spread, from −J to J"
unfoldable pub spread_bad : ℕ → ℤ → Bool
spread_bad j spread = lt_z spread (neg_ℤ (pos j)) || lt_z (pos j) spread

-- "Extra, from 0 to J"
abbrev pub extra_bad : ℕ → ℕ → Bool
extra_bad j extra = ltb j extra

-- ---- the first that holds

-- a test: whether it sends the call back, and the answer where it does
pub record Test : Type 0 where
  pub back : Bool
  pub answer : Refused

abbrev pub accepted : Refused
accepted = record { number = 0; place = 0 }

-- the answer of the first test that sends back
unfoldable pub first : List Test → Refused
first [] = accepted
first (t ∷ l) = pick t.back t.answer (first l)

-- a number alone
abbrev pub numbered : ℕ → Refused
numbered n = record { number = n; place = 0 }

abbrev pub by : ℕ → Bool → Test
by n b = record { back = b; answer = numbered n }

-- 1. "The settings fail a check of 004; the first such check's place in file order, from 1, is given."
abbrev pub by_settings : Config → Test
by_settings cfg = record { back = not (eqb (place_of cfg) 0); answer = record { number = refused_settings; place = place_of cfg } }

-- 1 and 2: what a call is given beside the state
unfoldable pub given_tests : Config → Profile → List Test
given_tests cfg p = by_settings cfg ∷ by refused_profile (profile_bad p) ∷ []

-- 3 to 6: "A call is accepted when no number sends it back, a state when 3 to 6 pass it."
unfoldable pub state_tests : State → List Test
state_tests s = by refused_candidates (cands_bad s) ∷ by refused_no_current (epochs_bad s) ∷ by refused_shared (numbers_bad s) ∷ by refused_ladder (ladders_bad s) ∷ []

-- ---- what each call tests, before those that its own arguments add (8 to 11)

-- open: 1, 2, 7
unfoldable pub open_tests : Config → Profile → ℤ → List Test
open_tests cfg p spread = given_tests cfg p ++ by refused_draw (spread_bad cfg.jitter spread) ∷ []

-- poll: 1 to 7, with both draws
unfoldable pub poll_tests : State → Config → Profile → ℤ → ℕ → List Test
poll_tests s cfg p spread extra =
    given_tests cfg p ++ state_tests s ++ by refused_draw (spread_bad cfg.jitter spread || extra_bad cfg.jitter extra) ∷ []

-- frame, notice: 1 to 7
unfoldable pub frame_tests : State → Config → Profile → ℤ → List Test
frame_tests s cfg p spread = given_tests cfg p ++ state_tests s ++ by refused_draw (spread_bad cfg.jitter spread) ∷ []

-- start reply, wake, status: 1 to 6
unfoldable pub link_tests : State → Config → Profile → List Test
link_tests s cfg p = given_tests cfg p ++ state_tests s

-- ---- the answers

-- the state's own number, 0 where it is accepted
unfoldable pub state_back : State → ℕ
state_back s = (first (state_tests s)).number

abbrev pub before_open : Config → Profile → ℤ → Refused
before_open cfg p spread = first (open_tests cfg p spread)

abbrev pub before_poll : State → Config → Profile → ℤ → ℕ → Refused
before_poll s cfg p spread extra = first (poll_tests s cfg p spread extra)

abbrev pub before_frame : State → Config → Profile → ℤ → Refused
before_frame s cfg p spread = first (frame_tests s cfg p spread)

abbrev pub before_link : State → Config → Profile → Refused
before_link s cfg p = first (link_tests s cfg p)

-- a told sent count has neither settings nor profile
abbrev pub before_told : State → Refused
before_told s = first (state_tests s)
