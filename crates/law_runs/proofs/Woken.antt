-- A poll of the link is accepted exactly where 1 to 7 pass it; and there the two calls that read a state
-- name the wake of demand 3. A quiet poll leaves nothing.
use Rattle.std.specs.Prelude.{ℕ, zero, suc, Bool, true, ◌&&◌, ◌≡◌, List, [], ℤ}
use Rattle.std.proofs.lemmas.Bool.{false≢true}
use Rattle.std.proofs.Math.Path.{refl, sym, ap}
use Rattle.std.proofs.Common.{◌∙◌, arith}
use Rattle.std.proofs.Math.Option.{Option, some}
use borrow.Author.Tests.{eq-eqb, ne_eqb}
use Rattle.std.proofs.Math.Dec.{eqb}
use Rattle.time.specs.Pick.{pick}
use Rattle.time.specs.Time.{none}
use Rattle.settings.specs.declared.Config.{Config}
use Rattle.state.specs.declared.State.{State}
use Rattle.state.specs.declared.Profile.{Profile}
use Rattle.events.specs.Events.{Event}
use Rattle.refusal.specs.Refusal.{before_poll, before_link}
use Rattle.answer.specs.Outcome.{done, outcome_by}
use Rattle.answer.proofs.Laws.{by-test}
use Rattle.wake.specs.Wake.{wake_of}
use Rattle.wake.specs.Quiet.{quiet_of}
use Rattle.law_exact.specs.Numbers.{LinkOk}
use Rattle.call_read.specs.Read.{woke_of, status_of}
use Rattle.call_read.proofs.Exact.{wake_exact, status_exact}
use Rattle.poll.specs.Poll.{given_to, accepted_poll, poll_of}
use Rattle.poll.proofs.Laws.{poll-still}
use Rattle.law_runs.specs.Runs.{goes_on, accepted, quiet}
use Rattle.law_runs.specs.Served.{answer_of}
use Rattle.law_runs.specs.Link.{a_poll, instant_of, link}
use Rattle.poll.proofs.Exact.{poll_exact}

-- number 0 is no refusal
goes : (n place : ℕ) (out : List Event) (c : Option ℕ) → goes_on (answer_of n place out c) ≡ eqb n 0
goes zero place out c = sym (eq-eqb zero 0 refl)
goes (suc n) place out c = sym (ne_eqb (suc n) 0 (λ e. absurd (omega arith)))

-- accepted, and a test beside it
pub taken : (n place : ℕ) (out : List Event) (c : Option ℕ) (b : Bool) → goes_on (answer_of n place out c) && b ≡ true → (n ≡ 0) × (b ≡ true)
taken zero place out c b q = (refl, q)
taken (suc n) place out c b q = absurd (false≢true q)

module _ (s : State) (cfg : Config) (p : Profile) (now : ℕ) (workers : Bool) (spread : ℤ) (extra : ℕ) where
  -- "A call is accepted when no number sends it back"
  pub accepted-poll : accepted link (a_poll cfg p now workers spread extra) s ≡ eqb (before_poll s cfg p spread extra).number 0
  unfolding poll_of accepted_poll
  accepted-poll =
      let r = before_poll s cfg p spread extra in
      let o = accepted_poll s (given_to cfg p now workers extra) spread in
      goes (outcome_by r s o).number _ _ _ ∙ by-test r s o (λ x. eqb x.number 0 ≡ eqb r.number 0) refl (λ e. eq-eqb 0 0 refl ∙ sym e)

  -- quiet in the demand's sense: accepted, and none of the four conditions
  pub quiet-poll :
      quiet link (a_poll cfg p now workers spread extra) s
      ≡ (eqb (before_poll s cfg p spread extra).number 0 && quiet_of s cfg p now workers)
  unfolding quiet_of
  quiet-poll = ap (λ b. b && quiet_of s cfg p now workers) accepted-poll

  -- a quiet poll has no event and a count of 0, and gives the state back
  pub quiet-still :
      quiet link (a_poll cfg p now workers spread extra) s ≡ true
      → poll_of s cfg p now workers spread extra ≡ done s []
  unfolding quiet_of
  quiet-still q =
      let a = poll_of s cfg p now workers spread extra in
      let t = taken a.number a.place a.out (some a.count) (quiet_of s cfg p now workers) q in
      poll-still s cfg p now workers spread extra t.0 t.1

  -- what a poll is accepted for, `wake` and `status` are accepted for
  read_passes : accepted link (a_poll cfg p now workers spread extra) s ≡ true → LinkOk s cfg p
  read_passes e =
      let a = poll_of s cfg p now workers spread extra in
      let z = (taken a.number a.place a.out (some a.count) true (ap (λ b. b && true) e)).0 in
      ((poll_exact s cfg p spread extra now workers).accepted.0 z).link

  -- "taken for that poll's state, settings and profile"
  pub woke-accepted :
      accepted link (a_poll cfg p now workers spread extra) s ≡ true
      → ((woke_of s cfg p).number ≡ 0) × (instant_of (woke_of s cfg p).at ≡ link.wake (a_poll cfg p now workers spread extra) s)
  unfolding woke_of
  woke-accepted e =
      let z = (wake_exact s cfg p).accepted.1 (read_passes e) in
      (z, ap (λ b. instant_of (pick b (wake_of s cfg p) none)) (eq-eqb (before_link s cfg p).number 0 z))

  pub status-accepted :
      (t : ℕ) → accepted link (a_poll cfg p now workers spread extra) s ≡ true
      → ((status_of s cfg p t).number ≡ 0) × (instant_of (status_of s cfg p t).wake ≡ link.wake (a_poll cfg p now workers spread extra) s)
  unfolding status_of
  status-accepted t e =
      let z = (status_exact s cfg p t).accepted.1 (read_passes e) in
      (z, ap (λ b. instant_of (pick b (wake_of s cfg p) none)) (eq-eqb (before_link s cfg p).number 0 z))
