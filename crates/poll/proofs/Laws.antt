-- The laws of a poll that the two-run theorem wants, and "No answer has more than 96 events".
use Rattle.std.specs.Prelude.{ℕ, ◌≤◌, ◌<◌, Bool, false, not, ◌&&◌, ◌||◌, ◌⊎◌, ◌≡◌, [], ℤ}
use Rattle.std.proofs.Math.Bool.{true}
use Rattle.std.proofs.Common.{true≢false, inl, inr, sym, ◌∙◌, subst, arith}
use Rattle.std.proofs.lemmas.Bool.{false≢true}
use Rattle.std.proofs.Math.Path.{refl, ap, ap₂}
use Rattle.std.proofs.Math.ListN.{length}
use Rattle.settings.specs.declared.Config.{Config}
use Rattle.state.specs.declared.State.{State}
use Rattle.state.specs.declared.Profile.{Profile}
use Rattle.state.specs.declared.Given.{Given}
use Rattle.start.specs.Start.{called_for}
use Rattle.wake.specs.Due.{some_in, any_due}
use Rattle.wake.specs.Quiet.{teardown_stands, offer_owed, quiet_of}
use Rattle.refusal.specs.Refusal.{before_poll, state_back}
use Rattle.law_refusal.specs.Sound.{Sound, sound, sounding}
use Rattle.answer.specs.Outcome.{Outcome, sent_back, finished, done}
use Rattle.answer.proofs.Laws.{by-taken, by-either, by_zero}
use Rattle.poll_pass.specs.Pass.{work_of}
use Rattle.poll_loop.specs.Passes.{ended, three_passes}
use Rattle.poll.specs.Poll.{given_to, settled, accepted_poll, poll_of}
use Rattle.law_poll.specs.Most.{passes-most}
use Rattle.law_early.specs.Early.{Early}
use Rattle.law_poll.specs.Kept.{passes-sound, passes-early}
use Rattle.law_poll.specs.Still.{passes-still, passes_speak}
use Rattle.law_poll.specs.After.{unsealed-still, closing-still, closing-speaks, closing-most}

-- four tests
all-four : (a b c d : Bool) → not a && (not b && (not c && not d)) ≡ true → (a ≡ false) × ((b ≡ false) × ((c ≡ false) × (d ≡ false)))
all-four true b c d e = absurd (false≢true e)
all-four false true c d e = absurd (false≢true e)
all-four false false true d e = absurd (false≢true e)
all-four false false false true e = absurd (false≢true e)
all-four false false false false e = (refl, (refl, (refl, refl)))

one_of : (a b c d : Bool) → not a && (not b && (not c && not d)) ≡ false → a ≡ false → b || (c || d) ≡ true
one_of true b c d e z = absurd (true≢false z)
one_of false true c d e z = refl
one_of false false true d e z = refl
one_of false false false true e z = refl
one_of false false false false e z = absurd (true≢false e)

module _ (s : State) (cfg : Config) (p : Profile) (now : ℕ) (workers : Bool) (spread : ℤ) (extra : ℕ) where
  abbrev g : Given
  g = given_to cfg p now workers extra

  abbrev answer : Outcome
  answer = poll_of s cfg p now workers spread extra

  -- a poll is sent back or accepted
  choice : (P : Outcome → Type 0) → P (sent_back (before_poll s cfg p spread extra) s) → P (accepted_poll s g spread) → P answer
  unfolding poll_of
  choice P x y = by-either (before_poll s cfg p spread extra) s (accepted_poll s g spread) P x y

  -- "Accepted calls leave accepted states": a poll, refused or not
  pub poll-kept : Sound s → Sound answer.state
  unfolding accepted_poll
  poll-kept o = choice (λ (q : Outcome). Sound q.state) o (passes-sound s g spread o)

  pub poll-accepted : state_back s ≡ 0 → state_back answer.state ≡ 0
  poll-accepted e = sounding answer.state (poll-kept (sound s e))

  -- no start is moved past t
  pub poll-ages : (t : ℕ) → now ≤ t → Sound s → Early s t → Early answer.state t
  unfolding accepted_poll
  poll-ages t n o e = choice (λ (q : Outcome). Early q.state t) e (passes-early s g spread t n o e)

  -- "No answer has more than 96": no poll has more than 80
  pub poll-most : length answer.out ≤ 80
  unfolding accepted_poll
  poll-most =
      choice (λ (q : Outcome). length q.out ≤ 80) (omega arith)
      (omega (arith, passes-most s g spread, closing-most (three_passes s g spread).work.state g (three_passes s g spread).work.ended (three_passes s g spread).work.out))

  -- what an accepted poll gives
  pub taken : answer.number ≡ 0 → answer ≡ accepted_poll s g spread
  unfolding poll_of accepted_poll
  taken z =
      by-taken (before_poll s cfg p spread extra) s (accepted_poll s g spread) (by_zero (before_poll s cfg p spread extra) s (accepted_poll s g spread) refl z)

  -- the passes did nothing
  unlisted : any_due s now ≡ false → accepted_poll s g spread ≡ settled g (ended (work_of s [] false) 0)
  unfolding accepted_poll
  unlisted e = ap (settled g) (passes-still g spread s e)

  -- none of the four conditions holds: no event, a count of 0, and the state as it was
  pub poll-still : answer.number ≡ 0 → quiet_of s cfg p now workers ≡ true → answer ≡ done s []
  unfolding quiet_of
  poll-still z q =
      let f = all-four (any_due s now) (called_for s cfg p now) (teardown_stands s cfg) (offer_owed s workers) q in
      taken z
      ∙ (unlisted f.0
      ∙ ap₂ (λ w l. finished s w l 0) (unsealed-still s g f.1.0 f.1.1.0 f.1.1.1) (closing-still s g f.1.0 f.1.1.0 f.1.1.1))

  -- one of them holds: an event, or a count above 0
  pub poll-speaks : answer.number ≡ 0 → quiet_of s cfg p now workers ≡ false → (some_in answer.out ≡ true) ⊎ (0 < answer.count)
  unfolding quiet_of accepted_poll
  poll-speaks z q = under (any_due s now) refl
    where
      counted : any_due s now ≡ true → 0 < (accepted_poll s g spread).count
      counted e = passes_speak g spread s e

      under : (b : Bool) → any_due s now ≡ b → (some_in answer.out ≡ true) ⊎ (0 < answer.count)
      under true e = inr (subst (λ (x : Outcome). 0 < x.count) (sym (taken z)) (counted e))
      under false e =
          inl (ap (λ (x : Outcome). some_in x.out) (taken z ∙ unlisted e)
          ∙ closing-speaks s g (one_of (any_due s now) (called_for s cfg p now) (teardown_stands s cfg) (offer_owed s workers) q e))
