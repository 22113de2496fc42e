-- What an accepted poll does: each item that is due is listed, none is left due at the poll's instant,
-- and it tells something exactly where it has something to tell.
use Rattle.std.specs.Prelude.{ℕ, ◌<◌, Bool, ◌≡◌, ℤ}
use Rattle.std.proofs.Math.Logic.{⊎_elim}
use Rattle.std.proofs.Common.{sym, ◌∙◌, arith}
use Rattle.std.proofs.Math.Path.{ap, subst}
use Rattle.settings.specs.declared.Config.{Config}
use Rattle.state.specs.declared.State.{State}
use Rattle.state.specs.declared.Profile.{Profile}
use Rattle.state.specs.declared.Given.{Given}
use Rattle.wake.specs.Due.{any_due}
use Rattle.law_refusal.specs.Sound.{Sound}
use Rattle.answer.specs.Outcome.{Outcome}
use Rattle.poll_loop.specs.Passes.{Ended}
use Rattle.law_poll.specs.Still.{passes-still, passes_speak}
use Rattle.law_clear.specs.Passes.{passes-clear}
use Rattle.law_exact.specs.Numbers.{sound-words}
use Rattle.poll.specs.Poll.{given_to, accepted_poll, poll_of}
use Rattle.poll.proofs.Laws.{taken as poll-taken, poll-still, poll-speaks}
use Rattle.poll.proofs.Exact.{poll_exact}
use Rattle.poll.specs.Acts.{PollActs}

module _ (s : State) (cfg : Config) (p : Profile) (now : ℕ) (workers : Bool) (spread : ℤ) (extra : ℕ) where
  abbrev g : Given
  g = given_to cfg p now workers extra

  abbrev answer : Outcome
  answer = poll_of s cfg p now workers spread extra

  abbrev taken : answer.number ≡ 0 → answer ≡ accepted_poll s g spread
  taken = poll-taken s cfg p now workers spread extra

  accepted-sound : answer.number ≡ 0 → Sound s
  accepted-sound z = (sound-words s).1 ((poll_exact s cfg p spread extra now workers).accepted.0 z).link.state

  pub poll_acts : PollActs s cfg p now workers answer
  unfolding accepted_poll
  poll_acts =
      record {
        counted = λ z e. subst (λ (a : Outcome). 0 < a.count) (sym (taken z)) (passes_speak g spread s e);
        clear = λ z. ap (λ (a : Outcome). any_due a.state now) (taken z) ∙ passes-clear g spread s (accepted-sound z);
        tells = λ z e q. ⊎_elim (λ t. t) (λ h. absurd (omega (arith, h, ap (λ (a : Outcome). a.count) (taken z), ap (λ (t : Ended). t.count) (passes-still g spread s e)))) (poll-speaks s cfg p now workers spread extra z q);
        still = λ z q. let e = poll-still s cfg p now workers spread extra z q in (ap (λ (a : Outcome). a.out) e, ap (λ (a : Outcome). a.count) e, ap (λ (a : Outcome). a.state) e);
      }
