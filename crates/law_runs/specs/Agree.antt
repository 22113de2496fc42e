-- A poll: its answer and what it leaves are decided by what stands.
use Rattle.std.specs.Prelude.{ℕ, Bool, true, ◌||◌, ◌≡◌, refl, [], ◌∷◌, eqb, ℤ}
use Rattle.std.proofs.Common.{◌∙◌, ap₂}
use Rattle.settings.specs.declared.Config.{Config}
use Rattle.state.specs.declared.State.{State}
use Rattle.state.specs.declared.Profile.{Profile}
use Rattle.state.specs.declared.Given.{Given}
use Rattle.refusal.specs.Refusal.{by, spread_bad, extra_bad, given_tests, state_tests, poll_tests, before_poll}
use Rattle.law_refusal.specs.Sound.{Sound}
use Rattle.poll_loop.specs.Passes.{three_passes}
use Rattle.poll_close.specs.Closing.{unsealed, closing}
use Rattle.law_alike.specs.Whole.{Alike}
use Rattle.law_alike.specs.Refusals.{poll-back}
use Rattle.law_agree.specs.Passes.{three-passes}
use Rattle.law_agree.specs.Closing.{unsealed-alike, closing-alike}
use Rattle.law_agree.specs.Outcomes.{Outcomes, outcome-alike}
use Rattle.law_agree.specs.Taken.{taken-sound}
use Rattle.poll.specs.Poll.{given_to, accepted_poll, poll_of}

taken : (s : State) (cfg : Config) (p : Profile) (spread : ℤ) (extra : ℕ) → eqb (before_poll s cfg p spread extra).number 0 ≡ true → Sound s
unfolding poll_tests given_tests state_tests
taken s cfg p spread extra e = taken-sound s cfg p (by 7 (spread_bad cfg.jitter spread || extra_bad cfg.jitter extra) ∷ []) e

accepted-alike : {s t : State} → Alike s t → Sound s → (g : Given) (spread : ℤ) → Outcomes (accepted_poll s g spread) (accepted_poll t g spread)
unfolding accepted_poll
accepted-alike {s} {t} a o g spread =
    let e = three-passes g spread a o in
    let w = e.work in
    let u = (three_passes s g spread).work in
    let v = (three_passes t g spread).work in
    record {
      number = refl;
      place = refl;
      state = w.state;
      written = unsealed-alike w.state g u.ended u.out ∙ ap₂ (λ b l. unsealed v.state g b l) w.ended w.out;
      out = closing-alike w.state g u.ended u.out ∙ ap₂ (λ b l. closing v.state g b l) w.ended w.out;
      count = cc e.count;
    }

pub poll-alike : {s t : State} → Alike s t → (cfg : Config) (p : Profile) (now : ℕ) (workers : Bool) (spread : ℤ) (extra : ℕ) → Outcomes (poll_of s cfg p now workers spread extra) (poll_of t cfg p now workers spread extra)
unfolding poll_of
poll-alike {s} {t} a cfg p now workers spread extra =
    outcome-alike a (poll-back a cfg p spread extra)
    (λ q. accepted-alike a (taken s cfg p spread extra q) (given_to cfg p now workers extra) spread)
