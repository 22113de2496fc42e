-- The numbers of the wake and the status, 1 to 6, in document 01's words: each is accepted exactly where the
-- tests that concern it pass, and each number is given exactly where its sentence is the first to hold.
use Rattle.std.specs.Prelude.{ℕ, ◌↔◌, ◌≡◌}
use Rattle.std.proofs.Common.{inl, sym}
use Rattle.std.proofs.Math.Logic.Iff
use Rattle.std.proofs.Math.Path.{refl, ap, subst}
use mathlib.Core.List.{[]}
use borrow.Author.Tests.{eq-eqb, ne_eqb}
use Rattle.time.specs.Pick.{pick}
use Rattle.time.specs.Time.{none}
use Rattle.settings.specs.declared.Config.{Config}
use Rattle.state.specs.declared.State.{State}
use Rattle.state.specs.declared.Profile.{Profile}
use Rattle.wake.specs.Wake.{wake_of}
use Rattle.refusal.specs.Refusal.{any_of, first, given_tests, state_tests, link_tests, before_link}
use Rattle.refusal.specs.First.{rising}
use Rattle.law_exact.specs.Numbers.{LinkOk, Linked, any_place, linked}
use Rattle.call_read.specs.Read.{woke_of, quiet_time, status_of}
use Rattle.call_read.specs.QuietTime.{QuietExact}
use Rattle.call_read.proofs.QuietTime.{quiet_exact}
use Rattle.call_read.specs.Exact.{StatusExact, WakeExact}

module _ (s : State) (cfg : Config) (p : Profile) where
  read_turn : Linked (before_link s cfg p) 0 s cfg p
  unfolding link_tests given_tests state_tests rising any_place any_of first
  read_turn = linked s cfg p [] refl refl

  read_accepted : ((before_link s cfg p).number ≡ 0) ↔ LinkOk s cfg p
  read_accepted = Iff.trans (read_turn.later 0 (inl refl)) (λ x. x.0, λ o. (o, refl))

  pub wake_exact : WakeExact s cfg p (woke_of s cfg p)
  unfolding woke_of
  wake_exact =
      record {
        accepted = read_accepted;
        given = read_turn.given;
        state = read_turn.state;
        place = read_turn.place;
        taken = λ z. ap (λ b. pick b (wake_of s cfg p) none) (eq-eqb (before_link s cfg p).number 0 z);
        back = λ h. ap (λ b. pick b (wake_of s cfg p) none) (ne_eqb (before_link s cfg p).number 0 h);
      }

  pub status_exact : (time : ℕ) → StatusExact s cfg p time (status_of s cfg p time)
  unfolding status_of
  status_exact time =
      record {
        accepted = read_accepted;
        given = read_turn.given;
        state = read_turn.state;
        place = read_turn.place;
        quiet = λ z.
            subst (QuietExact s time) (sym (ap (λ b. pick b (quiet_time s time) none) (eq-eqb (before_link s cfg p).number 0 z))) (quiet_exact s time);
        back = λ h.
            let e = ne_eqb (before_link s cfg p).number 0 h in
            (rw e, rw e, rw e, rw e);
      }
