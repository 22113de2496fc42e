-- A poll's number in document 01's words: accepted exactly where 1 to 7 pass, and each number exactly
-- where its sentence is the first to hold.
use Rattle.std.specs.Prelude.{ℕ, ◌≤◌, ◌<◌, Bool, ◌||◌, ◌⊎◌, [], ◌∷◌, ℤ}
use Rattle.std.proofs.Common.{inl, inr, arith}
use Rattle.std.proofs.Math.Logic.Iff
use Rattle.std.proofs.Math.Path.{refl, ap}
use Rattle.settings.specs.declared.Config.{Config}
use Rattle.numbers.specs.Numbers.{refused_draw}
use Rattle.state.specs.declared.State.{State}
use Rattle.state.specs.declared.Profile.{Profile}
use Rattle.refusal.specs.Refusal.{any_of, spread_bad, extra_bad, first, by, given_tests, state_tests, poll_tests, link_tests, before_poll}
use Rattle.refusal.specs.First.{rising}
use Rattle.answer.specs.Outcome.{Outcome}
use Rattle.answer.proofs.Laws.{by_tests, by_nonzero}
use Rattle.law_exact.specs.Reads.{Reads, reads_less, reads_or}
use Rattle.law_exact.specs.Words.{SpreadOk, SpreadOut, reads_spread}
use Rattle.law_exact.specs.Numbers.{Linked, any_place, and_then, alone-holds, alone-fails, linked}
use Rattle.poll.specs.Poll.{given_to, accepted_poll, poll_of}
use Rattle.poll.specs.Exact.{PollExact}

module _ (s : State) (cfg : Config) (p : Profile) (spread : ℤ) (extra : ℕ) where
  abbrev out_of_range : Bool
  out_of_range = spread_bad cfg.jitter spread || extra_bad cfg.jitter extra

  reads_draws : Reads out_of_range (SpreadOut cfg.jitter spread ⊎ (cfg.jitter < extra)) (SpreadOk cfg.jitter spread × (extra ≤ cfg.jitter))
  reads_draws = reads_or (reads_spread cfg.jitter spread) (reads_less cfg.jitter extra)

  in_turn : Linked (before_poll s cfg p spread extra) (first (by refused_draw out_of_range ∷ [])).number s cfg p
  unfolding poll_tests link_tests given_tests state_tests rising any_place any_of
  in_turn = linked s cfg p (by refused_draw out_of_range ∷ []) refl refl

  pub poll_exact : (now : ℕ) (workers : Bool) → PollExact s cfg p spread extra (poll_of s cfg p now workers spread extra)
  unfolding poll_of accepted_poll
  poll_exact now workers =
      let o = accepted_poll s (given_to cfg p now workers extra) spread in
      let l = by_tests (before_poll s cfg p spread extra) s o (λ x. Linked x (first (by refused_draw out_of_range ∷ [])).number s cfg p) refl refl (λ z. in_turn.place.none (λ e. omega arith)) in_turn in
      record {
        accepted =
            Iff.trans (and_then (l.later 0 (inl refl)) (alone-fails reads_draws 7 (omega arith)))
            (λ x. record { link = x.0; drawn = x.1.0; more = x.1.1 }, λ o. (o.link, (o.drawn, o.more)));
        given = l.given;
        state = l.state;
        draws = and_then (l.later 7 (inr (omega arith))) (alone-holds reads_draws 7 (omega arith));
        place = l.place;
        back = λ h.
            let e = by_nonzero (before_poll s cfg p spread extra) s o refl h in
            (ap (λ (x : Outcome). x.state) e, ap (λ (x : Outcome). x.out) e, ap (λ (x : Outcome). x.count) e);
      }
