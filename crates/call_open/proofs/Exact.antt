-- The numbers of `open` in document 01's words: it is accepted exactly where the tests that concern it pass,
-- and each number is given exactly where its sentence is the first to hold.
use Rattle.std.specs.Prelude.{ℕ, Bool, [], ◌∷◌, ℤ}
use Rattle.std.proofs.Common.{inl, inr, arith}
use Rattle.std.proofs.Math.Logic.Iff
use Rattle.std.proofs.Math.Path.{refl, ap}
use Rattle.settings.specs.declared.Config.{Config}
use Rattle.numbers.specs.Numbers.{refused_draw}
use Rattle.epoch.specs.declared.Index.{Index}
use Rattle.state.specs.declared.Profile.{Profile}
use Rattle.refusal.specs.Refusal.{any_of, spread_bad, first, by, given_tests, open_tests, before_open}
use Rattle.refusal.specs.First.{rising}
use Rattle.answer.specs.Outcome.{Outcome}
use Rattle.answer.proofs.Laws.{by_tests, by_nonzero}
use Rattle.law_exact.specs.Words.{reads_spread}
use Rattle.law_exact.specs.Numbers.{Opening, any_place, and_then, alone-holds, alone-fails, opening}
use Rattle.call_open.specs.Open.{blank_state, opened, open_of}
use Rattle.call_open.specs.Exact.{OpenExact}

module _ (cfg : Config) (p : Profile) (spread : ℤ) where
  open_turn : Opening (before_open cfg p spread) (first (by refused_draw (spread_bad cfg.jitter spread) ∷ [])).number cfg p
  unfolding open_tests given_tests rising any_place any_of
  open_turn = opening cfg p (by refused_draw (spread_bad cfg.jitter spread) ∷ []) refl refl

  pub open_exact : (responder : Bool) (transport : ℕ) (lease : Index) (workers : Bool) (time : ℕ) → OpenExact cfg p spread (open_of cfg p responder transport lease workers spread time)
  unfolding open_of opened
  open_exact responder transport lease workers time =
      let o = opened responder transport lease workers spread time in
      let l = by_tests (before_open cfg p spread) blank_state o (λ x. Opening x (first (by refused_draw (spread_bad cfg.jitter spread) ∷ [])).number cfg p) refl refl (λ z. open_turn.place.none (λ e. omega arith)) open_turn in
      record {
        accepted =
            Iff.trans (and_then (l.later 0 (inl refl)) (alone-fails (reads_spread cfg.jitter spread) 7 (omega arith)))
            (λ x. record { given = x.0; drawn = x.1 }, λ o. (o.given, o.drawn));
        given = l.given;
        draw = and_then (l.later 7 (inr (omega arith))) (alone-holds (reads_spread cfg.jitter spread) 7 (omega arith));
        place = l.place;
        back = λ h.
            let e = by_nonzero (before_open cfg p spread) blank_state o refl h in
            (ap (λ (x : Outcome). x.state) e, ap (λ (x : Outcome). x.out) e);
      }
