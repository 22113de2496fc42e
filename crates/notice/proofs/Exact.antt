-- A notice's number in document 01's words: accepted exactly where 1 to 7 pass, and each number exactly
-- where its sentence is the first to hold.
use Rattle.std.specs.Prelude.{[], ◌∷◌, ℤ}
use Rattle.std.proofs.Common.{inl, inr, arith}
use Rattle.std.proofs.Math.Logic.Iff
use Rattle.std.proofs.Math.Path.{refl, ap}
use Rattle.settings.specs.declared.Config.{Config}
use Rattle.numbers.specs.Numbers.{refused_draw}
use Rattle.state.specs.declared.State.{State}
use Rattle.state.specs.declared.Profile.{Profile}
use Rattle.refusal.specs.Refusal.{any_of, spread_bad, first, by, given_tests, state_tests, frame_tests, link_tests, before_frame}
use Rattle.refusal.specs.First.{rising}
use Rattle.answer.specs.Outcome.{Outcome, done}
use Rattle.answer.proofs.Laws.{by_tests, by_nonzero}
use Rattle.law_exact.specs.Words.{reads_spread}
use Rattle.law_exact.specs.Numbers.{Linked, any_place, and_then, alone-holds, alone-fails, linked}
use Rattle.frame_hear.specs.Hear.{HearStep}
use Rattle.notice.specs.Notices.{notice_by}
use Rattle.notice.specs.Exact.{NoticeExact}

module _ (s : State) (cfg : Config) (p : Profile) (spread : ℤ) where
  in_turn : Linked (before_frame s cfg p spread) (first (by refused_draw (spread_bad cfg.jitter spread) ∷ [])).number s cfg p
  unfolding frame_tests link_tests given_tests state_tests rising any_place any_of
  in_turn = linked s cfg p (by refused_draw (spread_bad cfg.jitter spread) ∷ []) refl refl

  -- whatever its case does
  pub notice_exact : (step : HearStep) → NoticeExact s cfg p spread (notice_by s cfg p spread step)
  unfolding notice_by
  notice_exact step =
      let r = before_frame s cfg p spread in
      let o = done step.state step.out in
      let l = by_tests r s o (λ x. Linked x (first (by refused_draw (spread_bad cfg.jitter spread) ∷ [])).number s cfg p) refl refl (λ z. in_turn.place.none (λ e. omega arith)) in_turn in
      record {
        accepted =
            Iff.trans (and_then (l.later 0 (inl refl)) (alone-fails (reads_spread cfg.jitter spread) 7 (omega arith)))
            (λ x. record { link = x.0; drawn = x.1 }, λ o. (o.link, o.drawn));
        given = l.given;
        state = l.state;
        draw = and_then (l.later 7 (inr (omega arith))) (alone-holds (reads_spread cfg.jitter spread) 7 (omega arith));
        place = l.place;
        back = λ h. let e = by_nonzero r s o refl h in (ap (λ (x : Outcome). x.state) e, ap (λ (x : Outcome). x.out) e);
      }
