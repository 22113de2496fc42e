-- A start reply's number in document 01's words: accepted exactly where 1 to 6 and 10 pass, and each
-- number exactly where its sentence is the first to hold.
use Rattle.std.specs.Prelude.{ℕ, not, ◌≡◌}
use Rattle.std.proofs.Common.{inl, inr, arith}
use Rattle.std.proofs.Math.Logic.Iff
use Rattle.std.proofs.Math.Path.{refl, ap}
use mathlib.Core.List.{[], ◌∷◌}
use Rattle.settings.specs.declared.Config.{Config}
use Rattle.numbers.specs.Numbers.{refused_no_start}
use Rattle.state.specs.declared.State.{State}
use Rattle.state.specs.declared.Profile.{Profile}
use Rattle.start.specs.Start.{start_kind, called_for}
use Rattle.refusal.specs.Refusal.{any_of, first, by, given_tests, state_tests, link_tests}
use Rattle.refusal.specs.First.{rising}
use Rattle.answer.specs.Outcome.{Outcome, done}
use Rattle.answer.proofs.Laws.{by-either, by_tests, by_nonzero}
use Rattle.law_exact.specs.Reads.{Reads, reads_flag, reads_less, reads_and, reads_not, reads_as}
use Rattle.law_exact.specs.Numbers.{Linked, any_place, and_then, alone-holds, alone-fails, linked}
use Rattle.call_reply.specs.declared.StartReply.{StartReply}
use Rattle.call_reply.specs.Reply.{taken_of, replied_tests, reply_refused, reply_of}
use Rattle.call_reply.specs.Exact.{NotCalled, ReplyExact, StartCalled}

pub reads_called : (s : State) (cfg : Config) (p : Profile) (now : ℕ) → Reads (not (called_for s cfg p now)) (NotCalled s cfg p now) (StartCalled s cfg p now)
unfolding called_for
reads_called s cfg p now =
    reads_as (reads_not (reads_and (reads_flag (start_kind s cfg p now).some) (reads_less s.cur.ep.sent cfg.hard)))
    (λ x. x, λ x. x)
    (λ x. record { yields = x.0; below = x.1 }, λ o. (o.yields, o.below))

module _ (s : State) (cfg : Config) (p : Profile) (now : ℕ) where
  in_turn : Linked (reply_refused s cfg p now) (first (by refused_no_start (not (called_for s cfg p now)) ∷ [])).number s cfg p
  unfolding reply_refused replied_tests link_tests given_tests state_tests rising any_place any_of
  in_turn = linked s cfg p (by refused_no_start (not (called_for s cfg p now)) ∷ []) refl refl

  pub reply_exact : (r : StartReply) → ReplyExact s cfg p now (reply_of s cfg p now r)
  unfolding reply_of
  reply_exact r =
      let o = done (taken_of s cfg p now r) [] in
      let l = by_tests (reply_refused s cfg p now) s o (λ x. Linked x (first (by refused_no_start (not (called_for s cfg p now)) ∷ [])).number s cfg p) refl refl (λ z. in_turn.place.none (λ e. omega arith)) in_turn in
      record {
        accepted =
            Iff.trans (and_then (l.later 0 (inl refl)) (alone-fails (reads_called s cfg p now) 10 (omega arith)))
            (λ x. record { link = x.0; called = x.1 }, λ o. (o.link, o.called));
        given = l.given;
        state = l.state;
        called = and_then (l.later 10 (inr (omega arith))) (alone-holds (reads_called s cfg p now) 10 (omega arith));
        place = l.place;
        silent = by-either (reply_refused s cfg p now) s o (λ x. x.out ≡ []) refl refl;
        back = λ h. ap (λ (x : Outcome). x.state) (by_nonzero (reply_refused s cfg p now) s o refl h);
      }
