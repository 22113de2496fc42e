-- The numbers of a told sent count in document 01's words: it is accepted exactly where the tests that
-- concern it pass, and each number is given exactly where its sentence is the first to hold.
use Rattle.std.specs.Prelude.{ℕ, ◌≤◌, Bool, true, false, ◌⊎◌, ◌≡◌}
use Rattle.std.proofs.lemmas.Bool.{false≢true}
use Rattle.std.proofs.Common.{inl, inr, ⊎_elim, sym, ◌∙◌, arith}
use Rattle.std.proofs.Math.Logic.Iff
use Rattle.std.proofs.Math.Path.{refl, ap}
use mathlib.Core.List.{List, [], ◌∷◌}
use Rattle.numbers.specs.Numbers.{refused_sent}
use Rattle.state.specs.declared.State.{State}
use Rattle.refusal.specs.Refusal.{Test, numbered, first, by, state_tests}
use Rattle.refusal.specs.First.{rising}
use Rattle.answer.specs.Outcome.{Outcome, done}
use Rattle.answer.proofs.Laws.{by-either, by_tests, by_nonzero}
use Rattle.law_exact.specs.Reads.{Reads, reads_flag, reads_less, reads_and, reads_as}
use Rattle.law_exact.specs.Numbers.{Standing, and_then, alone-holds, alone-fails, standing}
use Rattle.call_sent.specs.Told.{below_held, told_tests, told_number, told_state, told_of}
use Rattle.call_sent.specs.Exact.{BelowHeld, NotBelow, ToldExact}

reads_held : (s : State) (count : ℕ) → Reads (below_held s.cur.some s.cur.ep.sent count) (BelowHeld s count) (NotBelow s count)
unfolding below_held
reads_held s count =
    reads_as (reads_and (reads_flag s.cur.some) (reads_less count s.cur.ep.sent))
    (λ x. x, λ x. x)
    (λ x h. ⊎_elim (λ e. absurd (false≢true (sym e ∙ h))) (λ k. k) x, under s.cur.some)
  where
    under : (b : Bool) → (b ≡ true → s.cur.ep.sent ≤ count) → (b ≡ false) ⊎ (s.cur.ep.sent ≤ count)
    under true f = inr (f refl)
    under false f = inl refl

module _ (s : State) (count : ℕ) where
  abbrev eleven : List Test
  eleven = by refused_sent (below_held s.cur.some s.cur.ep.sent count) ∷ []

  told_turn : Standing (told_number s count) (first eleven).number s
  unfolding told_number told_tests state_tests rising
  told_turn = standing s eleven refl

  pub told_exact : ToldExact s count (told_of s count)
  unfolding told_of
  told_exact =
      let r = numbered (told_number s count) in
      let o = done (told_state s count) [] in
      let l = by_tests r s o (λ x. Standing x.number (first eleven).number s × (x.place ≡ 0)) refl refl (λ z. refl) (told_turn, refl) in
      record {
        accepted =
            Iff.trans (and_then (l.0.later 0 (inl refl)) (alone-fails (reads_held s count) 11 (omega arith)))
            (λ x. record { state = x.0; held = x.1 }, λ o. (o.state, o.held));
        state = l.0.state;
        below = and_then (l.0.later 11 (inr (omega arith))) (alone-holds (reads_held s count) 11 (omega arith));
        place = l.1;
        silent = by-either r s o (λ x. x.out ≡ []) refl refl;
        back = λ h. ap (λ (x : Outcome). x.state) (by_nonzero r s o refl h);
      }
