-- The number that a standing state is sent back with, test by test.
use Rattle.std.specs.Prelude.{ℕ, Bool, true, false, ◌≡◌, [], ◌∷◌}
use Rattle.std.proofs.Math.Path.{refl, ap}
use Rattle.std.proofs.Common.{◌∙◌}
use Rattle.time.specs.Pick.{pick}
use Rattle.state.specs.declared.State.{State}
use Rattle.refusal.specs.Refusal.{by, first, numbered, state_tests, state_back, cands_bad, epochs_bad, numbers_bad, ladders_bad}

pub state-number : (s : State) → state_back s ≡ pick (cands_bad s) 3 (pick (epochs_bad s) 4 (pick (numbers_bad s) 5 (pick (ladders_bad s) 6 0)))
unfolding state_back state_tests first
state-number s = under (cands_bad s) (epochs_bad s) (numbers_bad s) (ladders_bad s)
  where
    under : (a b c d : Bool) → (first (by 3 a ∷ by 4 b ∷ by 5 c ∷ by 6 d ∷ [])).number ≡ pick a 3 (pick b 4 (pick c 5 (pick d 6 0)))
    under true b c d = refl
    under false true c d = refl
    under false false true d = refl
    under false false false true = refl
    under false false false false = refl

pub state-numbered : (s : State) (n : ℕ) → n ≡ state_back s → numbered n ≡ first (state_tests s)
unfolding state_back state_tests first
state-numbered s n e = ap numbered e ∙ under (cands_bad s) (epochs_bad s) (numbers_bad s) (ladders_bad s)
  where
    under : (a b c d : Bool) → numbered (first (by 3 a ∷ by 4 b ∷ by 5 c ∷ by 6 d ∷ [])).number ≡ first (by 3 a ∷ by 4 b ∷ by 5 c ∷ by 6 d ∷ [])
    under true b c d = refl
    under false true c d = refl
    under false false true d = refl
    under false false false true = refl
    under false false false false = refl
