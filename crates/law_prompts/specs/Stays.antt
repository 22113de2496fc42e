-- Events that stay when the prompts that can be sealed no more are withdrawn: every event but a
-- prompt, and a prompt that names the current epoch or the pending one.
use Rattle.std.specs.Prelude.{ℕ, Bool, ◌≡◌, eqb, get_or}
use Rattle.std.proofs.Math.Bool.{true, false}
use Rattle.std.proofs.Common.{true≢false}
use Rattle.std.proofs.Math.Path.{refl}
use borrow.Author.Tests.{eq-eqb}
use Rattle.time.specs.declared.When.{When}
use Rattle.time.specs.Pick.{pick}
use Rattle.time.specs.Time.{at}
use Rattle.numbers.specs.Numbers.{event_send, event_prompt}
use Rattle.events.specs.Events.{Prompt, words_of}
use Rattle.events.specs.Withdraw.{sealable, words_stay, stays}
use Rattle.law_prompts.specs.Every.{Others}

-- what is withdrawn is decided by the tags of the current and the pending epoch
module _ (cur pend : When) where
  pub others-stay : Others (stays cur pend)
  unfolding words_stay
  others-stay e = under (eqb (get_or (words_of e) 0 0) event_send) (eqb (get_or (words_of e) 0 0) event_prompt) (sealable cur pend (get_or (words_of e) 1 0))
    where
      under : (a b c : Bool) → pick a true b ≡ false → pick b c true ≡ true
      under true b c n = absurd (true≢false n)
      under false true c n = absurd (true≢false n)
      under false false c n = refl

  -- a prompt that names the current epoch
  pub current-stays : (tag rungs : ℕ) → cur ≡ at tag → stays cur pend (Prompt tag rungs) ≡ true
  unfolding words_stay sealable
  current-stays tag rungs p = rw (p, eq-eqb tag tag refl)

  -- or the pending one
  pub pending-stays : (tag rungs : ℕ) → pend ≡ at tag → stays cur pend (Prompt tag rungs) ≡ true
  unfolding words_stay sealable
  pending-stays tag rungs p = rw (p, eq-eqb tag tag refl) (either (eqb tag cur.at) cur.some)
    where
      either : (a b : Bool) → pick (pick b a false) true true ≡ true
      either true true = refl
      either false true = refl
      either a false = refl
