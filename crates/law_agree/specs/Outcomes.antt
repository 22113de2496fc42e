-- Two outcomes of one call, of states that stand alike: number, place, events, count and what was written
-- are the same, and so the lent words; what is left stands alike.
use Rattle.std.specs.Prelude.{ℕ, true, ◌≡◌, refl, List, eqb, length}
use Rattle.std.proofs.Common.{sym, ◌∙◌, ap, ap₂}
use Rattle.state.specs.declared.State.{State}
use Rattle.refusal.specs.Refused.{Refused}
use Rattle.answer.specs.declared.Answer.{Answer}
use Rattle.answer.specs.Outcome.{Outcome, outcome_by}
use Rattle.answer.specs.Written.{over}
use Rattle.answer.specs.Answers.{Answers}
use Rattle.law_alike.specs.Optional.{related}
use Rattle.law_alike.specs.Whole.{Alike}

pub record Outcomes (a b : Outcome) : Type 0 where
  pub number : a.number ≡ b.number
  pub place : a.place ≡ b.place
  pub state : Alike a.state b.state
  pub written : a.written ≡ b.written
  pub out : a.out ≡ b.out
  pub count : a.count ≡ b.count

-- sent back alike, or accepted alike
pub outcome-alike :
    {s t : State} → Alike s t → {r q : Refused} → r ≡ q → {o u : Outcome} → (eqb r.number 0 ≡ true → Outcomes o u)
    → Outcomes (outcome_by r s o) (outcome_by q t u)
unfolding outcome_by
outcome-alike a e f =
    related Outcomes (ap (λ (x : Refused). eqb x.number 0) e) f
    (λ _. record { number = ap (λ (x : Refused). x.number) e; place = ap (λ (x : Refused). x.place) e; state = a; written = refl; out = refl; count = refl })

-- the same answer, and the same words in the log that was lent
pub answers-alike :
    {a b : Outcome} → Outcomes a b → (r q : Answer) (ws u v : List ℕ) → Answers a r ws u → Answers b q ws v
    → (r.number ≡ q.number) × (r.place ≡ q.place) × (r.len ≡ q.len) × (r.count ≡ q.count) × (u ≡ v)
answers-alike h r q ws u v x y = (
  x.number ∙ (h.number ∙ sym y.number),
  x.place ∙ (h.place ∙ sym y.place),
  x.log.many ∙ (ap length h.out ∙ sym y.log.many),
  x.count ∙ (h.count ∙ sym y.count),
  x.log.words ∙ (ap₂ (λ w o. over o (over w ws)) h.written h.out ∙ sym y.log.words),
)
