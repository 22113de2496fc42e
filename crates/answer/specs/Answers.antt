-- What the code of every call promises: the answer, field by field, and the words of the log.
use Rattle.std.specs.Prelude.{ℕ, ◌≡◌, List}
use Rattle.state.specs.declared.State.{State}
use Rattle.refusal.specs.Refused.{Refused}
use Rattle.answer.specs.declared.Answer.{Answer}
use Rattle.answer.specs.Outcome.{Outcome}
use Rattle.answer.specs.Written.{Written}

-- ws are the lent words before the call and ws' those after it; a call that is lent none has []
pub record Answers (o : Outcome) (r : Answer) (ws ws' : List ℕ) : Type 0 where
  pub number : r.number ≡ o.number
  pub place : r.place ≡ o.place
  pub state : r.state ≡ o.state
  pub count : r.count ≡ o.count
  pub log : Written o.number o.written o.out r.len ws ws'

-- the record of the two ways out
abbrev pub back_with : Refused → State → Answer
back_with r s = record { number = r.number; place = r.place; state = s; len = 0; count = 0 }

abbrev pub taken_with : State → ℕ → ℕ → Answer
taken_with s len count = record { number = 0; place = 0; state = s; len = len; count = count }
