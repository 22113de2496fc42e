use Rattle.leaves_requests.proofs.Laws.{said_new}
use Rattle.leaves_requests.specs.Answers.{answer_of}
use Rattle.leaves_requests.proofs.requests.Request.answer.Goals as goal

pub returns-in_ok-accepted-in-Params : goal.returns-in_ok-accepted-in-Params
unfolding answer_of
returns-in_ok-accepted-in-Params c = rw c.in-Params.is (said_new c.in-Params.cfg c.in_ok-accepted-in-Params.field-0 c.in_ok-accepted-in-Params.ensures)
