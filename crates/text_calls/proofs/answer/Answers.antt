-- A reply and a sent count are lent no log.
use Rattle.text_calls.specs.Calls.{answer_on, reply_on, sent_on}
use Rattle.text_calls.proofs.Laws.{unlent}
use Rattle.text_calls.proofs.answer.Goals as goal

pub returns-in-Reply-clause-answer : goal.returns-in-Reply-clause-answer
unfolding answer_on
returns-in-Reply-clause-answer c = rw c.in-Reply.is (unlent (reply_on c.args.link c.args.a.now) _ _ c.reply.ensures)

pub returns-in-Sent-clause-answer : goal.returns-in-Sent-clause-answer
unfolding answer_on
returns-in-Sent-clause-answer c = rw c.in-Sent.is (unlent (sent_on c.args.link c.args.a.now) _ _ c.sent.ensures)
