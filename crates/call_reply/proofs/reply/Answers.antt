use Rattle.std.proofs.Common.{sym, ap, []}
use Rattle.answer.specs.Outcome.{done}
use Rattle.answer.proofs.Answers.{answers_refused, answers_silent}
use Rattle.call_reply.specs.Reply.{reply_of}
use Rattle.call_reply.proofs.Exact.{reply_exact}
use Rattle.call_reply.proofs.reply.Goals as goal

pub returns-in-Err : goal.returns-in-Err
unfolding reply_of
returns-in-Err c = record { reply = answers_refused _ _ _ _ _ c.in-Err.ensures c.sent_back.ensures []; exact = reply_exact _ _ _ _ _ }

pub returns : goal.returns
unfolding reply_of
returns c =
    record { reply = answers_silent _ _ _ _ c.in_default.ensures _ c.finish.ensures (ap (λ s. done s []) (sym c.taken.ensures)); exact = reply_exact _ _ _ _ _ }
