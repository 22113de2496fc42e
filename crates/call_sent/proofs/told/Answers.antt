use Rattle.std.proofs.Common.{sym, ap, []}
use Rattle.answer.specs.Outcome.{done}
use Rattle.answer.proofs.Answers.{answers_refused, answers_silent}
use Rattle.call_sent.specs.Told.{told_of}
use Rattle.call_sent.proofs.Exact.{told_exact}
use Rattle.call_sent.proofs.told.Goals as goal

pub returns-in-Err : goal.returns-in-Err
unfolding told_of
returns-in-Err c = record { told = answers_refused _ _ _ _ _ c.in-Err.ensures c.sent_back.ensures []; exact = told_exact _ _ }

pub returns-in-Ok : goal.returns-in-Ok
unfolding told_of
returns-in-Ok c =
    record { told = answers_silent _ _ _ _ c.in-Ok.ensures _ c.finish.ensures (ap (λ s. done s []) (sym c.put_sent.ensures)); exact = told_exact _ _ }
