use Rattle.leaves_requests.proofs.Laws.{words, named_at}
use Rattle.leaves_requests.proofs.requests.Word.read.Goals as goal

pub returns-clause-named : goal.returns-clause-named
returns-clause-named c = rw c.entry.ensures.value (named_at words c.args.scan.now.line.now c.args.scan.now.at)
