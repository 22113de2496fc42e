use Rattle.candidates.proofs.Laws.{expired-here, expired-none}
use Rattle.candidates.proofs.Candidates.is_expired.Goals as goal

pub returns-in-Some : goal.returns-in-Some
returns-in-Some c = expired-here c.args.self.now c.args.seq c.in-Some.i c.in-Some.ensures.place c.args.now c.in-Some.ensures.within.0

pub returns-in-None : goal.returns-in-None
returns-in-None c = expired-none c.args.self.now c.args.seq c.in-None.ensures.place c.args.now
