use Rattle.time.proofs.Std.{max_most}
use Rattle.start.proofs.Waits.{gate_three, gate_two}
use Rattle.start.proofs.Rekey.gate.Goals as goal

pub returns-then-self : goal.returns-then-self
returns-then-self c = simp (c.max.ensures, c.later-cutover.ensures, c.max-both.ensures, c.later-session.ensures, c.later-link.ensures, max_most) (gate_three _ _ _ c.if-self.true)

pub returns : goal.returns
returns c = simp (c.max-both.ensures, c.later-session.ensures, c.later-link.ensures, max_most) (gate_two _ _ _ c.if-self.false)
