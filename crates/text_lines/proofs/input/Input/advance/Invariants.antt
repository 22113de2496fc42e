-- Each fill makes what is held longer or ends the input, which the measure counts.
use Rattle.std.proofs.Common.{length, ◌≡◌, ◌≤◌}
use Rattle.text_lines.proofs.Lines.{left}
use Rattle.text_lines.proofs.input.Input.advance.Given as goal

abbrev pub invariant-loop-self : goal.invariant-loop-self
invariant-loop-self g l =
    (l.self.from.ghost_name ≡ l.fn.self.from.ghost_name)
    × (l.self.buffer.ghost_name ≡ l.fn.self.buffer.ghost_name)
    × (l.self.start ≡ 0)
    × (l.self.end ≡ 0)
    × (l.self.next ≤ l.self.filled)
    × (l.self.filled ≤ length l.self.buffer.now)

abbrev pub decreases-loop-self : goal.decreases-loop-self
decreases-loop-self g l = left l.self.buffer.now l.self.next l.self.filled l.self.rest
