-- What the buffer holds once it was written out.
use Rattle.std.proofs.Common.{sym, ◌∙◌}
use Rattle.text_lines.proofs.Laws.{held-front, held-apart}
use Rattle.text_lines.proofs.output.Output.bytes.Goals as goal

pub returns-then-s-self-clause-buffer : goal.returns-then-s-self-clause-buffer
returns-then-s-self-clause-buffer g c =
    let e = c.flush.ensures.buffer in
    let h = held-front c.args.self.now.buffer.now c.args.self.now.at c.args.s.now (sym c.fits.ensures ∙ c.if-fits.false) (rw e at c.if-s-self.true) in
    rw (c.put-self-then-s-self.ensures.1, e) h.1

pub returns-then-not-self-clause-buffer : goal.returns-then-not-self-clause-buffer
returns-then-not-self-clause-buffer g c =
    let e = c.flush.ensures.buffer in
    e ∙ (held-apart c.args.self.now.buffer.now c.args.self.now.at c.args.s.now (sym c.fits.ensures ∙ c.if-fits.false) (rw e at c.if-s-self.false)).1

pub returns-else-not-self-clause-buffer : goal.returns-else-not-self-clause-buffer
returns-else-not-self-clause-buffer g c =
    let e = c.flush.ensures.buffer in
    e ∙ (held-apart c.args.self.now.buffer.now c.args.self.now.at c.args.s.now (sym c.fits.ensures ∙ c.if-fits.false) (rw e at c.if-s-self.false)).1
