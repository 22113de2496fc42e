use Rattle.std.proofs.Common.{refl, ◌∙◌, ap, le-leb}
use Rattle.std.proofs.lemmas.Bool.{lt-leb}
use Rattle.time.specs.Time.{least}
use Rattle.time.proofs.Std.{min_least, max_most}
use Rattle.start.proofs.Waits.{soft-last, silent-last, scheduled-alone, told-none}
use Rattle.start.proofs.Rekey.at.Goals.{else-silence-via-then-silence+else-self-2, else-silence-via-else-silence}
use Rattle.start.proofs.Rekey.at.Goals as goal

pub returns-then-self : goal.returns-then-self
returns-then-self c = c.gate-gate.ensures ∙ soft-last _ _ _ _ _ (le-leb _ _ c.if-self.true)

pub returns-then-self-2 : goal.returns-then-self-2
returns-then-self-2 c =
    c.min.ensures
    ∙ (min_least c.scheduled_at-scheduled.result c.max-quiet.result
    ∙ (ap (least c.scheduled_at-scheduled.result) (c.max-quiet.ensures ∙ max_most c.silence_at.result c.latest-backed.result)
    ∙ silent-last _ _ _ _ c.args.silence c.gate-gate.result c.latest-damped.result
    c.latest-backed.result c.scheduled_at-scheduled.result c.silence_at.result (lt-leb _ _ c.if-self.false)
    c.if-silence.true c.if-self-2.true c.gate-gate.ensures c.latest-damped.ensures c.latest-backed.ensures
    c.scheduled_at-scheduled.ensures c.silence_at.ensures))

pub returns : goal.returns
returns c =
    elim c.else-silence.branch [
      | else-silence-via-then-silence+else-self-2 w ↦ scheduled-alone _ _ _ _ c.args.silence c.gate-gate.result c.latest-damped.result
          c.latest-backed.result c.scheduled_at-scheduled.result (lt-leb _ _ c.if-self.false) (told-none c.args.silence _ w.if-self-2.false) c.gate-gate.ensures c.latest-damped.ensures c.latest-backed.ensures
          c.scheduled_at-scheduled.ensures
      | else-silence-via-else-silence w ↦ scheduled-alone _ _ _ _ c.args.silence c.gate-gate.result c.latest-damped.result
          c.latest-backed.result c.scheduled_at-scheduled.result (lt-leb _ _ c.if-self.false) (rw w.if-silence.false refl) c.gate-gate.ensures c.latest-damped.ensures c.latest-backed.ensures
          c.scheduled_at-scheduled.ensures
    ]
