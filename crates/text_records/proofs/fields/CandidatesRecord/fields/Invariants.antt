use Rattle.std.proofs.Common.{◌≡◌}
use Rattle.text_records.proofs.fields.CandidatesRecord.fields.Given as goal

abbrev pub invariant-loop-i : goal.invariant-loop-i
invariant-loop-i g l = g.F.Fields.line l.f ≡ g.F.Fields.line l.initial.f
