use Rattle.std.proofs.Common.{drop}
use Rattle.text_words.specs.Places.{widths}
use Rattle.text_form.proofs.Rows.{Within}
use Rattle.text_form.proofs.arguments.prepare.Given as goal

-- The arguments so far moved the row on by their places.
abbrev pub invariant-loop-a : goal.invariant-loop-a
invariant-loop-a l = Within (widths l.a-items) l.initial.places l.places (drop l.a-index l.a-items)
