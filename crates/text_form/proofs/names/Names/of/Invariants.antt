use Rattle.std.proofs.Common.{◌≡◌, [], drop}
use Rattle.text_form.specs.Lists.{told}
use Rattle.text_form.proofs.names.Names.of.Given as goal

abbrev pub invariant-loop-a : goal.invariant-loop-a
invariant-loop-a l = told l.names (drop l.a-index l.fn.arguments) ≡ told [] l.fn.arguments
