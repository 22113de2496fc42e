-- A number that may be absent, as an option: the view by which clauses speak of options in the words of the
-- definitions.
use Rattle.std.specs.Prelude.{ℕ, Option, Some, None}
use Rattle.time.specs.declared.When.{When}
use Rattle.time.specs.Pick.{pick}
use Rattle.time.specs.Time.{none, at}

abbrev pub when_of : Option ℕ → When
when_of None = none
when_of (Some t) = at t

abbrev pub option_of : When → Option ℕ
option_of w = pick w.some (Some w.at) None
