-- Events told after others are told behind them.
use Rattle.std.specs.Prelude.{List, ◌++◌}
use Rattle.std.proofs.Common.{◌∙◌}
use Rattle.events.specs.Events.{Event}
use Rattle.events.specs.Log.{at}
use Rattle.events.specs.declared.Log.{Log}
use Rattle.events.specs.Told.{Tells}
use Rattle.events.proofs.Laws.{after-all}

pub tells_then : {a b : List Event} {l m n : Log} → Tells a l m → Tells b m n → Tells (a ++ b) l n
tells_then {a} {b} {l} p q = record { appends = after-all (at l.len l.words.now) a b p.appends q.appends; same_reference = q.same_reference ∙ p.same_reference }
