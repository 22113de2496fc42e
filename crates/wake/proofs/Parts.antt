-- The least of a list from the least of its parts, as the code finds it. Assumes nothing.
use Prim.Native.Nat.{ℕ}
use Rattle.std.specs.Prelude.{Option, Some, None}
use Rattle.std.specs.Bool.{then_some}
use Rattle.std.proofs.Common.{ap₂}
use Rattle.time.specs.Options.{when_of}
use mathlib.Core.Bool.{Bool, true, false}
use mathlib.Core.Path.{◌≡◌, sym, ◌∙◌, ap}
use mathlib.Core.List.{List, ◌++◌}
use Rattle.time.specs.Time.{sooner_of}
use Rattle.ladder.specs.declared.Ladder.{Ladder}
use Rattle.ladder.specs.Ladder.{next_at_of}
use Rattle.candidates.specs.Held.{earliest_of}
use Rattle.state.specs.Parts.{listed}
use Rattle.start.specs.Start.{instants}
use Rattle.wake.specs.Due.{ladder_instants}
use Rattle.wake.proofs.Earliest.{earliest_nil, earliest_one, earliest_append}

-- the one instant of an option is its least
pub least_instants : (w : Option ℕ) → when_of w ≡ earliest_of (instants (when_of w))
least_instants None = sym earliest_nil
least_instants (Some t) = sym (earliest_one t)

-- and so of a list that has that instant alone
pub least_named : (w : Option ℕ) (l : List ℕ) → instants (when_of w) ≡ l → when_of w ≡ earliest_of l
least_named w l e = least_instants w ∙ ap earliest_of e

pub least_next : (w : Option ℕ) (l : Ladder) → when_of w ≡ next_at_of l → when_of w ≡ earliest_of (ladder_instants l)
unfolding ladder_instants
least_next w l e = least_named w (instants (next_at_of l)) (ap instants e)

pub some_listed : (b : Bool) (t : ℕ) → when_of (then_some b t) ≡ earliest_of (listed b t)
some_listed true t = sym (earliest_one t)
some_listed false t = sym earliest_nil

-- the earlier of the least of two lists
pub sooner_named : (a b r : Option ℕ) (k l : List ℕ) → when_of r ≡ sooner_of (when_of a) (when_of b) → when_of a ≡ earliest_of k → when_of b ≡ earliest_of l → when_of r ≡ earliest_of (k ++ l)
sooner_named a b r k l e p q = e ∙ (ap₂ sooner_of p q ∙ sym (earliest_append k l))
