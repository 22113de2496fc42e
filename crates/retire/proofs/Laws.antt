-- Laws of what a retired epoch tells.
use Rattle.std.specs.Prelude.{Bool, true, false, ◌≡◌, refl}
use Rattle.time.specs.Options.{when_of, option_of}
use Rattle.time.specs.declared.When.{When}
use Rattle.time.specs.Time.{none}
use Rattle.retire.specs.Retire.{floor_told}

-- ---- a law

-- nothing that stands behind an absent floor is told
pub floor-absent : (w : When) → w.some ≡ false → floor_told w ≡ none
floor-absent w e = rw e

-- the counter goes as an option
pub offered_floor : (w : When) → when_of (option_of w) ≡ floor_told w
offered_floor w = under w.some
  where
    under : (b : Bool) → when_of (option_of (record { some = b; at = w.at })) ≡ floor_told (record { some = b; at = w.at })
    under true = refl
    under false = refl
