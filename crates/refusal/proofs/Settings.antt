-- The settings' check as a result.
use Rattle.std.specs.Prelude.{not, eqb, is_err, Result, Ok, Err, ◌≡◌, refl}
use Rattle.settings.specs.declared.Check.{Check}
use Rattle.settings.specs.declared.Check.TheVariants.{NoMessages, MessagesPastSoft, AfterWithinJitter, AfterBelowFloor, AfterTooLong, NoCheck, NoHold, NoRevert, NoTtl, NoSilence, HandshakeTooShort, DrainTooShort, RetentionBelowDrain, HoldTooShort, SoftPastHard}
use Rattle.settings.specs.Checks.{told_place}

-- the settings fail a check exactly where its place is not 0
pub fails : (r : Result (Unit {0}) Check) → not (eqb (told_place r) 0) ≡ is_err r
fails (Ok u) = refl
fails (Err NoMessages) = refl
fails (Err MessagesPastSoft) = refl
fails (Err AfterWithinJitter) = refl
fails (Err AfterBelowFloor) = refl
fails (Err AfterTooLong) = refl
fails (Err NoCheck) = refl
fails (Err NoHold) = refl
fails (Err NoRevert) = refl
fails (Err NoTtl) = refl
fails (Err NoSilence) = refl
fails (Err HandshakeTooShort) = refl
fails (Err DrainTooShort) = refl
fails (Err RetentionBelowDrain) = refl
fails (Err HoldTooShort) = refl
fails (Err SoftPastHard) = refl

pub ruleset place_words = (fails)
