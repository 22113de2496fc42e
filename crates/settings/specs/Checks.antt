-- The checks that refuse settings, by their place in file order, from 1.
use Rattle.std.specs.Prelude.{ℕ, Result, Ok, Err}
use Rattle.settings.specs.declared.Check.{Check}
use Rattle.settings.specs.declared.Check.TheVariants.{NoMessages, MessagesPastSoft, AfterWithinJitter, AfterBelowFloor, AfterTooLong, NoCheck, NoHold, NoRevert, NoTtl, NoSilence, HandshakeTooShort, DrainTooShort, RetentionBelowDrain, HoldTooShort, SoftPastHard}

abbrev pub check_place : Check → ℕ
check_place NoMessages = 1
check_place MessagesPastSoft = 2
check_place AfterWithinJitter = 3
check_place AfterBelowFloor = 4
check_place AfterTooLong = 5
check_place NoCheck = 6
check_place NoHold = 7
check_place NoRevert = 8
check_place NoTtl = 9
check_place NoSilence = 10
check_place HandshakeTooShort = 11
check_place DrainTooShort = 12
check_place RetentionBelowDrain = 13
check_place HoldTooShort = 14
check_place SoftPastHard = 15

-- 0 where no check refuses
abbrev pub told_place : Result Unit Check → ℕ
told_place (Ok _) = 0
told_place (Err c) = check_place c
