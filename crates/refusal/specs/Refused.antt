-- What a call answers where it is sent back: the number of the refusal, and in 1 the place of the check.
use Rattle.std.specs.Prelude.{ℕ, Result, Ok, Err}
use Rattle.numbers.specs.Numbers.{refused_settings, refused_profile, refused_candidates, refused_no_current, refused_shared, refused_ladder, refused_draw, refused_slot, refused_tag, refused_no_start, refused_sent}
use Rattle.settings.specs.Checks.{check_place}
use Rattle.refusal.specs.declared.Refusal.{Refusal}
use Rattle.refusal.specs.declared.Refusal.TheVariants as back

-- the number of the first refusal, 0 where the call is accepted; and in 1 the place of the check
pub record Refused : Type 0 where
  pub number : ℕ
  pub place : ℕ

abbrev pub number_of : Refusal → ℕ
number_of (back.Settings check) = refused_settings
number_of back.Profile = refused_profile
number_of back.Candidates = refused_candidates
number_of back.NoCurrent = refused_no_current
number_of back.Shared = refused_shared
number_of back.Ladder = refused_ladder
number_of back.Draw = refused_draw
number_of back.Slot = refused_slot
number_of back.Tag = refused_tag
number_of back.NoStart = refused_no_start
number_of back.Sent = refused_sent

abbrev pub place_of : Refusal → ℕ
place_of (back.Settings check) = check_place check
place_of back.Profile = 0
place_of back.Candidates = 0
place_of back.NoCurrent = 0
place_of back.Shared = 0
place_of back.Ladder = 0
place_of back.Draw = 0
place_of back.Slot = 0
place_of back.Tag = 0
place_of back.NoStart = 0
place_of back.Sent = 0

-- what a result of the tests says
abbrev pub refused_of : Result (Unit {0}) Refusal → Refused
refused_of (Ok u) = record { number = 0; place = 0 }
refused_of (Err r) = record { number = number_of r; place = place_of r }
