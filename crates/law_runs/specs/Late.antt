-- The wake clause for an accepted state: with workers off and something held, a wake that is absent
-- or later than now means that a poll has nothing to do.
use Rattle.std.specs.Prelude.{ℕ, true, false, ◌≡◌}
use Rattle.time.specs.Time.{reached_of}
use Rattle.settings.specs.declared.Config.{Config}
use Rattle.state.specs.declared.State.{State}
use Rattle.state.specs.declared.Profile.{Profile}
use Rattle.wake.specs.Wake.{wake_of}
use Rattle.wake.specs.Quiet.{quiet_of, held_something, Led}
use Rattle.wake.proofs.Laws.{late-quiet}
use Rattle.law_refusal.specs.Sound.{Sound}
use Rattle.law_early.specs.Early.{Early, early-begun}

pub sound-led : (s : State) → Sound s → Led s
sound-led s o = record { pendi = o.pendi-led; pendr = o.pendr-led; drain = o.drain-led }

pub poll-late : (s : State) (cfg : Config) (p : Profile) (now : ℕ) → Sound s → Early s now → held_something s ≡ true → reached_of (wake_of s cfg p) now ≡ false → quiet_of s cfg p now false ≡ true
poll-late s cfg p now o e h w = late-quiet s cfg p now (early-begun s now e) h (sound-led s o) w
