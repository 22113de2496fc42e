-- The probe grace.
use Rattle.std.specs.Prelude.{ℕ}
use Rattle.time.specs.Time.{least, most, sat_mul}
use Rattle.settings.specs.declared.Config.{Config}
use Rattle.params.specs.Params.{value_or}
use Rattle.params.specs.Params.{grace_of as grace_cap}
use Rattle.state.specs.declared.Memory.{Memory}

-- `grace`: "twice the larger of the handshake and session round trips, at least one second, capped
-- so the last probe plus the grace fits inside the confirmation window"
unfoldable pub grace : Memory → Config → ℕ
grace m cfg = least (most (sat_mul (most (value_or 0 m.hs_rtt) (value_or 0 m.srtt)) 2) 1000) (grace_cap cfg)
