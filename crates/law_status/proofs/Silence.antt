-- The quiet time and the silence trigger count from the same instant: the interval has passed exactly where the quiet
-- time has reached it.
use Rattle.std.specs.Prelude.{ℕ, ◌≤◌, ◌<◌, ◌+◌, ◌-◌, true, ◌↔◌, ◌≡◌, refl}
use Rattle.std.proofs.Common.{ap, arith, le-leb}
use Rattle.time.specs.declared.When.{When}
use Rattle.time.specs.Pick.{pick}
use Rattle.time.specs.Time.{end, later_of}
use Rattle.settings.specs.declared.Config.{Config}
use Rattle.state.specs.declared.State.{State}
use Rattle.start.specs.Start.{silence_interval, latest_of, silence_at}
use Rattle.call_read.specs.Read.{quiet_time}
use Rattle.law_status.specs.Counts.{Began}
use Rattle.law_status.proofs.Counts.{quiet_began}

-- where the sum passes 2^64 − 1, `later` leaves the instant itself, and the trigger stands from there on. An interval of
-- accepted settings is above 0
pub silent-quiet :
    (s : State) (cfg : Config) (now : ℕ) → s.cur.some ≡ true → 0 < silence_interval s.mem cfg
    → latest_of s.mem.rx_cur s.cur.ep.started + silence_interval s.mem cfg ≤ end
    → (silence_at s.mem cfg s.cur.ep.started ≤ now) ↔ (silence_interval s.mem cfg ≤ (quiet_time s now).at)
unfolding silence_at later_of
silent-quiet s cfg now h p fits =
    let t = latest_of s.mem.rx_cur s.cur.ep.started in
    let d = silence_interval s.mem cfg in
    let e = ap (λ b. pick b (t + d) t) (le-leb (t + d) end fits) in
    let b : Began s s s.cur.ep.started = record { held = h; heard = refl; started = refl } in
    let q : (quiet_time s now).at ≡ now - t = ap (λ (w : When). w.at) (quiet_began b now) in
    (λ l. omega (arith, e, q), λ l. omega (arith, e, q))
