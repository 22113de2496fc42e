-- What holds of the derived values, some of it only where the settings are accepted.
use Rattle.std.specs.Prelude.{ℕ, ◌≤◌, ◌<◌, ◌+◌, ◌≡◌}
use Rattle.std.proofs.Common.{arith}
use borrow.Author.Tests.{le-leb, lt-leb}
use Rattle.time.specs.Time.{end, none, at, sat_add, sum_of, later_of, later_by_of, most}
use Rattle.time.specs.Laws.{later_by_sum, least-le, most_ge}
use Rattle.settings.specs.declared.Config.{Config}
use Rattle.settings.specs.Settings.{place_of}
use Rattle.settings.proofs.Accepted.{accepted, confirm-fits}
use Rattle.params.specs.Params.{confirm_of, span_of, rung_of, gap_of, budget_of, grace_of, retry_of, with_hold_of}

module _ (cfg : Config) (ok : place_of cfg ≡ 0) (fits : cfg.hold ≤ end) where
  -- the confirmation window is the exact sum
  pub confirm_exact : confirm_of cfg ≡ cfg.handshake + cfg.check
  unfolding confirm_of sat_add
  confirm_exact = rw (le-leb (cfg.handshake + cfg.check) end (confirm-fits cfg ok fits))

  -- the span is the exact sum where that fits, and else absent
  pub span-there : cfg.handshake + cfg.check + cfg.drain ≤ end → span_of cfg ≡ at (cfg.handshake + cfg.check + cfg.drain)
  unfolding span_of sum_of
  span-there h = rw (confirm_exact, le-leb (cfg.handshake + cfg.check + cfg.drain) end h)

  pub span-absent : end < cfg.handshake + cfg.check + cfg.drain → span_of cfg ≡ none
  unfolding span_of sum_of
  span-absent h = rw (confirm_exact, lt-leb (cfg.handshake + cfg.check + cfg.drain) end h)

  -- either way it moves an instant as the exact sum does: not at all where that does not fit
  pub span-later : (t : ℕ) → later_by_of t (span_of cfg) ≡ later_of t (cfg.handshake + cfg.check + cfg.drain)
  unfolding span_of
  span-later t = rw confirm_exact (later_by_sum t (cfg.handshake + cfg.check) cfg.drain)

-- the first rung's cap is at least one second
pub rung-some : (cfg : Config) → place_of cfg ≡ 0 → 1000 ≤ rung_of cfg
unfolding rung_of
rung-some cfg ok = omega (arith, (accepted cfg ok).handshake-room)

-- two gaps and 2 seconds fit into the drain window
pub gap-room : (cfg : Config) → place_of cfg ≡ 0 → gap_of cfg + gap_of cfg + 2000 ≤ cfg.drain
unfolding gap_of
gap-room cfg ok = omega (arith, (accepted cfg ok).drain-room)

-- the budget is within the handshake
pub budget-within : (cfg : Config) → budget_of cfg ≤ cfg.handshake
unfolding budget_of
budget-within cfg = (least-le _ _).1

-- two graces fit into the confirmation window
pub grace-room : (cfg : Config) → grace_of cfg + grace_of cfg ≤ confirm_of cfg
unfolding grace_of
grace-room cfg = omega arith

-- a hold so made is at least each of the three
pub hold-from : (cfg : Config) (silence : ℕ) → (cfg.retention ≤ (with_hold_of cfg silence).hold) × (retry_of cfg ≤ (with_hold_of cfg silence).hold) × (silence ≤ (with_hold_of cfg silence).hold)
unfolding with_hold_of
hold-from cfg silence =
    let inner = most_ge cfg.retention (retry_of cfg) in
    let outer = most_ge (most cfg.retention (retry_of cfg)) silence in
    (omega arith, omega arith, outer.1)
