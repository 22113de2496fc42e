-- Who can cause a reason, by whom it is attributed to.
use Rattle.std.specs.Prelude.{ℕ, true, ◌≡◌, eqb}
use Rattle.numbers.specs.declared.attribution.Attribution.{Attribution}
use Rattle.numbers.specs.declared.attribution.Attribution.TheVariants.{Peer, Network, Local}
use Rattle.numbers.specs.declared.reason.Reason.{Reason}
use Rattle.numbers.specs.Numbers.{reason_tie_break_kept}
use Rattle.numbers.specs.Reason.{reason_no, attribution_of, reachable_of}

module _ (r : Reason) (a : Attribution) (n : ℕ) (e : a ≡ attribution_of r) (f : n ≡ reason_no r) where
  pub network_reached : a ≡ Network → true ≡ reachable_of r
  network_reached g = rw (← e, g)

  pub peer_reached : a ≡ Peer → eqb n reason_tie_break_kept ≡ reachable_of r
  peer_reached g = rw (← e, ← f, g)

  pub local_reached : a ≡ Local → eqb n reason_tie_break_kept ≡ reachable_of r
  local_reached g = rw (← e, ← f, g)
