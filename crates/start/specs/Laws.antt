-- Where a start is called for, the instant that the wake counts for it is not after now; and the silence interval's cap.
use Prim.Native.Nat.{ℕ, ◌≤◌}
use Rattle.std.specs.Prelude.{◌≡◌}
use Rattle.std.proofs.Math.Bool.{true}
use Rattle.state.specs.declared.State.{State}

-- the link, the last cutover and the current epoch began, none of them after now
pub record Begun (s : State) (now : ℕ) : Type 0 where
  pub link : s.mem.link_since ≤ now
  pub cutover : s.mem.last_cutover.some ≡ true → s.mem.last_cutover.at ≤ now
  pub started : s.cur.some ≡ true → s.cur.ep.started ≤ now
