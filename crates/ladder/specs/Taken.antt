-- The number of rungs taken: how far the cursor moves, and which rungs these are.
use Rattle.std.specs.Prelude.{ℕ, ◌≤◌, ◌-◌, ◌≡◌, ltb}
use Rattle.std.proofs.Math.Bool.{false}
use Rattle.std.proofs.Math.ListN.{take, drop}
use Rattle.time.specs.Lists.{kept}
use Rattle.ladder.specs.declared.Ladder.{Ladder}
use Rattle.ladder.specs.Ladder.{remaining, due_of, is_due, due_rungs, take_of}

-- ---- the number

-- what the number of a take says of the ladder before and behind it
pub record Counted (l : Ladder) (now : ℕ) : Type 0 where
  -- it is the new cursor less the old one, and the cursor never falls
  pub moved : (take_of l now).taken ≡ (take_of l now).ladder.next - l.next
  pub onward : l.next ≤ (take_of l now).ladder.next
  -- so many rungs from the cursor on are those taken, and the others are left
  pub rungs : take (take_of l now).taken (remaining l) ≡ due_rungs l now
  pub left : remaining (take_of l now).ladder ≡ drop (take_of l now).taken (remaining l)
  -- each rung taken is due, and none is due behind them
  pub due : kept (is_due l.origin now) (due_rungs l now) ≡ due_rungs l now
  pub past : due_of (take_of l now).ladder now ≡ false
  -- it is 0 exactly where nothing is taken
  pub whether : (take_of l now).any ≡ ltb 0 (take_of l now).taken
