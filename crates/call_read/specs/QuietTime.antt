-- The quiet time in request 4's words, fact by fact: they leave no other number.
use Rattle.std.specs.Prelude.{ℕ, ◌≤◌, ◌-◌, ◌≡◌}
use Rattle.std.proofs.Math.Bool.{true}
use Rattle.time.specs.declared.When.{When}
use Rattle.state.specs.declared.State.{State}

pub record QuietExact (s : State) (time : ℕ) (q : When) : Type 0 where
  -- "It is absent only without a current epoch."
  pub absent : q.some ≡ s.cur.some
  -- "time since the current epoch was heard, or since it started, whichever is later": heard, where that is the later
  pub heard :
      s.cur.some ≡ true → s.mem.rx_cur.some ≡ true → s.cur.ep.started ≤ s.mem.rx_cur.at
      → q.at ≡ time - s.mem.rx_cur.at
  -- started, where no current epoch was heard, or only one before it
  pub started :
      s.cur.some ≡ true → (s.mem.rx_cur.some ≡ true → s.mem.rx_cur.at ≤ s.cur.ep.started)
      → q.at ≡ time - s.cur.ep.started
  -- "0 if the clock is behind": behind the start, or behind the last frame heard
  pub behind-start : time ≤ s.cur.ep.started → q.at ≡ 0
  pub behind-heard : s.mem.rx_cur.some ≡ true → time ≤ s.mem.rx_cur.at → q.at ≡ 0
  -- it is never more than the time since the current start, ..
  pub since_start : q.at ≤ time - s.cur.ep.started
  -- .. nor than the time since a current epoch was heard
  pub since_heard : s.mem.rx_cur.some ≡ true → q.at ≤ time - s.mem.rx_cur.at
