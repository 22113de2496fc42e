-- The quiet time in request 4's words, fact by fact: they leave no other number.
use Rattle.std.specs.Prelude.{ℕ, ◌≤◌, ◌<◌, ◌-◌, Bool, ◌⊎◌, ◌≡◌}
use Rattle.std.proofs.Math.Bool.{true, false}
use Rattle.std.proofs.lemmas.Bool.{false≢true}
use Rattle.std.proofs.Common.{inl, inr, arith}
use Rattle.std.proofs.Math.Path.{refl}
use Rattle.time.specs.Laws.{decide}
use Rattle.time.specs.Time.{whenever}
use Rattle.state.specs.declared.State.{State}
use Rattle.start.specs.Start.{latest_of}
use Rattle.start.proofs.Laws.{most-max}
use Rattle.call_read.specs.Read.{quiet_time}
use Rattle.call_read.specs.QuietTime.{QuietExact}

there : (held : Bool) (n : ℕ) → (whenever held n).some ≡ held
there true n = refl
there false n = refl

gone : (held : Bool) (n : ℕ) → held ≡ false → (whenever held n).at ≡ 0
gone held n e = rw e refl

-- ---- the facts that read the definition

module _ (s : State) (time : ℕ) where
  quiet-absent : (quiet_time s time).some ≡ s.cur.some
  unfolding quiet_time
  quiet-absent = there s.cur.some _

  -- an absent number is 0
  quiet-gone : s.cur.some ≡ false → (quiet_time s time).at ≡ 0
  unfolding quiet_time
  quiet-gone e = gone s.cur.some _ e

  quiet-heard :
      s.cur.some ≡ true → s.mem.rx_cur.some ≡ true → s.cur.ep.started ≤ s.mem.rx_cur.at
      → (quiet_time s time).at ≡ time - s.mem.rx_cur.at
  unfolding quiet_time latest_of
  quiet-heard h k l = simp (h, k, most-max s.mem.rx_cur.at s.cur.ep.started) (omega arith)

  quiet-started :
      s.cur.some ≡ true → (s.mem.rx_cur.some ≡ true → s.mem.rx_cur.at ≤ s.cur.ep.started)
      → (quiet_time s time).at ≡ time - s.cur.ep.started
  unfolding quiet_time latest_of
  quiet-started h l = under s.mem.rx_cur.some refl
    where
      under : (b : Bool) → s.mem.rx_cur.some ≡ b → (quiet_time s time).at ≡ time - s.cur.ep.started
      under true k = let m = l k in simp (h, k, most-max s.mem.rx_cur.at s.cur.ep.started) (omega arith)
      under false k = simp (h, k)

-- ---- what follows from them

-- a number q that is n less the later of r and t, or less t alone, is at most n less either
abbrev Within : ℕ → ℕ → ℕ → ℕ → Bool → Type 0
Within q n r t b = (q ≤ n - t) × (b ≡ true → q ≤ n - r)

within : (q n r t : ℕ) (b : Bool) → (b ≡ true → t ≤ r → q ≡ n - r) → ((b ≡ true → r ≤ t) → q ≡ n - t) → Within q n r t b
within q n r t false f g =
    let e = g (λ k. absurd (false≢true k)) in
    (omega (arith, e), λ k. absurd (false≢true k))
within q n r t true f g = under (decide r t)
  where
    under : (r ≤ t) ⊎ (t < r) → Within q n r t true
    under (inl l) = let e = g (λ k. l) in (omega (arith, e), λ k. omega (arith, e))
    under (inr l) = let e = f refl (omega arith) in (omega (arith, e), λ k. omega (arith, e))

module _ (s : State) (time : ℕ) where
  quiet-within : Within (quiet_time s time).at time s.mem.rx_cur.at s.cur.ep.started s.mem.rx_cur.some
  quiet-within = under s.cur.some refl
    where
      under : (b : Bool) → s.cur.some ≡ b → Within (quiet_time s time).at time s.mem.rx_cur.at s.cur.ep.started s.mem.rx_cur.some
      under true h = within _ time s.mem.rx_cur.at s.cur.ep.started s.mem.rx_cur.some (quiet-heard s time h) (quiet-started s time h)
      under false h = let e = quiet-gone s time h in (omega (arith, e), λ k. omega (arith, e))

  pub quiet_exact : QuietExact s time (quiet_time s time)
  quiet_exact =
      record {
        absent = quiet-absent s time;
        heard = quiet-heard s time;
        started = quiet-started s time;
        behind-start = λ l. omega (arith, quiet-within.0);
        behind-heard = λ k l. omega (arith, quiet-within.1 k);
        since_start = quiet-within.0;
        since_heard = quiet-within.1;
      }
