-- What the quiet time counts from, before a call and behind it: it stays, or the current epoch was heard, or
-- another epoch is current.
use Rattle.std.specs.Prelude.{ℕ, ◌≤◌, ◌-◌, true, ◌≡◌, refl}
use Rattle.std.proofs.Common.{sym, ◌∙◌, ap, ap₂, arith}
use Rattle.time.specs.declared.When.{When}
use Rattle.time.specs.Time.{at}
use Rattle.state.specs.declared.State.{State}
use Rattle.start.specs.Start.{latest_of}
use Rattle.call_read.specs.Read.{quiet_time}
use Rattle.call_read.proofs.QuietTime.{quiet_exact}
use Rattle.law_status.specs.Counts.{Began, HeardAt, Same}

pub same_self : (s : State) → Same s s
same_self s = record { held = refl; heard = refl; started = refl }

module _ {s x y : State} where
  pub same_then : Same s x → Same x y → Same s y
  same_then a b = record { held = b.held ∙ a.held; heard = b.heard ∙ a.heard; started = b.started ∙ a.started }

  pub began_then : {t : ℕ} → Began s x t → Same x y → Began s y t
  began_then a b = record { held = b.held ∙ a.held; heard = b.heard ∙ a.heard; started = b.started ∙ a.started }

  pub began_after : {t : ℕ} → s.mem.rx_cur ≡ x.mem.rx_cur → Began x y t → Began s y t
  began_after e b = record { held = b.held; heard = b.heard ∙ sym e; started = b.started }

-- ---- what the quiet time is then, at every instant

pub quiet_same : {s x : State} → Same s x → (u : ℕ) → quiet_time x u ≡ quiet_time s u
unfolding quiet_time
quiet_same h u = cc (h.held, h.heard, h.started)

pub quiet_began : {s x : State} {t : ℕ} → Began s x t → (u : ℕ) → quiet_time x u ≡ at (u - latest_of s.mem.rx_cur t)
unfolding quiet_time
quiet_began h u = cc (h.held, h.heard, h.started)

-- a number that is there is known by its two parts
whole : (q : When) (n : ℕ) → q.some ≡ true → q.at ≡ n → q ≡ at n
whole q n e f = ap₂ (λ b m. record { some = b; at = m }) e f

module _ {x : State} {t : ℕ} (h : HeardAt x t) where
  -- it is never more than the time since then, ..
  pub quiet-heard : (u : ℕ) → ((quiet_time x u).some ≡ true) × ((quiet_time x u).at ≤ u - t)
  quiet-heard u =
      let q = quiet_exact x u in
      (q.absent ∙ h.held, rw (← ap (λ (w : When). w.at) h.heard) (q.since_heard (ap (λ (w : When). w.some) h.heard)))

  -- .. and 0 at that instant
  pub quiet_now : quiet_time x t ≡ at 0
  quiet_now =
      let q = quiet-heard t in
      whole (quiet_time x t) 0 q.0 (omega (arith, q.1))
