-- Whether an item of a kind and a key is due, part by part of the state: the same as that `due` names one.
use Rattle.std.specs.Prelude.{ℕ, Bool, false, not, ◌&&◌, leb, ltb, eqb}
use Rattle.time.specs.Pick.{pick}
use Rattle.time.specs.Time.{reached_of}
use Rattle.ladder.specs.declared.Ladder.{Ladder}
use Rattle.ladder.specs.Ladder.{next_at_of}
use Rattle.numbers.specs.Numbers.{item_drain, item_candidate, item_unadopted, item_held, item_probe, item_delayed, item_fin, item_elicit, item_confirm, item_delay_end, item_resend, item_expire}
use Rattle.epoch.specs.declared.MayEpoch.{MayEpoch}
use Rattle.epoch.specs.declared.Drain.{Drain}
use Rattle.cycle.specs.declared.Cycle.{Cycle}
use Rattle.cycle.specs.Kind.{is_init, is_pend_i, is_pend_r, waits_held, waits_evidence, waits_delay}
use Rattle.candidates.specs.declared.Candidates.{Candidates}
use Rattle.candidates.specs.Held.{Candidate, held_by}
use Rattle.state.specs.declared.State.{State}
use Rattle.refusal.specs.Refusal.{any_of}

module _ (now : ℕ) where
  -- a rung of a ladder is due
  abbrev pub ready : Ladder → Bool
  ready l = reached_of (next_at_of l) now

  abbrev pub drain_at : Drain → ℕ → Bool
  drain_at d x = d.some && (leb d.deadline now && eqb d.ep.tag x)

  abbrev pub waiting : ℕ → Candidate → Bool
  waiting x c = eqb c.seq x && leb c.deadline now

  abbrev pub cands_at : Candidates → ℕ → Bool
  cands_at v x = any_of (waiting x) (held_by v)

  abbrev pub fin_at : MayEpoch → ℕ → Bool
  fin_at e x = e.some && (e.ep.fin.some && (ready e.ep.fin.ladder && eqb e.ep.tag x))

  abbrev pub elicit_at : MayEpoch → ℕ → Bool
  elicit_at e x = e.some && (not e.ep.moved.some && (e.ep.elicit.some && (ready e.ep.elicit.ladder && eqb e.ep.tag x)))

  abbrev pub unadopted_at : Cycle → ℕ → Bool
  unadopted_at c x = is_pend_r c.kind && (leb c.pendr.deadline now && eqb c.pendr.ep.tag x)

  abbrev pub held_at : Cycle → ℕ → Bool
  held_at c x = is_pend_i c.kind && (waits_held c.pendi.wait && (leb c.pendi.deadline now && eqb c.pendi.ep.tag x))

  abbrev pub probe_at : Cycle → ℕ → Bool
  probe_at c x = is_pend_i c.kind && (waits_evidence c.pendi.wait && (c.pendi.probes.some && (ready c.pendi.probes.ladder && eqb c.pendi.ep.tag x)))

  abbrev pub delayed_at : Cycle → ℕ → Bool
  delayed_at c x = is_pend_i c.kind && (waits_delay c.pendi.wait && (c.pendi.fin.some && (ready c.pendi.fin.ladder && eqb c.pendi.ep.tag x)))

  abbrev pub confirm_at : Cycle → ℕ → Bool
  confirm_at c x = is_pend_i c.kind && (waits_evidence c.pendi.wait && (leb c.pendi.deadline now && eqb c.pendi.ep.tag x))

  abbrev pub delay_end_at : Cycle → ℕ → Bool
  delay_end_at c x = is_pend_i c.kind && (waits_delay c.pendi.wait && (leb c.pendi.deadline now && eqb c.pendi.ep.tag x))

  -- a resend whose attempt has reached its deadline is not sent: the attempt expires
  abbrev pub resend_at : Cycle → ℕ → Bool
  resend_at c x = is_init c.kind && (ltb now c.init.deadline && (ready c.init.ladder && eqb x 0))

  abbrev pub expire_at : Cycle → ℕ → Bool
  expire_at c x = is_init c.kind && (leb c.init.deadline now && eqb x 0)

  abbrev pub cycle_at : Cycle → ℕ → ℕ → Bool
  cycle_at c k x =
      pick (eqb k item_unadopted) (unadopted_at c x)
      (pick (eqb k item_held) (held_at c x)
      (pick (eqb k item_probe) (probe_at c x)
      (pick (eqb k item_delayed) (delayed_at c x)
      (pick (eqb k item_confirm) (confirm_at c x)
      (pick (eqb k item_delay_end) (delay_end_at c x)
      (pick (eqb k item_resend) (resend_at c x)
      (pick (eqb k item_expire) (expire_at c x) false)))))))

  -- an item of that kind and key is due
  unfoldable pub due_at : State → ℕ → ℕ → Bool
  due_at s k x =
      pick (eqb k item_drain) (drain_at s.drain x)
      (pick (eqb k item_candidate) (cands_at s.cands x)
      (pick (eqb k item_fin) (fin_at s.cur x)
      (pick (eqb k item_elicit) (elicit_at s.cur x)
      (cycle_at s.cycle k x))))
