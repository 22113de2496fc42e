-- The starts stay early: one item of a poll, at an instant that is not after t.
use Rattle.std.specs.Prelude.{ℕ, ◌≤◌, Bool, not, ◌≡◌, refl, leb, ltb, eqb, ℤ}
use Rattle.std.proofs.Math.Bool.{true, false}
use Rattle.std.proofs.lemmas.Bool.{false≢true}
use Rattle.time.specs.Pick.{pick, by-test}
use Rattle.ladder.specs.Ladder.{take_of}
use Rattle.settings.specs.declared.Config.{Config}
use Rattle.epoch.specs.Put.{put_assumed, put_ep}
use Rattle.cycle.specs.Kind.{is_init, is_pend_i, idled, waits_held, waits_evidence, waits_delay}
use Rattle.candidates.specs.Held.{expire_of}
use Rattle.state.specs.declared.State.{State}
use Rattle.state.specs.declared.Given.{Given}
use Rattle.state.specs.Parts.{put_cur, put_cycle}
use Rattle.time.specs.Pick.{and, and_left}
use Rattle.epoch.specs.Held.{is_tag}
use Rattle.cycle.specs.Held.{is_own, is_peers}
use Rattle.grace.specs.Grace.{grace}
use Rattle.poll_cycle.specs.CycleRows.{late_for, unadopted_due, probing, probe_due, delayed_due, resend_taken, resend_due, abandoned_mem, expire_due}
use Rattle.poll_epoch.specs.EpochRows.{drain_due, fin_taken, fin_due, elicit_taken, elicit_due}
use Rattle.poll_cut.specs.Cut.{Step, stay, due_mem, candidate_due, pend_of, cut_by, held_due, delay_end, unconfirmed, assumed, confirm_due}
use Rattle.poll_item.specs.Item.{on_drain, on_cycle, on_cur, on_fail, holds, alone, low_step, high_step, other_step, item_step}
use Rattle.law_early.specs.Early.{Early}
use Rattle.law_early.specs.Parts.{with_mem, with_drain, with_cur, to-idle, with_init, with_pendi, with_cands, cut-early}

module _ (s : State) (t : ℕ) (o : Early s t) where
  drain-early : (key : ℕ) → Early (on_drain s (drain_due s.drain key)).state t
  unfolding drain_due
  drain-early key =
      by-test (λ r. Early (on_drain s r).state t) (is_tag s.drain.some s.drain.ep.tag key) _ _
      (λ e. with_drain s t o (record { some = false; ep = s.drain.ep; deadline = s.drain.deadline; evidenced = s.drain.evidenced }) (λ k. absurd (false≢true k)))
      (λ e. o)

  candidate_early : (seq now : ℕ) → Early (candidate_due s seq now).state t
  unfolding candidate_due
  candidate_early seq now = with_cands s t o (expire_of s.cands seq now).cands

  unadopted_early : (key : ℕ) → Early (on_cycle s (unadopted_due s.cycle key)).state t
  unfolding unadopted_due
  unadopted_early key = by-test (λ r. Early (on_cycle s r).state t) (is_peers s.cycle key) _ _ (λ e. to-idle s t o) (λ e. o)

  probe-early : (cur : Bool) (current g key now : ℕ) → Early (on_cycle s (probe_due s.cycle cur current g key now)).state t
  unfolding probe_due probing
  probe-early cur current g key now =
      by-test (λ r. Early (on_cycle s r).state t) (and (and cur (and (is_own s.cycle key) s.cycle.pendi.probes.some)) (take_of s.cycle.pendi.probes.ladder now).any) _ _
      (λ e. by-test (λ r. Early (on_cycle s r).state t) (and (take_of s.cycle.pendi.probes.ladder now).send (not (late_for s.cycle.pendi g now))) _ _
      (λ e. with_pendi s t o _ refl) (λ e. with_pendi s t o _ refl))
      (λ e. o)

  delayed-early : (key now : ℕ) → Early (on_cycle s (delayed_due s.cycle key now)).state t
  unfolding delayed_due
  delayed-early key now =
      by-test (λ r. Early (on_cycle s r).state t) (and (and (is_own s.cycle key) s.cycle.pendi.fin.some) (take_of s.cycle.pendi.fin.ladder now).any) _ _
      (λ e. with_pendi s t o _ refl)
      (λ e. o)

  fin-early : (key now : ℕ) → Early (on_cur s (fin_due s.cur key now)).state t
  unfolding fin_due fin_taken
  fin-early key now =
      by-test (λ r. Early (on_cur s r).state t) (and (and (is_tag s.cur.some s.cur.ep.tag key) s.cur.ep.fin.some) (take_of s.cur.ep.fin.ladder now).any) _ _
      (λ e. with_mem (put_cur s _) t (with_cur s t o _ o.current) _ o.link o.cutover)
      (λ e. with_mem s t o _ o.link o.cutover)

  elicit-early : (key now : ℕ) → Early (on_cur s (elicit_due s.cur key now)).state t
  unfolding elicit_due elicit_taken
  elicit-early key now =
      by-test (λ r. Early (on_cur s r).state t) (and (and (is_tag s.cur.some s.cur.ep.tag key) (and (not s.cur.ep.moved.some) s.cur.ep.elicit.some)) (take_of s.cur.ep.elicit.ladder now).any) _ _
      (λ e. with_mem (put_cur s _) t (with_cur s t o _ o.current) _ o.link o.cutover)
      (λ e. with_mem s t o _ o.link o.cutover)

  resend_early : (held : Bool) (young messages now : ℕ) → Early (on_cycle s (resend_due s.cycle held young messages now)).state t
  unfolding resend_due resend_taken
  resend_early held young messages now =
      by-test (λ r. Early (on_cycle s r).state t) (and (and (is_init s.cycle.kind) (ltb now s.cycle.init.deadline)) (take_of s.cycle.init.ladder now).any) _ _
      (λ e. by-test (λ r. Early (on_cycle s r).state t) (and held (ltb (take_of s.cycle.init.ladder now).latest young)) _ _
      (λ e. with_init s t o _) (λ e. with_init s t o _))
      (λ e. o)

  expire_early : (cfg : Config) (only : Bool) (now extra : ℕ) → Early (on_fail s (expire_due s.cycle s.mem cfg only now extra)).state t
  unfolding expire_due abandoned_mem
  expire_early cfg only now extra =
      by-test (λ r. Early (on_fail s r).state t) (and (is_init s.cycle.kind) (leb s.cycle.init.deadline now)) _ _
      (λ e. with_mem (put_cycle s (idled s.cycle)) t (to-idle s t o) (abandoned_mem s.mem cfg now extra) o.link o.cutover)
      (λ e. o)

  -- a pending epoch stands only beside a current one
  module _ (led : is_pend_i s.cycle.kind ≡ true → s.cur.some ≡ true) (g : Given) (spread : ℤ) (n : g.now ≤ t) where
    cut-item : (evidence : ℕ) → is_pend_i s.cycle.kind ≡ true → Early (cut_by s g spread evidence).state t
    unfolding cut_by
    cut-item evidence e = cut-early s g spread (pend_of s.cycle) evidence false t o.link (o.current (led e)) n

    -- an own completed attempt is held under the tag
    own : (key : ℕ) (b : Bool) → and (is_own s.cycle key) b ≡ true → is_pend_i s.cycle.kind ≡ true
    unfolding is_own is_tag
    own key b e =
        and_left (is_pend_i s.cycle.kind) (eqb s.cycle.pendi.ep.tag key)
        (and_left (and (is_pend_i s.cycle.kind) (eqb s.cycle.pendi.ep.tag key)) b e)

    held-early : (key : ℕ) → Early (held_due s g spread key).state t
    unfolding held_due
    held-early key =
        by-test (λ (r : Step). Early r.state t) (and (is_own s.cycle key) (waits_held s.cycle.pendi.wait)) (cut_by s g spread 0) (stay s)
        (λ e. cut-item 0 (own key (waits_held s.cycle.pendi.wait) e))
        (λ e. o)

    delay-early : (key : ℕ) → Early (delay_end s g spread key).state t
    unfolding delay_end
    delay-early key =
        by-test (λ (r : Step). Early r.state t) (and (is_own s.cycle key) (waits_delay s.cycle.pendi.wait)) (cut_by s g spread 4) (stay s)
        (λ e. cut-item 4 (own key (waits_delay s.cycle.pendi.wait) e))
        (λ e. o)

    unconfirmed-early : Early (unconfirmed s).state t
    unfolding unconfirmed
    unconfirmed-early = with_mem (put_cycle s (idled s.cycle)) t (to-idle s t o) (due_mem s.mem true) o.link o.cutover

    assumed-early : is_pend_i s.cycle.kind ≡ true → Early (assumed s g spread).state t
    unfolding assumed
    assumed-early e =
        let c : Early (cut_by s g spread 3).state t = cut-item 3 e in
        with_cur (cut_by s g spread 3).state t c (put_ep (cut_by s g spread 3).state.cur (put_assumed (cut_by s g spread 3).state.cur.ep true)) c.current

    confirm-early : (key : ℕ) → Early (confirm_due s g spread key).state t
    unfolding confirm_due
    confirm-early key =
        by-test (λ (r : Step). Early r.state t) (and (is_own s.cycle key) (and (waits_evidence s.cycle.pendi.wait) (leb s.cycle.pendi.deadline g.now))) (pick (pick s.cycle.pendi.stayed true s.cycle.pendi.reverted) (unconfirmed s) (assumed s g spread)) (stay s)
        (λ e.
        let c = own key (and (waits_evidence s.cycle.pendi.wait) (leb s.cycle.pendi.deadline g.now)) e in
        by-test (λ (r : Step). Early r.state t) (pick s.cycle.pendi.stayed true s.cycle.pendi.reverted) (unconfirmed s) (assumed s g spread)
        (λ q. unconfirmed-early) (λ q. assumed-early c))
        (λ e. o)

    low-early : (kind key : ℕ) → Early (low_step s g spread kind key).state t
    unfolding low_step
    low-early kind key =
        by-test (λ (r : Step). Early r.state t) (eqb kind 0) _ _ (λ e. drain-early key)
        (λ n. by-test (λ (r : Step). Early r.state t) (eqb kind 2) _ _ (λ e. unadopted_early key)
        (λ n. by-test (λ (r : Step). Early r.state t) (eqb kind 3) _ _ (λ e. held-early key)
        (λ n. by-test (λ (r : Step). Early r.state t) (eqb kind 4) _ _
        (λ e. probe-early s.cur.some s.cur.ep.tag (grace s.mem g.cfg) key g.now)
        (λ n. delayed-early key g.now))))

    high-early : (kind key : ℕ) → Early (high_step s g spread kind key).state t
    unfolding high_step
    high-early kind key =
        by-test (λ (r : Step). Early r.state t) (eqb kind 6) _ _ (λ e. fin-early key g.now)
        (λ n. by-test (λ (r : Step). Early r.state t) (eqb kind 7) _ _ (λ e. elicit-early key g.now)
        (λ n. by-test (λ (r : Step). Early r.state t) (eqb kind 8) _ _ (λ e. confirm-early key)
        (λ n. by-test (λ (r : Step). Early r.state t) (eqb kind 9) _ _ (λ e. delay-early key)
        (λ n. by-test (λ (r : Step). Early r.state t) (eqb kind 10) _ _
        (λ e. resend_early (holds s g.profile.smaller) g.cfg.young g.profile.messages g.now)
        (λ n. expire_early g.cfg (alone s) g.now g.extra)))))

    -- an item moves no start past t
    pub item-early : (kind key : ℕ) → Early (item_step s g spread kind key).state t
    unfolding item_step other_step
    item-early kind key =
        by-test (λ (r : Step). Early r.state t) (eqb kind 1) (candidate_due s key g.now) (other_step s g spread kind key)
        (λ e. candidate_early key g.now)
        (λ e. by-test (λ (r : Step). Early r.state t) (ltb kind 6) (low_step s g spread kind key) (high_step s g spread kind key)
        (λ l. low-early kind key) (λ h. high-early kind key))
