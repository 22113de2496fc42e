-- Accepted calls leave accepted states: one item of a poll.
use Rattle.std.specs.Prelude.{ℕ, ◌≡◌, leb, ltb, eqb, ℤ}
use Rattle.std.proofs.Math.Bool.{Bool, true, false, not}
use Rattle.std.proofs.Math.Path.{refl}
use Rattle.std.proofs.Common.{arith}
use Rattle.time.specs.Pick.{pick, by-test}
use Rattle.time.specs.Time.{at}
use Rattle.ladder.specs.Ladder.{take_of}
use Rattle.settings.specs.declared.Config.{Config}
use Rattle.epoch.specs.declared.MayEpoch.{MayEpoch}
use Rattle.epoch.specs.Put.{put_fin, put_elicit, put_assumed, moved_fin, put_ep}
use Rattle.cycle.specs.Kind.{is_init, is_pend_i, idled, waits_held, waits_evidence, waits_delay}
use Rattle.cycle.specs.Put.{moved_init, with_fin, with_probes}
use Rattle.candidates.specs.Held.{expire_of}
use Rattle.candidates.proofs.Laws.{expire_len, expire_once}
use Rattle.state.specs.declared.State.{State}
use Rattle.state.specs.declared.Given.{Given}
use Rattle.state.specs.Parts.{put_cur, put_cycle}
use Rattle.time.specs.Pick.{and, and_left, and_right}
use Rattle.epoch.specs.Held.{is_tag}
use Rattle.cycle.specs.Held.{is_own, is_peers}
use Rattle.grace.specs.Grace.{grace}
use Rattle.poll_cycle.specs.CycleRows.{late_for, unadopted_due, probing, probe_due, delayed_due, resend_taken, resend_due, abandoned_mem, expire_due}
use Rattle.poll_epoch.specs.EpochRows.{drain_due, fin_taken, fin_due, elicit_taken, elicit_due}
use Rattle.law_refusal.specs.Sound.{Within, Sound}
use Rattle.poll_cut.specs.Cut.{Step, stay, due_mem, candidate_due, pend_of, cut_by, held_due, delay_end, unconfirmed, assumed, confirm_due}
use Rattle.poll_item.specs.Item.{on_drain, on_cycle, on_cur, on_fail, holds, alone, low_step, high_step, other_step, item_step}
use Rattle.law_sound.specs.Ladders.{take_within}
use Rattle.law_sound.specs.Parts.{on-mem, no-drain, to-idle, keep-init, keep-pendi, keep-cur, new-cands}
use Rattle.law_sound.specs.Cutover.{cut-sound}

module _ (s : State) (o : Sound s) where
  drain_kept : (key : ℕ) → Sound (on_drain s (drain_due s.drain key)).state
  unfolding drain_due
  drain_kept key =
      by-test (λ t. Sound (on_drain s t).state) (is_tag s.drain.some s.drain.ep.tag key) _ _
      (λ e. no-drain s o (record { some = false; ep = s.drain.ep; deadline = s.drain.deadline; evidenced = s.drain.evidenced }) refl)
      (λ e. o)

  candidate_kept : (seq now : ℕ) → Sound (candidate_due s seq now).state
  unfolding candidate_due
  candidate_kept seq now =
      new-cands s o (expire_of s.cands seq now).cands (omega (arith, expire_len s.cands seq now, o.count)) (expire_once s.cands o.seqs seq now)

  unadopted_kept : (key : ℕ) → Sound (on_cycle s (unadopted_due s.cycle key)).state
  unfolding unadopted_due
  unadopted_kept key =
      by-test (λ t. Sound (on_cycle s t).state) (is_peers s.cycle key) _ _ (λ e. to-idle s o) (λ e. o)

  -- the ladder of the probes after a rung was taken
  probes-within : (now : ℕ) → is_pend_i s.cycle.kind ≡ true → s.cycle.pendi.probes.some ≡ true → Within (take_of s.cycle.pendi.probes.ladder now).ladder.sched.len (take_of s.cycle.pendi.probes.ladder now).ladder.next
  probes-within now k q = take_within s.cycle.pendi.probes.ladder now (o.pendi-probes k q)

  probe-kept : (cur : Bool) (current g key now : ℕ) → Sound (on_cycle s (probe_due s.cycle cur current g key now)).state
  unfolding probe_due probing
  probe-kept cur current g key now =
      by-test (λ t. Sound (on_cycle s t).state) (and (and cur (and (is_own s.cycle key) s.cycle.pendi.probes.some)) (take_of s.cycle.pendi.probes.ladder now).any) _ _
      (λ e. by-test (λ t. Sound (on_cycle s t).state) (and (take_of s.cycle.pendi.probes.ladder now).send (not (late_for s.cycle.pendi g now))) _ _
      (λ e. keep-pendi s o (with_probes s.cycle.pendi (record { some = s.cycle.pendi.probes.some; ladder = (take_of s.cycle.pendi.probes.ladder now).ladder }) (at now) false) refl o.pendi-fin (probes-within now))
      (λ e. keep-pendi s o (with_probes s.cycle.pendi (record { some = s.cycle.pendi.probes.some; ladder = (take_of s.cycle.pendi.probes.ladder now).ladder }) s.cycle.pendi.probed s.cycle.pendi.stayed) refl o.pendi-fin (probes-within now)))
      (λ e. o)

  delayed-kept : (key now : ℕ) → Sound (on_cycle s (delayed_due s.cycle key now)).state
  unfolding delayed_due
  delayed-kept key now =
      by-test (λ t. Sound (on_cycle s t).state) (and (and (is_own s.cycle key) s.cycle.pendi.fin.some) (take_of s.cycle.pendi.fin.ladder now).any) _ _
      (λ e. keep-pendi s o (with_fin s.cycle.pendi (moved_fin s.cycle.pendi.fin s.cycle.pendi.fin.some (take_of s.cycle.pendi.fin.ladder now).ladder)) refl
      (λ k q. take_within s.cycle.pendi.fin.ladder now (o.pendi-fin k q)) o.pendi-probes)
      (λ e. o)

  fin-kept : (key now : ℕ) → Sound (on_cur s (fin_due s.cur key now)).state
  unfolding fin_due fin_taken
  fin-kept key now =
      by-test (λ t. Sound (on_cur s t).state) (and (and (is_tag s.cur.some s.cur.ep.tag key) s.cur.ep.fin.some) (take_of s.cur.ep.fin.ladder now).any) _ _
      (λ e.
      let held : s.cur.ep.fin.some ≡ true = and_right (is_tag s.cur.some s.cur.ep.tag key) s.cur.ep.fin.some (and_left (and (is_tag s.cur.some s.cur.ep.tag key) s.cur.ep.fin.some) (take_of s.cur.ep.fin.ladder now).any e) in
      on-mem (put_cur s (after (take_of s.cur.ep.fin.ladder now).last)) (keep-cur s o (after (take_of s.cur.ep.fin.ladder now).last) refl refl
      (λ k. record { fin = λ q. take_within s.cur.ep.fin.ladder now ((o.cur-ladders k).fin held); elicit = (o.cur-ladders k).elicit })) _)
      (λ e. on-mem s o _)
    where
      after : Bool → MayEpoch
      after last = put_ep s.cur (put_fin s.cur.ep (moved_fin s.cur.ep.fin (not last) (take_of s.cur.ep.fin.ladder now).ladder))

  elicit-kept : (key now : ℕ) → Sound (on_cur s (elicit_due s.cur key now)).state
  unfolding elicit_due elicit_taken
  elicit-kept key now =
      by-test (λ t. Sound (on_cur s t).state) (and (and (is_tag s.cur.some s.cur.ep.tag key) (and (not s.cur.ep.moved.some) s.cur.ep.elicit.some)) (take_of s.cur.ep.elicit.ladder now).any) _ _
      (λ e.
      let held : s.cur.ep.elicit.some ≡ true =
      and_right (not s.cur.ep.moved.some) s.cur.ep.elicit.some
      (and_right (is_tag s.cur.some s.cur.ep.tag key) (and (not s.cur.ep.moved.some) s.cur.ep.elicit.some)
      (and_left (and (is_tag s.cur.some s.cur.ep.tag key) (and (not s.cur.ep.moved.some) s.cur.ep.elicit.some)) (take_of s.cur.ep.elicit.ladder now).any e)) in
      on-mem (put_cur s (after (take_of s.cur.ep.elicit.ladder now).last)) (keep-cur s o (after (take_of s.cur.ep.elicit.ladder now).last) refl refl
      (λ k. record { fin = (o.cur-ladders k).fin; elicit = λ q. take_within s.cur.ep.elicit.ladder now ((o.cur-ladders k).elicit held) })) _)
      (λ e. on-mem s o _)
    where
      after : Bool → MayEpoch
      after last = put_ep s.cur (put_elicit s.cur.ep (record { some = not last; ladder = (take_of s.cur.ep.elicit.ladder now).ladder }) (at now))

  resend_kept : (held : Bool) (young messages now : ℕ) → Sound (on_cycle s (resend_due s.cycle held young messages now)).state
  unfolding resend_due resend_taken
  resend_kept held young messages now =
      by-test (λ t. Sound (on_cycle s t).state) (and (and (is_init s.cycle.kind) (ltb now s.cycle.init.deadline)) (take_of s.cycle.init.ladder now).any) _ _
      (λ e. by-test (λ t. Sound (on_cycle s t).state) (and held (ltb (take_of s.cycle.init.ladder now).latest young)) _ _
      (λ e. keep-init s o (moved_init s.cycle.init (take_of s.cycle.init.ladder now).ladder s.cycle.init.resent) (λ k. take_within s.cycle.init.ladder now (o.init-ladder k)))
      (λ e. keep-init s o (moved_init s.cycle.init (take_of s.cycle.init.ladder now).ladder true) (λ k. take_within s.cycle.init.ladder now (o.init-ladder k))))
      (λ e. o)

  expire_kept : (cfg : Config) (only : Bool) (now extra : ℕ) → Sound (on_fail s (expire_due s.cycle s.mem cfg only now extra)).state
  unfolding expire_due
  expire_kept cfg only now extra =
      by-test (λ t. Sound (on_fail s t).state) (and (is_init s.cycle.kind) (leb s.cycle.init.deadline now)) _ _
      (λ e. on-mem (put_cycle s (idled s.cycle)) (to-idle s o) (abandoned_mem s.mem cfg now extra))
      (λ e. o)

  module _ (g : Given) (spread : ℤ) where
    cut-kept : (evidence : ℕ) → is_pend_i s.cycle.kind ≡ true → Sound (cut_by s g spread evidence).state
    unfolding cut_by
    cut-kept evidence e =
        cut-sound s g spread (pend_of s.cycle) evidence false o.count o.seqs (o.pendi-ladders e) (o.pendi-fin e) (o.cur-pendi e)

    -- an own completed attempt is held under the tag
    own : (key : ℕ) (b : Bool) → and (is_own s.cycle key) b ≡ true → is_pend_i s.cycle.kind ≡ true
    unfolding is_own is_tag
    own key b e =
        and_left (is_pend_i s.cycle.kind) (eqb s.cycle.pendi.ep.tag key)
        (and_left (and (is_pend_i s.cycle.kind) (eqb s.cycle.pendi.ep.tag key)) b e)

    held_kept : (key : ℕ) → Sound (held_due s g spread key).state
    unfolding held_due
    held_kept key =
        by-test (λ (t : Step). Sound t.state) (and (is_own s.cycle key) (waits_held s.cycle.pendi.wait)) (cut_by s g spread 0) (stay s)
        (λ e. cut-kept 0 (own key (waits_held s.cycle.pendi.wait) e))
        (λ e. o)

    delay-kept : (key : ℕ) → Sound (delay_end s g spread key).state
    unfolding delay_end
    delay-kept key =
        by-test (λ (t : Step). Sound t.state) (and (is_own s.cycle key) (waits_delay s.cycle.pendi.wait)) (cut_by s g spread 4) (stay s)
        (λ e. cut-kept 4 (own key (waits_delay s.cycle.pendi.wait) e))
        (λ e. o)

    unconfirmed-kept : Sound (unconfirmed s).state
    unfolding unconfirmed
    unconfirmed-kept = on-mem (put_cycle s (idled s.cycle)) (to-idle s o) (due_mem s.mem true)

    assumed-kept : is_pend_i s.cycle.kind ≡ true → Sound (assumed s g spread).state
    unfolding assumed
    assumed-kept e =
        let c : Sound (cut_by s g spread 3).state = cut-kept 3 e in
        keep-cur (cut_by s g spread 3).state c (put_ep (cut_by s g spread 3).state.cur (put_assumed (cut_by s g spread 3).state.cur.ep true)) refl refl
        (λ k. record { fin = (c.cur-ladders k).fin; elicit = (c.cur-ladders k).elicit })

    confirm-kept : (key : ℕ) → Sound (confirm_due s g spread key).state
    unfolding confirm_due
    confirm-kept key =
        by-test (λ (t : Step). Sound t.state) (and (is_own s.cycle key) (and (waits_evidence s.cycle.pendi.wait) (leb s.cycle.pendi.deadline g.now))) (pick (pick s.cycle.pendi.stayed true s.cycle.pendi.reverted) (unconfirmed s) (assumed s g spread)) (stay s)
        (λ e.
        let c = own key (and (waits_evidence s.cycle.pendi.wait) (leb s.cycle.pendi.deadline g.now)) e in
        by-test (λ (t : Step). Sound t.state) (pick s.cycle.pendi.stayed true s.cycle.pendi.reverted) (unconfirmed s) (assumed s g spread)
        (λ q. unconfirmed-kept) (λ q. assumed-kept c))
        (λ e. o)

    low-kept : (kind key : ℕ) → Sound (low_step s g spread kind key).state
    unfolding low_step
    low-kept kind key =
        by-test (λ (t : Step). Sound t.state) (eqb kind 0) _ _ (λ e. drain_kept key)
        (λ n. by-test (λ (t : Step). Sound t.state) (eqb kind 2) _ _ (λ e. unadopted_kept key)
        (λ n. by-test (λ (t : Step). Sound t.state) (eqb kind 3) _ _ (λ e. held_kept key)
        (λ n. by-test (λ (t : Step). Sound t.state) (eqb kind 4) _ _
        (λ e. probe-kept s.cur.some s.cur.ep.tag (grace s.mem g.cfg) key g.now)
        (λ n. delayed-kept key g.now))))

    high-kept : (kind key : ℕ) → Sound (high_step s g spread kind key).state
    unfolding high_step
    high-kept kind key =
        by-test (λ (t : Step). Sound t.state) (eqb kind 6) _ _ (λ e. fin-kept key g.now)
        (λ n. by-test (λ (t : Step). Sound t.state) (eqb kind 7) _ _ (λ e. elicit-kept key g.now)
        (λ n. by-test (λ (t : Step). Sound t.state) (eqb kind 8) _ _ (λ e. confirm-kept key)
        (λ n. by-test (λ (t : Step). Sound t.state) (eqb kind 9) _ _ (λ e. delay-kept key)
        (λ n. by-test (λ (t : Step). Sound t.state) (eqb kind 10) _ _
        (λ e. resend_kept (holds s g.profile.smaller) g.cfg.young g.profile.messages g.now)
        (λ n. expire_kept g.cfg (alone s) g.now g.extra)))))

    -- an item leaves an accepted state accepted
    pub item-sound : (kind key : ℕ) → Sound (item_step s g spread kind key).state
    unfolding item_step other_step
    item-sound kind key =
        by-test (λ (t : Step). Sound t.state) (eqb kind 1) (candidate_due s key g.now) (other_step s g spread kind key)
        (λ e. candidate_kept key g.now)
        (λ e. by-test (λ (t : Step). Sound t.state) (ltb kind 6) (low_step s g spread kind key) (high_step s g spread kind key)
        (λ l. low-kept kind key) (λ h. high-kept kind key))
