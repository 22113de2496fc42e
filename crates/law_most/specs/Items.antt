-- One item: its events are paid by its kind and by what it takes from the state's stock.
use Rattle.std.specs.Prelude.{ℕ, ◌≤◌, ◌<◌, ◌+◌, ◌-◌, Bool, not, ◌≡◌, List, leb, ltb, eqb, ℤ, length, get_or}
use Rattle.std.proofs.Math.Bool.{true, false}
use Rattle.std.proofs.lemmas.Bool.{false≢true, eqb-false}
use Rattle.std.proofs.Math.Path.{refl}
use Rattle.std.proofs.Common.{sym, ◌∙◌, subst, eqb-true, ltb-true}
use native.Mathlib.Omega.{arith}
use Rattle.std.proofs.Math.ListN.{length-append}
use Rattle.time.specs.Pick.{pick, by-test}
use Rattle.time.specs.Laws.{least-left}
use Rattle.ladder.specs.Ladder.{take_of}
use Rattle.settings.specs.declared.Config.{Config}
use Rattle.cycle.specs.Kind.{is_init, is_pend_i, is_pend_r, waits_held, waits_evidence, waits_delay}
use Rattle.candidates.specs.declared.Candidates.{Candidates}
use Rattle.candidates.specs.Held.{held_of, held_by, spot_of, others, choosing, removed_of, cleared_of, expired_in, expire_of, leaving}
use Rattle.candidates.proofs.Laws.{held-most, length-others, expired-at, cleared_len}
use Rattle.state.specs.declared.State.{State}
use Rattle.state.specs.declared.Given.{Given}
use Rattle.state.specs.Parts.{put_cands}
use Rattle.events.specs.Events.{Event, Ended, Abandoned, Teardown, Reject, Send}
use Rattle.retire.specs.Retire.{only}
use Rattle.retire.proofs.Most.{only-most, retire_most, abandon_most}
use Rattle.time.specs.Pick.{and, and_left}
use Rattle.epoch.specs.Held.{is_tag}
use Rattle.cycle.specs.Held.{is_own, is_peers}
use Rattle.grace.specs.Grace.{grace}
use Rattle.poll_cycle.specs.CycleRows.{late_for, unadopted_due, probing, probe_due, delayed_due, resend_taken, resend_due, expire_due}
use Rattle.poll_epoch.specs.EpochRows.{drain_due, fin_taken, fin_due, elicit_taken, elicit_due}
use Rattle.cutover.specs.declared.Pend.{Pend}
use Rattle.cutover.specs.Cutover.{prunes, pruned, cutover_of}
use Rattle.cutover.specs.Most.{cutover-most}
use Rattle.poll_cut.specs.Cut.{stay, candidate_due, pend_of, cut_by, held_due, delay_end, unconfirmed, assumed, confirm_due}
use Rattle.poll_item.specs.Item.{on_drain, on_cycle, on_cur, on_fail, holds, alone, low_step, high_step, other_step, item_step}
use Rattle.law_most.specs.Cost.{stock_of, stock, cost, Paid, ends-init, ends-pendi, ends-pendr}

-- ---- lists of events

picked : (n : ℕ) (b : Bool) (l m : List Event) → length l ≤ n → length m ≤ n → length (pick b l m) ≤ n
picked n true l m p q = p
picked n false l m p q = q

-- ---- the stock

fewer : (kind m n : ℕ) → held_of m ≤ held_of n → stock_of kind m ≤ stock_of kind n
unfolding stock_of
fewer kind m n h = omega (arith, h)

pruned-fewer : (v : Candidates) (evidence : ℕ) (smaller : Bool) → held_of (pruned v evidence smaller).len ≤ held_of v.len
unfolding pruned
pruned-fewer v evidence smaller = under (prunes evidence smaller)
  where
    none : held_of (cleared_of v).len ≤ 0
    none = omega (arith, held-most (cleared_of v).len, cleared_len v)

    under : (q : Bool) → held_of (pick q (cleared_of v) v).len ≤ held_of v.len
    under true = omega (arith, none)
    under false = omega arith

cut-stock : (s : State) (g : Given) (spread : ℤ) (p : Pend) (evidence : ℕ) (k : Bool) → stock (cutover_of s g spread p evidence k).state ≤ stock_of 0 s.cands.len
unfolding cutover_of
cut-stock s g spread p evidence k =
    fewer 0 (pruned s.cands evidence g.profile.smaller).len s.cands.len (pruned-fewer s.cands evidence g.profile.smaller)

short : (k : ℕ) → k ≤ 32 → held_of k ≡ k
unfolding held_of
short k h = least-left {a = k} {b = 32} h

-- a candidate that goes pays its one event
removed_pays : (v : Candidates) (seq now : ℕ) → expired_in seq now (held_by v) ≡ true → held_of (removed_of v seq).len + 1 ≡ held_of v.len
unfolding removed_of choosing
removed_pays v seq now e =
    under (ltb (spot_of v seq) (held_of v.len)) refl (sym (expired-at v seq now) ∙ e)
  where
    under : (q : Bool) → ltb (spot_of v seq) (held_of v.len) ≡ q → pick q (leb (get_or v.deadline (spot_of v seq) 0) now) false ≡ true → held_of (pick q (choosing (others (spot_of v seq) (held_of v.len)) v) v).len + 1 ≡ held_of v.len
    under true p r =
        let l : spot_of v seq < held_of v.len = ltb-true (spot_of v seq) (held_of v.len) p in
        let n : held_of v.len - 1 ≡ length (others (spot_of v seq) (held_of v.len)) = length-others (spot_of v seq) (held_of v.len) l in
        let m : held_of (length (others (spot_of v seq) (held_of v.len))) ≡ length (others (spot_of v seq) (held_of v.len)) = short (length (others (spot_of v seq) (held_of v.len))) (omega (arith, n, held-most v.len)) in
        omega (arith, l, n, m)
    under false p r = absurd (false≢true r)

-- the cost of a kind that is known
at-kind : (kind k c : ℕ) → c ≤ cost k → eqb kind k ≡ true → c ≤ cost kind
at-kind kind k c h e = subst (λ j. c ≤ cost j) (sym (eqb-true kind k e)) h

drain_pays : 5 ≤ cost 0
unfolding cost
drain_pays = omega arith

probe_pays : 3 ≤ cost 4
unfolding cost
probe_pays = omega arith

fin_pays : 1 ≤ cost 6
unfolding cost
fin_pays = omega arith

elicit_pays : 1 ≤ cost 7
unfolding cost
elicit_pays = omega arith

resend_pays : 1 ≤ cost 10
unfolding cost
resend_pays = omega arith

-- a kind below 6 that is none of the others is Delayed
only-delayed : (kind : ℕ) → eqb kind 1 ≡ false → ltb kind 6 ≡ true → eqb kind 0 ≡ false → eqb kind 2 ≡ false → eqb kind 3 ≡ false → eqb kind 4 ≡ false → 1 ≤ cost kind
unfolding cost
only-delayed kind other low n0 n2 n3 n4 =
    let five : kind ≡ 5 = omega (arith, eqb-false kind 0 n0, eqb-false kind 1 other, eqb-false kind 2 n2, eqb-false kind 3 n3, eqb-false kind 4 n4, ltb-true kind 6 low) in
    subst (λ k. 1 ≤ cost k) (sym five) (omega arith)

-- what is paid by c is paid by more
at-cost : {a : ℕ} (b : ℕ) (c : ℕ) {d : ℕ} → c ≤ d → a ≤ b + c → a ≤ b + d
at-cost b c h p = omega (arith, h, p)

-- ---- the rows

module _ (s : State) where
  -- nothing happens
  stays : (c : ℕ) → Paid s c (stay s)
  stays c = omega arith

  drain_paid : (key : ℕ) → Paid s 5 (on_drain s (drain_due s.drain key))
  unfolding drain_due
  drain_paid key =
      by-test (λ t. Paid s 5 (on_drain s t)) (is_tag s.drain.some s.drain.ep.tag key) _ _
      (λ e. simp length-append (omega (arith, retire_most s.drain.ep, only-most (not s.drain.evidenced) (Abandoned 0))))
      (λ e. omega arith)

  candidate_paid : (seq now : ℕ) → Paid s 0 (candidate_due s seq now)
  unfolding candidate_due expire_of stock_of
  candidate_paid seq now = under (expired_in seq now (held_by s.cands)) refl
    where
      under : (q : Bool) → expired_in seq now (held_by s.cands) ≡ q → Paid s 0 (record { state = put_cands s (leaving q s.cands seq).cands; out = only q (Reject 29); ends = false })
      under true e = omega (arith, removed_pays s.cands seq now e)
      under false e = omega arith

  unadopted_paid : (key : ℕ) → Paid s 0 (on_cycle s (unadopted_due s.cycle key))
  unfolding unadopted_due is_peers is_tag
  unadopted_paid key =
      by-test (λ t. Paid s 0 (on_cycle s t)) (is_tag (is_pend_r s.cycle.kind) s.cycle.pendr.ep.tag key) _ _
      (λ e. simp length-append (omega (
        arith,
        only-most s.cycle.pendr.answer.some (Ended key),
        retire_most s.cycle.pendr.ep,
        ends-pendr s.cycle.kind s.cands.len (and_left (is_pend_r s.cycle.kind) (eqb s.cycle.pendr.ep.tag key) e),
      )))
      (λ e. omega arith)

  probe_paid : (cur : Bool) (current g key now : ℕ) → Paid s 3 (on_cycle s (probe_due s.cycle cur current g key now))
  unfolding probe_due probing
  probe_paid cur current g key now =
      by-test (λ t. Paid s 3 (on_cycle s t)) (and (and cur (and (is_own s.cycle key) s.cycle.pendi.probes.some)) (take_of s.cycle.pendi.probes.ladder now).any) _ _
      (λ e. by-test (λ t. Paid s 3 (on_cycle s t)) (and (take_of s.cycle.pendi.probes.ladder now).send (not (late_for s.cycle.pendi g now))) _ _
      (λ e. simp length-append (omega (arith, only-most s.cycle.pendi.fin.some (Send s.cycle.pendi.fin.msg 4 (take_of s.cycle.pendi.probes.ladder now).taken))))
      (λ e. omega arith))
      (λ e. omega arith)

  delayed_paid : (key now : ℕ) → Paid s 1 (on_cycle s (delayed_due s.cycle key now))
  unfolding delayed_due
  delayed_paid key now =
      by-test (λ t. Paid s 1 (on_cycle s t)) (and (and (is_own s.cycle key) s.cycle.pendi.fin.some) (take_of s.cycle.pendi.fin.ladder now).any) _ _
      (λ e. omega arith) (λ e. omega arith)

  fin_paid : (key now : ℕ) → Paid s 1 (on_cur s (fin_due s.cur key now))
  unfolding fin_due fin_taken
  fin_paid key now =
      by-test (λ t. Paid s 1 (on_cur s t)) (and (and (is_tag s.cur.some s.cur.ep.tag key) s.cur.ep.fin.some) (take_of s.cur.ep.fin.ladder now).any) _ _
      (λ e. omega arith) (λ e. omega arith)

  elicit_paid : (key now : ℕ) → Paid s 1 (on_cur s (elicit_due s.cur key now))
  unfolding elicit_due elicit_taken
  elicit_paid key now =
      by-test (λ t. Paid s 1 (on_cur s t)) (and (and (is_tag s.cur.some s.cur.ep.tag key) (and (not s.cur.ep.moved.some) s.cur.ep.elicit.some)) (take_of s.cur.ep.elicit.ladder now).any) _ _
      (λ e. omega arith) (λ e. omega arith)

  resend_paid : (held : Bool) (young messages now : ℕ) → Paid s 1 (on_cycle s (resend_due s.cycle held young messages now))
  unfolding resend_due resend_taken
  resend_paid held young messages now =
      by-test (λ t. Paid s 1 (on_cycle s t)) (and (and (is_init s.cycle.kind) (ltb now s.cycle.init.deadline)) (take_of s.cycle.init.ladder now).any) _ _
      (λ e. by-test (λ t. Paid s 1 (on_cycle s t)) (and held (ltb (take_of s.cycle.init.ladder now).latest young)) _ _
      (λ e. omega arith) (λ e. omega arith))
      (λ e. omega arith)

  expire_paid : (cfg : Config) (only : Bool) (now extra : ℕ) → Paid s 0 (on_fail s (expire_due s.cycle s.mem cfg only now extra))
  unfolding expire_due
  expire_paid cfg only now extra =
      by-test (λ t. Paid s 0 (on_fail s t)) (and (is_init s.cycle.kind) (leb s.cycle.init.deadline now)) _ _
      (λ e. simp length-append (omega (
        arith,
        abandon_most s.cycle.init 4,
        only-most only (Teardown 1),
        ends-init s.cycle.kind s.cands.len (and_left (is_init s.cycle.kind) (leb s.cycle.init.deadline now) e),
      )))
      (λ e. omega arith)

  module _ (g : Given) (spread : ℤ) where
    cut_paid : (evidence : ℕ) → is_pend_i s.cycle.kind ≡ true → Paid s 0 (cut_by s g spread evidence)
    unfolding cut_by
    cut_paid evidence e =
        omega (
          arith,
          cutover-most s g spread (pend_of s.cycle) evidence false,
          cut-stock s g spread (pend_of s.cycle) evidence false,
          ends-pendi s.cycle.kind s.cands.len e,
        )

    -- an own completed attempt is held under the tag
    own : (key : ℕ) (b : Bool) → and (is_own s.cycle key) b ≡ true → is_pend_i s.cycle.kind ≡ true
    unfolding is_own is_tag
    own key b e =
        and_left (is_pend_i s.cycle.kind) (eqb s.cycle.pendi.ep.tag key)
        (and_left (and (is_pend_i s.cycle.kind) (eqb s.cycle.pendi.ep.tag key)) b e)

    held_paid : (key : ℕ) → Paid s 0 (held_due s g spread key)
    unfolding held_due
    held_paid key =
        by-test (Paid s 0) (and (is_own s.cycle key) (waits_held s.cycle.pendi.wait)) (cut_by s g spread 0) (stay s)
        (λ e. cut_paid 0 (own key (waits_held s.cycle.pendi.wait) e))
        (λ e. stays 0)

    delay_paid : (key : ℕ) → Paid s 0 (delay_end s g spread key)
    unfolding delay_end
    delay_paid key =
        by-test (Paid s 0) (and (is_own s.cycle key) (waits_delay s.cycle.pendi.wait)) (cut_by s g spread 4) (stay s)
        (λ e. cut_paid 4 (own key (waits_delay s.cycle.pendi.wait) e))
        (λ e. stays 0)

    unconfirmed_paid : is_pend_i s.cycle.kind ≡ true → Paid s 0 (unconfirmed s)
    unfolding unconfirmed
    unconfirmed_paid e =
        simp length-append (omega (arith, retire_most s.cycle.pendi.ep, ends-pendi s.cycle.kind s.cands.len e))

    assumed_paid : is_pend_i s.cycle.kind ≡ true → Paid s 0 (assumed s g spread)
    unfolding assumed
    assumed_paid e = cut_paid 3 e

    confirm_paid : (key : ℕ) → Paid s 0 (confirm_due s g spread key)
    unfolding confirm_due
    confirm_paid key =
        by-test (Paid s 0) (and (is_own s.cycle key) (and (waits_evidence s.cycle.pendi.wait) (leb s.cycle.pendi.deadline g.now))) _ (stay s)
        (λ e.
        let o = own key (and (waits_evidence s.cycle.pendi.wait) (leb s.cycle.pendi.deadline g.now)) e in
        by-test (Paid s 0) (pick s.cycle.pendi.stayed true s.cycle.pendi.reverted) (unconfirmed s) (assumed s g spread)
        (λ q. unconfirmed_paid o) (λ q. assumed_paid o))
        (λ e. stays 0)

    -- ---- the item of a kind

    low_paid : (kind key : ℕ) → eqb kind 1 ≡ false → ltb kind 6 ≡ true → Paid s (cost kind) (low_step s g spread kind key)
    unfolding low_step
    low_paid kind key other low =
        by-test (Paid s (cost kind)) (eqb kind 0) _ _
        (λ e. at-cost (stock s) 5 (at-kind kind 0 5 drain_pays e) (drain_paid key))
        (λ n0. by-test (Paid s (cost kind)) (eqb kind 2) _ _
        (λ e. at-cost (stock s) 0 (omega arith) (unadopted_paid key))
        (λ n2. by-test (Paid s (cost kind)) (eqb kind 3) _ _
        (λ e. at-cost (stock s) 0 (omega arith) (held_paid key))
        (λ n3. by-test (Paid s (cost kind)) (eqb kind 4) _ _
        (λ e. at-cost (stock s) 3 (at-kind kind 4 3 probe_pays e) (probe_paid s.cur.some s.cur.ep.tag (grace s.mem g.cfg) key g.now))
        (λ n4. at-cost (stock s) 1 (only-delayed kind other low n0 n2 n3 n4) (delayed_paid key g.now)))))

    high_paid : (kind key : ℕ) → Paid s (cost kind) (high_step s g spread kind key)
    unfolding high_step
    high_paid kind key =
        by-test (Paid s (cost kind)) (eqb kind 6) _ _
        (λ e. at-cost (stock s) 1 (at-kind kind 6 1 fin_pays e) (fin_paid key g.now))
        (λ n. by-test (Paid s (cost kind)) (eqb kind 7) _ _
        (λ e. at-cost (stock s) 1 (at-kind kind 7 1 elicit_pays e) (elicit_paid key g.now))
        (λ n. by-test (Paid s (cost kind)) (eqb kind 8) _ _
        (λ e. at-cost (stock s) 0 (omega arith) (confirm_paid key))
        (λ n. by-test (Paid s (cost kind)) (eqb kind 9) _ _
        (λ e. at-cost (stock s) 0 (omega arith) (delay_paid key))
        (λ n. by-test (Paid s (cost kind)) (eqb kind 10) _ _
        (λ e. at-cost (stock s) 1 (at-kind kind 10 1 resend_pays e) (resend_paid (holds s g.profile.smaller) g.cfg.young g.profile.messages g.now))
        (λ n. at-cost (stock s) 0 (omega arith) (expire_paid g.cfg (alone s) g.now g.extra))))))

    -- an item's events are paid by its kind and by what it takes from the stock
    pub item_paid : (kind key : ℕ) → Paid s (cost kind) (item_step s g spread kind key)
    unfolding item_step other_step
    item_paid kind key =
        by-test (Paid s (cost kind)) (eqb kind 1) (candidate_due s key g.now) _
        (λ e. at-cost (stock s) 0 (omega arith) (candidate_paid key g.now))
        (λ other. by-test (Paid s (cost kind)) (ltb kind 6) (low_step s g spread kind key) (high_step s g spread kind key)
        (λ low. low_paid kind key other low)
        (λ high. high_paid kind key))
