-- What one item leaves due: nothing that was not due before but what a cutover brings, and not itself.
use Rattle.std.specs.Prelude.{ℕ, ◌≤◌, ◌<◌, Bool, not, ◌&&◌, ◌||◌, ◌⊎◌, ◌≡◌, ltb, ℤ}
use Rattle.std.proofs.Math.Bool.{true, false}
use Rattle.std.proofs.Common.{true≢false, ⊎_elim, sym, ◌∙◌, ap, subst, arith}
use Rattle.std.proofs.lemmas.Bool.{false≢true}
use Rattle.std.proofs.Math.Logic.{inl, inr}
use Rattle.std.proofs.Math.Path.{refl}
use mathlib.Core.List.{List, [], ◌∷◌}
use borrow.Author.Tests.{ltb-true, ltb-false, eqb-true, eqb-false, eq-eqb, ne_eqb}
use Rattle.std.proofs.Math.Dec.{leb, eqb}
use Rattle.time.specs.declared.When.{When}
use Rattle.time.specs.Pick.{pick, by-test}
use Rattle.time.specs.Time.{at}
use Rattle.time.specs.Laws.{decide}
use Rattle.ladder.specs.declared.Ladder.{Ladder}
use Rattle.ladder.specs.Ladder.{take_of}
use Rattle.settings.specs.declared.Config.{Config}
use Rattle.numbers.specs.Numbers.{item_drain, item_candidate, item_unadopted, item_held, item_probe, item_delayed, item_fin, item_elicit, item_confirm, item_delay_end, item_resend, item_expire}
use Rattle.epoch.specs.declared.MayEpoch.{MayEpoch}
use Rattle.epoch.specs.Put.{put_fin, put_elicit, moved_fin, put_ep}
use Rattle.cycle.specs.declared.Cycle.{Cycle}
use Rattle.cycle.specs.Put.{put_init, put_pend_i, moved_init, with_fin, with_probes}
use Rattle.cycle.specs.Kind.{is_init, is_pend_i, is_pend_r, idled, waits_held, waits_evidence, waits_delay}
use Rattle.candidates.specs.declared.Candidates.{Candidates}
use Rattle.candidates.specs.Held.{Candidate, held_by, numbers, without, expired_in, cleared_of, expire_of}
use Rattle.candidates.proofs.Laws.{held_expire, held_cleared, numbers-held}
use Rattle.candidates.specs.Repeats.{among, repeated}
use Rattle.state.specs.declared.Memory.{Memory}
use Rattle.state.specs.declared.State.{State}
use Rattle.state.specs.declared.Given.{Given}
use Rattle.state.specs.Parts.{put_mem, put_cur, put_drain, put_cycle, put_cands}
use Rattle.refusal.specs.Refusal.{any_of}
use Rattle.refusal.proofs.First.{or_left, or_right, or_none}
use Rattle.law_refusal.specs.Sound.{Sound}
use Rattle.time.specs.Pick.{and, and_left}
use Rattle.epoch.specs.Held.{is_tag}
use Rattle.cycle.specs.Held.{is_own, is_peers}
use Rattle.grace.specs.Grace.{grace}
use Rattle.poll_cycle.specs.CycleRows.{late_for, unadopted_due, probing, probe_due, delayed_due, resend_taken, resend_due, abandoned_mem, expire_due}
use Rattle.poll_epoch.specs.EpochRows.{drain_due, fin_taken, fin_due, elicit_taken, elicit_due}
use Rattle.cutover.specs.Cutover.{prunes, pruned, demoted, adopted, kept_fin, cutover_of}
use Rattle.poll_cut.specs.Cut.{Step, stay, due_mem, candidate_due, cut_by, held_due, delay_end, unconfirmed, assumed, confirm_due}
use Rattle.poll_item.specs.Item.{on_drain, on_cycle, on_cur, on_fail, holds, alone, low_step, high_step, other_step, item_step}
use Rattle.law_clear.specs.Ladders.{take_past, take-any}
use Rattle.law_clear.specs.Due.{ready, drain_at, waiting, cands_at, fin_at, elicit_at, unadopted_at, held_at, probe_at, delayed_at, confirm_at, delay_end_at, resend_at, expire_at, cycle_at, due_at}
use Rattle.law_clear.specs.Named.{left, right}

-- ---- tests

clash : {X : Type 0} {b : Bool} → b ≡ true → b ≡ false → X
clash p q = absurd (true≢false (sym p ∙ q))

pub refute : (b : Bool) → (b ≡ true → ⊥) → b ≡ false
refute true f = absurd (f refl)
refute false f = refl

two : {a b : Bool} → a ≡ true → b ≡ true → and a b ≡ true
two p q = rw (p, q)

-- what was picked holds: where it was before, or by another fact
fewer : {G : Type 0} (b : Bool) {x x' y y' : Bool} → (b ≡ true → x ≡ true → (x' ≡ true) ⊎ G) → (b ≡ false → y ≡ true → (y' ≡ true) ⊎ G) → pick b x y ≡ true → (pick b x' y' ≡ true) ⊎ G
fewer true f g e = f refl e
fewer false f g e = g refl e

less : (b : Bool) {x x' y y' : Bool} → (x ≡ true → x' ≡ true) → (y ≡ true → y' ≡ true) → pick b x y ≡ true → pick b x' y' ≡ true
less true f g e = f e
less false f g e = g e

neither : (b : Bool) {y : Bool} → y ≡ false → pick b false y ≡ false
neither true e = refl
neither false e = e

-- ---- a candidate of a number taken out

module _ (now : ℕ) where
  without_fewer : (key x : ℕ) (l : List Candidate) → any_of (waiting now x) (without key l) ≡ true → any_of (waiting now x) l ≡ true
  unfolding any_of without
  without_fewer key x [] e = e
  without_fewer key x (c ∷ l) e = under (eqb c.seq key) (waiting now x c) refl (without_fewer key x l) e
    where
      under : (b w : Bool) → waiting now x c ≡ w → (any_of (waiting now x) (without key l) ≡ true → any_of (waiting now x) l ≡ true) → any_of (waiting now x) (pick b l (c ∷ without key l)) ≡ true → w || any_of (waiting now x) l ≡ true
      under b true q f e = refl
      under true false q f e = e
      under false false q f e = f (sym (ap (λ v. v || any_of (waiting now x) (without key l)) q) ∙ e)

  -- none but those that were there
  among_those : (key x : ℕ) (l : List Candidate) → any_of (waiting now x) (pick (expired_in key now l) (without key l) l) ≡ true → any_of (waiting now x) l ≡ true
  among_those key x l = under (expired_in key now l)
    where
      under : (b : Bool) → any_of (waiting now x) (pick b (without key l) l) ≡ true → any_of (waiting now x) l ≡ true
      under true e = without_fewer key x l e
      under false e = e

  none-among : (key : ℕ) (l : List Candidate) → among key (numbers l) ≡ false → any_of (waiting now key) l ≡ false
  unfolding any_of among
  none-among key [] e = refl
  none-among key (c ∷ l) e =
      or_none (ap (λ b. b && leb c.deadline now) (or_left (eqb c.seq key) (among key (numbers l)) e)) (none-among key l (or_right (eqb c.seq key) (among key (numbers l)) e))

  none_left : (key : ℕ) (l : List Candidate) → repeated (numbers l) ≡ false → any_of (waiting now key) (pick (expired_in key now l) (without key l) l) ≡ false
  unfolding any_of without expired_in repeated
  none_left key [] once = refl
  none_left key (c ∷ l) once =
      under (eqb c.seq key) (leb c.deadline now) (expired_in key now l) refl refl
      (none_left key l (or_right (among c.seq (numbers l)) (repeated (numbers l)) once))
    where
      alone_in : eqb c.seq key ≡ true → any_of (waiting now key) l ≡ false
      alone_in e = none-among key l (ap (λ n. among n (numbers l)) (sym (eqb-true c.seq key e)) ∙ or_left (among c.seq (numbers l)) (repeated (numbers l)) once)

      under : (b d q : Bool) → eqb c.seq key ≡ b → leb c.deadline now ≡ d → any_of (waiting now key) (pick q (without key l) l) ≡ false → any_of (waiting now key) (pick (pick b d q) (pick b l (c ∷ without key l)) (c ∷ l)) ≡ false
      under true true q e f rest = alone_in e
      under true false q e f rest =
          let w : waiting now key c ≡ false = rw (e, f) in
          or_none w (alone_in e)
      under false d true e f rest = or_none (ap (λ v. v && leb c.deadline now) e) rest
      under false d false e f rest = or_none (ap (λ v. v && leb c.deadline now) e) rest

module _ (now : ℕ) (F : ℕ → ℕ → Type 0) where
  -- what a cutover brings may be due after it: the old epoch's drain, and the new epoch's final message
  -- and prompt repeats
  abbrev pub Cuts : State → Type 0
  Cuts t = is_pend_i t.cycle.kind ≡ true → F item_drain t.cur.ep.tag × F item_fin t.cycle.pendi.ep.tag × F item_elicit t.cycle.pendi.ep.tag

  pub record Moves (t : State) (kind key : ℕ) (t' : State) : Type 0 where
    -- no other item falls due
    pub less : (k x : ℕ) → due_at now t' k x ≡ true → (due_at now t k x ≡ true) ⊎ F k x
    -- this one is no longer due
    pub spent : due_at now t' kind key ≡ false
    pub cuts : Cuts t'
    pub init : is_init t'.cycle.kind ≡ true → is_init t.cycle.kind ≡ true

  -- ---- by the parts

  module _ (t t' : State) (k x : ℕ) where
    abbrev Less : Bool → Bool → Type 0
    Less a b = a ≡ true → (b ≡ true) ⊎ F k x

    by_parts :
        (k ≡ item_drain → Less (drain_at now t'.drain x) (drain_at now t.drain x))
        → (k ≡ item_candidate → Less (cands_at now t'.cands x) (cands_at now t.cands x))
        → (k ≡ item_fin → Less (fin_at now t'.cur x) (fin_at now t.cur x))
        → (k ≡ item_elicit → Less (elicit_at now t'.cur x) (elicit_at now t.cur x))
        → Less (cycle_at now t'.cycle k x) (cycle_at now t.cycle k x)
        → Less (due_at now t' k x) (due_at now t k x)
    unfolding due_at
    by_parts d v f e c =
        fewer (eqb k item_drain) (λ q. d (eqb-true k item_drain q))
        (λ _. fewer (eqb k item_candidate) (λ q. v (eqb-true k item_candidate q))
        (λ _. fewer (eqb k item_fin) (λ q. f (eqb-true k item_fin q))
        (λ _. fewer (eqb k item_elicit) (λ q. e (eqb-true k item_elicit q)) (λ _. c))))

  idle-none : (c : Cycle) (k x : ℕ) → cycle_at now (idled c) k x ≡ false
  idle-none c k x =
      neither (eqb k item_unadopted) (neither (eqb k item_held) (neither (eqb k item_probe) (neither (eqb k item_delayed)
      (neither (eqb k item_confirm) (neither (eqb k item_delay_end) (neither (eqb k item_resend) (neither (eqb k item_expire) refl)))))))

  module _ (t : State) (cut : Cuts t) where
    -- nothing changed, and the item was not due
    unmoved : (kind key : ℕ) → due_at now t kind key ≡ false → Moves t kind key t
    unmoved kind key e = record { less = λ k x d. inl d; spent = e; cuts = cut; init = λ i. i }

    -- the cycle alone
    with_cycle : (kind key : ℕ) (c : Cycle) → ((k x : ℕ) → cycle_at now c k x ≡ true → cycle_at now t.cycle k x ≡ true) → due_at now (put_cycle t c) kind key ≡ false → Cuts (put_cycle t c) → (is_init c.kind ≡ true → is_init t.cycle.kind ≡ true) → Moves t kind key (put_cycle t c)
    with_cycle kind key c f e u i =
        record {
          less = λ k x. by_parts t (put_cycle t c) k x (λ _ d. inl d) (λ _ d. inl d) (λ _ d. inl d) (λ _ d. inl d) (λ d. inl (f k x d));
          spent = e;
          cuts = u;
          init = i;
        }

    to-idle : (kind key : ℕ) → due_at now (put_cycle t (idled t.cycle)) kind key ≡ false → Moves t kind key (put_cycle t (idled t.cycle))
    to-idle kind key e = with_cycle kind key (idled t.cycle) (λ k x d. clash d (idle-none t.cycle k x)) e (λ i. absurd (false≢true i)) (λ i. absurd (false≢true i))

    -- ---- Drain

    drain-moves : (key : ℕ) → Moves t item_drain key (on_drain t (drain_due t.drain key)).state
    unfolding drain_due is_tag due_at
    drain-moves key =
        by-test (λ r. Moves t item_drain key (on_drain t r).state) (is_tag t.drain.some t.drain.ep.tag key) _ _
        (λ e. record {
          less = λ k x. by_parts t (put_drain t (record { some = false; ep = t.drain.ep; deadline = t.drain.deadline; evidenced = t.drain.evidenced })) k x (λ _ d. absurd (false≢true d)) (λ _ d. inl d) (λ _ d. inl d) (λ _ d. inl d) (λ d. inl d);
          spent = refl;
          cuts = cut;
          init = λ i. i;
        })
        (λ n. unmoved item_drain key
        (refute (drain_at now t.drain key) (λ d.
        let a = right t.drain.some _ d in
        clash (two (left t.drain.some _ d) (right (leb t.drain.deadline now) _ a)) n)))

    -- ---- Unadopted

    unadopted_moves : (key : ℕ) → Moves t item_unadopted key (on_cycle t (unadopted_due t.cycle key)).state
    unfolding unadopted_due is_peers is_tag due_at
    unadopted_moves key =
        by-test (λ r. Moves t item_unadopted key (on_cycle t r).state) (is_peers t.cycle key) _ _
        (λ e. to-idle item_unadopted key refl)
        (λ n. unmoved item_unadopted key
        (refute (unadopted_at now t.cycle key) (λ d.
        let a = right (is_pend_r t.cycle.kind) _ d in
        clash (two (left (is_pend_r t.cycle.kind) _ d) (right (leb t.cycle.pendr.deadline now) _ a)) n)))

    -- ---- Probe, Delayed and Resend: the ladder is moved past what is due

    abbrev c : Cycle
    c = t.cycle

    -- an own completed attempt of the tag
    own_held : (key : ℕ) → is_pend_i c.kind ≡ true → eqb c.pendi.ep.tag key ≡ true → is_own c key ≡ true
    unfolding is_own is_tag
    own_held key p q = two p q

    past : {X : Type 0} (l : Ladder) → ready now (take_of l now).ladder ≡ true → X
    past l e = clash e (take_past l now)

    took-probe : (w : When) (b : Bool) (key : ℕ) → Moves t item_probe key (put_cycle t (put_pend_i c (with_probes c.pendi (record { some = c.pendi.probes.some; ladder = (take_of c.pendi.probes.ladder now).ladder }) w b)))
    unfolding due_at
    took-probe w b key =
        with_cycle item_probe key _
        (λ k x. less (eqb k item_unadopted) (λ d. d) (less (eqb k item_held) (λ d. d) (less (eqb k item_probe) (λ d. absurd (gone x d)) (λ d. d))))
        (refute _ (gone key)) cut (λ i. i)
      where
        gone : (x : ℕ) → is_pend_i c.kind && (waits_evidence c.pendi.wait && (c.pendi.probes.some && (ready now (take_of c.pendi.probes.ladder now).ladder && eqb c.pendi.ep.tag x))) ≡ true → ⊥
        gone x d =
            let a = right (is_pend_i c.kind) _ d in
            let e = right (waits_evidence c.pendi.wait) _ a in
            past c.pendi.probes.ladder (left (ready now (take_of c.pendi.probes.ladder now).ladder) _ (right c.pendi.probes.some _ e))

    probe-moves : (is_pend_i c.kind ≡ true → t.cur.some ≡ true) → (g key : ℕ) → Moves t item_probe key (on_cycle t (probe_due c t.cur.some t.cur.ep.tag g key now)).state
    unfolding probe_due probing due_at
    probe-moves led g key =
        by-test (λ r. Moves t item_probe key (on_cycle t r).state) (and (and t.cur.some (and (is_own c key) c.pendi.probes.some)) (take_of c.pendi.probes.ladder now).any) _ _
        (λ e. by-test (λ r. Moves t item_probe key (on_cycle t r).state) (and (take_of c.pendi.probes.ladder now).send (not (late_for c.pendi g now))) _ _
        (λ q. took-probe (at now) false key)
        (λ q. took-probe c.pendi.probed c.pendi.stayed key))
        (λ n. unmoved item_probe key
        (refute (probe_at now c key) (λ d.
        let i = left (is_pend_i c.kind) _ d in
        let a = right (is_pend_i c.kind) _ d in
        let b = right (waits_evidence c.pendi.wait) _ a in
        let r = right c.pendi.probes.some _ b in
        clash (two (two (led i) (two (own_held key i (right (ready now c.pendi.probes.ladder) _ r)) (left c.pendi.probes.some _ b))) (take-any c.pendi.probes.ladder now (left (ready now c.pendi.probes.ladder) _ r))) n)))

    took-delayed : (key : ℕ) → Moves t item_delayed key (put_cycle t (put_pend_i c (with_fin c.pendi (moved_fin c.pendi.fin c.pendi.fin.some (take_of c.pendi.fin.ladder now).ladder))))
    unfolding due_at
    took-delayed key =
        with_cycle item_delayed key _
        (λ k x. less (eqb k item_unadopted) (λ d. d) (less (eqb k item_held) (λ d. d) (less (eqb k item_probe) (λ d. d) (less (eqb k item_delayed) (λ d. absurd (gone x d)) (λ d. d)))))
        (refute _ (gone key)) cut (λ i. i)
      where
        gone : (x : ℕ) → is_pend_i c.kind && (waits_delay c.pendi.wait && (c.pendi.fin.some && (ready now (take_of c.pendi.fin.ladder now).ladder && eqb c.pendi.ep.tag x))) ≡ true → ⊥
        gone x d =
            let a = right (is_pend_i c.kind) _ d in
            let e = right (waits_delay c.pendi.wait) _ a in
            past c.pendi.fin.ladder (left (ready now (take_of c.pendi.fin.ladder now).ladder) _ (right c.pendi.fin.some _ e))

    delayed-moves : (key : ℕ) → Moves t item_delayed key (on_cycle t (delayed_due c key now)).state
    unfolding delayed_due due_at
    delayed-moves key =
        by-test (λ r. Moves t item_delayed key (on_cycle t r).state) (and (and (is_own c key) c.pendi.fin.some) (take_of c.pendi.fin.ladder now).any) _ _
        (λ e. took-delayed key)
        (λ n. unmoved item_delayed key
        (refute (delayed_at now c key) (λ d.
        let i = left (is_pend_i c.kind) _ d in
        let b = right (waits_delay c.pendi.wait) _ (right (is_pend_i c.kind) _ d) in
        let r = right c.pendi.fin.some _ b in
        clash (two (two (own_held key i (right (ready now c.pendi.fin.ladder) _ r)) (left c.pendi.fin.some _ b)) (take-any c.pendi.fin.ladder now (left (ready now c.pendi.fin.ladder) _ r))) n)))

    took_resend : (b : Bool) (key : ℕ) → Moves t item_resend key (put_cycle t (put_init c (moved_init c.init (take_of c.init.ladder now).ladder b)))
    unfolding due_at
    took_resend b key =
        with_cycle item_resend key _
        (λ k x.
        less (eqb k item_unadopted) (λ d. d) (less (eqb k item_held) (λ d. d) (less (eqb k item_probe) (λ d. d) (less (eqb k item_delayed) (λ d. d)
        (less (eqb k item_confirm) (λ d. d) (less (eqb k item_delay_end) (λ d. d) (less (eqb k item_resend) (λ d. absurd (gone x d)) (λ d. d))))))))
        (refute _ (gone key)) cut (λ i. i)
      where
        gone : (x : ℕ) → is_init c.kind && (ltb now c.init.deadline && (ready now (take_of c.init.ladder now).ladder && eqb x 0)) ≡ true → ⊥
        gone x d =
            let a = right (is_init c.kind) _ d in
            past c.init.ladder (left (ready now (take_of c.init.ladder now).ladder) _ (right (ltb now c.init.deadline) _ a))

    resend_moves : (held : Bool) (young messages key : ℕ) → Moves t item_resend key (on_cycle t (resend_due c held young messages now)).state
    unfolding resend_due resend_taken due_at
    resend_moves held young messages key =
        by-test (λ r. Moves t item_resend key (on_cycle t r).state) (and (and (is_init c.kind) (ltb now c.init.deadline)) (take_of c.init.ladder now).any) _ _
        (λ e. by-test (λ r. Moves t item_resend key (on_cycle t r).state) (and held (ltb (take_of c.init.ladder now).latest young)) _ _
        (λ q. took_resend c.init.resent key)
        (λ q. took_resend true key))
        (λ n. unmoved item_resend key
        (refute (resend_at now c key) (λ d.
        let a = right (is_init c.kind) _ d in
        let r = right (ltb now c.init.deadline) _ a in
        clash (two (two (left (is_init c.kind) _ d) (left (ltb now c.init.deadline) _ a)) (take-any c.init.ladder now (left (ready now c.init.ladder) _ r))) n)))

    -- ---- Expire

    with_mem : (kind key : ℕ) (t' : State) (m : Memory) → Moves t kind key t' → Moves t kind key (put_mem t' m)
    unfolding due_at
    with_mem kind key t' m o = record { less = o.less; spent = o.spent; cuts = o.cuts; init = o.init }

    expire_moves : (cfg : Config) (only : Bool) (extra key : ℕ) → Moves t item_expire key (on_fail t (expire_due c t.mem cfg only now extra)).state
    unfolding expire_due due_at
    expire_moves cfg only extra key =
        by-test (λ r. Moves t item_expire key (on_fail t r).state) (and (is_init c.kind) (leb c.init.deadline now)) _ _
        (λ e. with_mem item_expire key (put_cycle t (idled c)) (abandoned_mem t.mem cfg now extra) (to-idle item_expire key refl))
        (λ n. unmoved item_expire key
        (refute (expire_at now c key) (λ d.
        let a = right (is_init c.kind) _ d in
        clash (two (left (is_init c.kind) _ d) (left (leb c.init.deadline now) _ a)) n)))

    -- ---- Fin and Elicit

    with_cur : (kind key : ℕ) (e : MayEpoch) → ((x : ℕ) → fin_at now e x ≡ true → fin_at now t.cur x ≡ true) → ((x : ℕ) → elicit_at now e x ≡ true → elicit_at now t.cur x ≡ true) → due_at now (put_cur t e) kind key ≡ false → e.ep.tag ≡ t.cur.ep.tag → Moves t kind key (put_cur t e)
    with_cur kind key e f l d q =
        record {
          less = λ k x. by_parts t (put_cur t e) k x (λ _ d. inl d) (λ _ d. inl d) (λ _ d. inl (f x d)) (λ _ d. inl (l x d)) (λ d. inl d);
          spent = d;
          cuts = λ i. let u = cut i in (subst (F item_drain) (sym q) u.0, u.1, u.2);
          init = λ i. i;
        }

    took-fin : (b : Bool) (key : ℕ) → Moves t item_fin key (put_cur t (put_ep t.cur (put_fin t.cur.ep (moved_fin t.cur.ep.fin b (take_of t.cur.ep.fin.ladder now).ladder))))
    unfolding due_at
    took-fin b key = with_cur item_fin key _ (λ x d. absurd (gone x d)) (λ x d. d) (refute _ (gone key)) refl
      where
        gone : (x : ℕ) → t.cur.some && (b && (ready now (take_of t.cur.ep.fin.ladder now).ladder && eqb t.cur.ep.tag x)) ≡ true → ⊥
        gone x d = past t.cur.ep.fin.ladder (left (ready now (take_of t.cur.ep.fin.ladder now).ladder) _ (right b _ (right t.cur.some _ d)))

    fin-moves : (key : ℕ) → Moves t item_fin key (on_cur t (fin_due t.cur key now)).state
    unfolding fin_due fin_taken is_tag due_at
    fin-moves key =
        by-test (λ r. Moves t item_fin key (on_cur t r).state) (and (and (is_tag t.cur.some t.cur.ep.tag key) t.cur.ep.fin.some) (take_of t.cur.ep.fin.ladder now).any) _ _
        (λ e. with_mem item_fin key _ _ (took-fin (not (take_of t.cur.ep.fin.ladder now).last) key))
        (λ n. with_mem item_fin key t _ (unmoved item_fin key
        (refute (fin_at now t.cur key) (λ d.
        let a = right t.cur.some _ d in
        let r = right t.cur.ep.fin.some _ a in
        clash (two (two (two (left t.cur.some _ d) (right (ready now t.cur.ep.fin.ladder) _ r)) (left t.cur.ep.fin.some _ a)) (take-any t.cur.ep.fin.ladder now (left (ready now t.cur.ep.fin.ladder) _ r))) n))))

    took-elicit : (b : Bool) (key : ℕ) → Moves t item_elicit key (put_cur t (put_ep t.cur (put_elicit t.cur.ep (record { some = b; ladder = (take_of t.cur.ep.elicit.ladder now).ladder }) (at now))))
    unfolding due_at
    took-elicit b key = with_cur item_elicit key _ (λ x d. d) (λ x d. absurd (gone x d)) (refute _ (gone key)) refl
      where
        gone : (x : ℕ) → t.cur.some && (not t.cur.ep.moved.some && (b && (ready now (take_of t.cur.ep.elicit.ladder now).ladder && eqb t.cur.ep.tag x))) ≡ true → ⊥
        gone x d =
            past t.cur.ep.elicit.ladder (left (ready now (take_of t.cur.ep.elicit.ladder now).ladder) _ (right b _ (right (not t.cur.ep.moved.some) _ (right t.cur.some _ d))))

    elicit-moves : (key : ℕ) → Moves t item_elicit key (on_cur t (elicit_due t.cur key now)).state
    unfolding elicit_due elicit_taken is_tag due_at
    elicit-moves key =
        by-test (λ r. Moves t item_elicit key (on_cur t r).state) (and (and (is_tag t.cur.some t.cur.ep.tag key) (and (not t.cur.ep.moved.some) t.cur.ep.elicit.some)) (take_of t.cur.ep.elicit.ladder now).any) _ _
        (λ e. with_mem item_elicit key _ _ (took-elicit (not (take_of t.cur.ep.elicit.ladder now).last) key))
        (λ n. with_mem item_elicit key t _ (unmoved item_elicit key
        (refute (elicit_at now t.cur key) (λ d.
        let a = right t.cur.some _ d in
        let b = right (not t.cur.ep.moved.some) _ a in
        let r = right t.cur.ep.elicit.some _ b in
        clash (two (two (two (left t.cur.some _ d) (right (ready now t.cur.ep.elicit.ladder) _ r)) (two (left (not t.cur.ep.moved.some) _ a) (left t.cur.ep.elicit.some _ b))) (take-any t.cur.ep.elicit.ladder now (left (ready now t.cur.ep.elicit.ladder) _ r))) n))))

    -- ---- Candidate: each number is held once

    with_cands : (kind key : ℕ) (v : Candidates) → ((x : ℕ) → cands_at now v x ≡ true → cands_at now t.cands x ≡ true) → due_at now (put_cands t v) kind key ≡ false → Moves t kind key (put_cands t v)
    with_cands kind key v f d =
        record {
          less = λ k x. by_parts t (put_cands t v) k x (λ _ d. inl d) (λ _ d. inl (f x d)) (λ _ d. inl d) (λ _ d. inl d) (λ d. inl d);
          spent = d;
          cuts = cut;
          init = λ i. i;
        }

    candidate_moves : repeated (numbers (held_by t.cands)) ≡ false → (key : ℕ) → Moves t item_candidate key (candidate_due t key now).state
    unfolding candidate_due due_at
    candidate_moves once key =
        with_cands item_candidate key (expire_of t.cands key now).cands
        (λ x d. among_those now key x (held_by t.cands) (sym (ap (any_of (waiting now x)) (held_expire t.cands key now)) ∙ d))
        (ap (any_of (waiting now key)) (held_expire t.cands key now) ∙ none_left now key (held_by t.cands) once)

    -- ---- the cutovers

    module _ (g : Given) (same-now : g.now ≡ now) (spread : ℤ) (i : is_pend_i c.kind ≡ true) where
      pruned-less : (evidence x : ℕ) → cands_at now (pruned t.cands evidence g.profile.smaller) x ≡ true → cands_at now t.cands x ≡ true
      unfolding pruned any_of
      pruned-less evidence x = under (prunes evidence g.profile.smaller)
        where
          under : (b : Bool) → cands_at now (pick b (cleared_of t.cands) t.cands) x ≡ true → cands_at now t.cands x ≡ true
          under true d = absurd (false≢true (sym (ap (any_of (waiting now x)) (held_cleared t.cands)) ∙ d))
          under false d = d

      -- a tag that was read
      tagged : (j a k x : ℕ) → k ≡ j → eqb a x ≡ true → F j a → F k x
      tagged j a k x p q f = subst (λ n. F n x) (sym p) (subst (F j) (eqb-true a x q) f)

      cut-moves : (evidence kind key : ℕ) → due_at now (cut_by t g spread evidence).state kind key ≡ false → Moves t kind key (cut_by t g spread evidence).state
      unfolding cut_by cutover_of demoted adopted kept_fin
      cut-moves evidence kind key e =
          record {
            less = λ k x.
                by_parts t (cut_by t g spread evidence).state k x
                (λ p d. inr (tagged item_drain t.cur.ep.tag k x p (right (leb (demoted t.cur.ep c.pendi.restart evidence g.cfg g.now).deadline now) _ (right (not c.pendi.restart) _ d)) (cut i).0))
                (λ _ d. inl (pruned-less evidence x d))
                (λ p d. inr (tagged item_fin c.pendi.ep.tag k x p (right (ready now c.pendi.fin.ladder) _ (right (kept_fin c.pendi.fin evidence).some _ d)) (cut i).1))
                (λ p d. inr (tagged item_elicit c.pendi.ep.tag k x p (right (ready now (adopted c.pendi.ep c.pendi.fin evidence g.cfg g.now).elicit.ladder) _ (right (adopted c.pendi.ep c.pendi.fin evidence g.cfg g.now).elicit.some _ (right (not (adopted c.pendi.ep c.pendi.fin evidence g.cfg g.now).moved.some) _ d))) (cut i).2))
                (λ d. absurd (clash d (idle-none c k x)));
            spent = e;
            cuts = λ q. absurd (false≢true q);
            init = λ q. absurd (false≢true q);
          }

      assumed-moves : (kind key : ℕ) → due_at now (cut_by t g spread 3).state kind key ≡ false → Moves t kind key (assumed t g spread).state
      unfolding assumed due_at
      assumed-moves kind key e = let m = cut-moves 3 kind key e in record { less = m.less; spent = m.spent; cuts = m.cuts; init = m.init }

    own : (key : ℕ) (b : Bool) → and (is_own c key) b ≡ true → is_pend_i c.kind ≡ true
    unfolding is_own is_tag
    own key b e = and_left (is_pend_i c.kind) (eqb c.pendi.ep.tag key) (and_left (is_own c key) b e)

    module _ (g : Given) (same-now : g.now ≡ now) (spread : ℤ) where
      held-moves : (key : ℕ) → Moves t item_held key (held_due t g spread key).state
      unfolding held_due due_at cut_by cutover_of
      held-moves key =
          by-test (λ (r : Step). Moves t item_held key r.state) (and (is_own c key) (waits_held c.pendi.wait)) (cut_by t g spread 0) (stay t)
          (λ e. cut-moves g same-now spread (own key (waits_held c.pendi.wait) e) 0 item_held key refl)
          (λ n. unmoved item_held key
          (refute (held_at now c key) (λ d.
          let a = right (is_pend_i c.kind) _ d in
          clash (two (own_held key (left (is_pend_i c.kind) _ d) (right (leb c.pendi.deadline now) _ (right (waits_held c.pendi.wait) _ a))) (left (waits_held c.pendi.wait) _ a)) n)))

      delay-moves : (key : ℕ) → Moves t item_delay_end key (delay_end t g spread key).state
      unfolding delay_end due_at cut_by cutover_of
      delay-moves key =
          by-test (λ (r : Step). Moves t item_delay_end key r.state) (and (is_own c key) (waits_delay c.pendi.wait)) (cut_by t g spread 4) (stay t)
          (λ e. cut-moves g same-now spread (own key (waits_delay c.pendi.wait) e) 4 item_delay_end key refl)
          (λ n. unmoved item_delay_end key
          (refute (delay_end_at now c key) (λ d.
          let a = right (is_pend_i c.kind) _ d in
          clash (two (own_held key (left (is_pend_i c.kind) _ d) (right (leb c.pendi.deadline now) _ (right (waits_delay c.pendi.wait) _ a))) (left (waits_delay c.pendi.wait) _ a)) n)))

      unconfirmed-moves : (key : ℕ) → Moves t item_confirm key (unconfirmed t).state
      unfolding unconfirmed due_at
      unconfirmed-moves key = with_mem item_confirm key (put_cycle t (idled c)) (due_mem t.mem true) (to-idle item_confirm key refl)

      confirm-moves : (key : ℕ) → Moves t item_confirm key (confirm_due t g spread key).state
      unfolding confirm_due due_at cut_by cutover_of
      confirm-moves key =
          by-test (λ (r : Step). Moves t item_confirm key r.state) (and (is_own c key) (and (waits_evidence c.pendi.wait) (leb c.pendi.deadline g.now))) (pick (pick c.pendi.stayed true c.pendi.reverted) (unconfirmed t) (assumed t g spread)) (stay t)
          (λ e. by-test (λ (r : Step). Moves t item_confirm key r.state) (pick c.pendi.stayed true c.pendi.reverted) (unconfirmed t) (assumed t g spread)
          (λ q. unconfirmed-moves key)
          (λ q. assumed-moves g same-now spread (own key (and (waits_evidence c.pendi.wait) (leb c.pendi.deadline g.now)) e) item_confirm key refl))
          (λ n. unmoved item_confirm key
          (refute (confirm_at now c key) (λ d.
          let a = right (is_pend_i c.kind) _ d in
          let b = right (waits_evidence c.pendi.wait) _ a in
          clash (two (own_held key (left (is_pend_i c.kind) _ d) (right (leb c.pendi.deadline now) _ b)) (two (left (waits_evidence c.pendi.wait) _ a) (rw same-now (left (leb c.pendi.deadline now) _ b)))) n)))

-- ---- an item

module _ (F : ℕ → ℕ → Type 0) (g : Given) (spread : ℤ) (t : State) (o : Sound t) (cut : Cuts g.now F t) where
  abbrev After : ℕ → ℕ → Step → Type 0
  After kind key r = Moves g.now F t kind key r.state

  -- a kind that was tested
  of_kind : (kind key : ℕ) (s : State) (j : ℕ) → eqb kind j ≡ true → Moves g.now F t j key s → Moves g.now F t kind key s
  of_kind kind key s j e m = subst (λ k. Moves g.now F t k key s) (sym (eqb-true kind j e)) m

  low-moves : (kind key : ℕ) → kind < 6 → eqb kind 1 ≡ false → After kind key (low_step t g spread kind key)
  unfolding low_step
  low-moves kind key h one =
      by-test (After kind key) (eqb kind 0) _ _ (λ e. of_kind kind key _ 0 e (drain-moves g.now F t cut key))
      (λ a. by-test (After kind key) (eqb kind 2) _ _ (λ e. of_kind kind key _ 2 e (unadopted_moves g.now F t cut key))
      (λ b. by-test (After kind key) (eqb kind 3) _ _ (λ e. of_kind kind key _ 3 e (held-moves g.now F t cut g refl spread key))
      (λ d. by-test (After kind key) (eqb kind 4) _ _ (λ e. of_kind kind key _ 4 e (probe-moves g.now F t cut o.pendi-led (grace t.mem g.cfg) key))
      (λ f. of_kind kind key _ 5 (eq-eqb kind 5 (omega (arith, eqb-false kind 0 a, eqb-false kind 1 one, eqb-false kind 2 b, eqb-false kind 3 d, eqb-false kind 4 f))) (delayed-moves g.now F t cut key)))))

  -- no item has a kind above Expire
  far : (s : State) (kind key : ℕ) → 11 < kind → due_at g.now s kind key ≡ false
  unfolding due_at
  far s kind key h =
      rw (ne_eqb kind 0 (λ e. omega arith), ne_eqb kind 1 (λ e. omega arith), ne_eqb kind 6 (λ e. omega arith), ne_eqb kind 7 (λ e. omega arith), ne_eqb kind 2 (λ e. omega arith), ne_eqb kind 3 (λ e. omega arith), ne_eqb kind 4 (λ e. omega arith), ne_eqb kind 5 (λ e. omega arith), ne_eqb kind 8 (λ e. omega arith), ne_eqb kind 9 (λ e. omega arith), ne_eqb kind 10 (λ e. omega arith), ne_eqb kind 11 (λ e. omega arith))

  last-moves : (kind key : ℕ) → 10 < kind → After kind key (on_fail t (expire_due t.cycle t.mem g.cfg (alone t) g.now g.extra))
  last-moves kind key h =
      let m = expire_moves g.now F t cut g.cfg (alone t) g.extra key in
      ⊎_elim
      (λ l. of_kind kind key _ 11 (eq-eqb kind 11 (omega arith)) m)
      (λ l. record { less = m.less; spent = far _ kind key l; cuts = m.cuts; init = m.init })
      (decide kind 11)

  high-moves : (kind key : ℕ) → 6 ≤ kind → After kind key (high_step t g spread kind key)
  unfolding high_step
  high-moves kind key h =
      by-test (After kind key) (eqb kind 6) _ _ (λ e. of_kind kind key _ 6 e (fin-moves g.now F t cut key))
      (λ a. by-test (After kind key) (eqb kind 7) _ _ (λ e. of_kind kind key _ 7 e (elicit-moves g.now F t cut key))
      (λ b. by-test (After kind key) (eqb kind 8) _ _ (λ e. of_kind kind key _ 8 e (confirm-moves g.now F t cut g refl spread key))
      (λ d. by-test (After kind key) (eqb kind 9) _ _ (λ e. of_kind kind key _ 9 e (delay-moves g.now F t cut g refl spread key))
      (λ f. by-test (After kind key) (eqb kind 10) _ _ (λ e. of_kind kind key _ 10 e (resend_moves g.now F t cut (holds t g.profile.smaller) g.cfg.young g.profile.messages key))
      (λ q. last-moves kind key (omega (arith, eqb-false kind 6 a, eqb-false kind 7 b, eqb-false kind 8 d, eqb-false kind 9 f, eqb-false kind 10 q)))))))

  pub item-moves : (kind key : ℕ) → After kind key (item_step t g spread kind key)
  unfolding item_step other_step
  item-moves kind key =
      by-test (After kind key) (eqb kind 1) (candidate_due t key g.now) (other_step t g spread kind key)
      (λ e. of_kind kind key _ 1 e (candidate_moves g.now F t cut (ap repeated (numbers-held t.cands) ∙ o.seqs) key))
      (λ n. by-test (After kind key) (ltb kind 6) (low_step t g spread kind key) (high_step t g spread kind key)
      (λ l. low-moves kind key (ltb-true kind 6 l) n)
      (λ l. high-moves kind key (ltb-false kind 6 l)))

-- ---- the end of a link: only an attempt that expires

module _ (t : State) (g : Given) (spread : ℤ) where
  abbrev Ends : Step → Type 0
  Ends r = r.ends ≡ true → is_init t.cycle.kind ≡ true

  no : {b : Bool} → b ≡ false → b ≡ true → is_init t.cycle.kind ≡ true
  no p e = clash e p

  either : (b : Bool) (x y : Step) → Ends x → Ends y → Ends (pick b x y)
  either b x y p q = by-test Ends b x y (λ _. p) (λ _. q)

  held-ends : (key : ℕ) → Ends (held_due t g spread key)
  unfolding held_due cut_by
  held-ends key = either (and (is_own t.cycle key) (waits_held t.cycle.pendi.wait)) (cut_by t g spread 0) (stay t) (no refl) (no refl)

  delay-ends : (key : ℕ) → Ends (delay_end t g spread key)
  unfolding delay_end cut_by
  delay-ends key = either (and (is_own t.cycle key) (waits_delay t.cycle.pendi.wait)) (cut_by t g spread 4) (stay t) (no refl) (no refl)

  confirm-ends : (key : ℕ) → Ends (confirm_due t g spread key)
  unfolding confirm_due unconfirmed assumed
  confirm-ends key =
      either (and (is_own t.cycle key) (and (waits_evidence t.cycle.pendi.wait) (leb t.cycle.pendi.deadline g.now))) (pick (pick t.cycle.pendi.stayed true t.cycle.pendi.reverted) (unconfirmed t) (assumed t g spread)) (stay t)
      (either (pick t.cycle.pendi.stayed true t.cycle.pendi.reverted) (unconfirmed t) (assumed t g spread) (no refl) (no refl)) (no refl)

  expire_ends : Ends (on_fail t (expire_due t.cycle t.mem g.cfg (alone t) g.now g.extra))
  unfolding expire_due
  expire_ends =
      by-test (λ r. Ends (on_fail t r)) (and (is_init t.cycle.kind) (leb t.cycle.init.deadline g.now)) _ _
      (λ e _. and_left (is_init t.cycle.kind) (leb t.cycle.init.deadline g.now) e) (λ n. no refl)

  pub ends-init : (kind key : ℕ) → Ends (item_step t g spread kind key)
  unfolding item_step other_step low_step high_step candidate_due
  ends-init kind key =
      either (eqb kind 1) _ _ (no refl)
      (either (ltb kind 6) _ _
      (either (eqb kind 0) _ _ (no refl) (either (eqb kind 2) _ _ (no refl) (either (eqb kind 3) _ _ (held-ends key) (either (eqb kind 4) _ _ (no refl) (no refl)))))
      (either (eqb kind 6) _ _ (no refl) (either (eqb kind 7) _ _ (no refl) (either (eqb kind 8) _ _ (confirm-ends key) (either (eqb kind 9) _ _ (delay-ends key) (either (eqb kind 10) _ _ (no refl) expire_ends))))))
