-- `due` names an item of a kind and a key, reached at now, exactly where one is due by the parts.
use Prim.Native.Nat.{ℕ}
use Rattle.std.specs.Prelude.{Bool, ◌&&◌, ◌||◌, ◌⊎◌, ◌≡◌, ltb, eqb}
use Rattle.std.proofs.Math.Bool.{true, false, not, false≢true}
use Rattle.std.proofs.Math.Logic.{inl, inr}
use Rattle.std.proofs.Common.{⊎_elim, sym, ◌∙◌, ap, arith}
use Rattle.std.proofs.Math.Path.{refl}
use mathlib.Core.List.{List, [], ◌∷◌, ◌++◌}
use borrow.Author.Tests.{leb-false, lt-ltb, not-true, eqb-true, eq-eqb}
use Rattle.std.proofs.Math.Dec.{leb}
use Rattle.time.specs.declared.When.{When}
use Rattle.time.specs.Pick.{pick}
use Rattle.time.specs.Lists.{kept}
use Rattle.time.specs.Time.{reached_of}
use Rattle.ladder.specs.declared.Ladder.{Ladder}
use Rattle.ladder.specs.Ladder.{next_at_of}
use Rattle.numbers.specs.Numbers.{item_drain, item_candidate, item_unadopted, item_held, item_probe, item_delayed, item_fin, item_elicit, item_confirm, item_delay_end, item_resend, item_expire}
use Rattle.cycle.specs.declared.PendI.{PendI}
use Rattle.cycle.specs.declared.Cycle.{Cycle}
use Rattle.cycle.specs.Kind.{is_init, is_pend_i, is_pend_r, waits_held, waits_evidence, waits_delay}
use Rattle.candidates.specs.Held.{Candidate, held_by}
use Rattle.items.specs.Items.{Item, item, listed_in}
use Rattle.state.specs.declared.State.{State}
use Rattle.state.specs.Parts.{listed}
use Rattle.start.specs.Start.{instants}
use Rattle.refusal.specs.Refusal.{any_of}
use Rattle.refusal.proofs.Standing.{other-kind}
use Rattle.wake.specs.Due.{ladder_instants, may_instants, fin_instants, elicit_instants, items_at, drain_items, candidate_items, pending_items, cycle_items, current_items, named, is_due, due_items, some_in, any_due}
use Rattle.poll_listing.specs.Listing.{unlisted, fresh, pass_items}
use Rattle.law_exact.specs.Reads.{Each, Some}
use Rattle.law_clear.specs.Lists.{each_append, each-listed, each-pick, each-kept, each-tested, each-sorted, some_left, some_right, each_of, some_of}
use Rattle.law_clear.specs.Due.{ready, drain_at, waiting, cands_at, fin_at, elicit_at, unadopted_at, held_at, probe_at, delayed_at, confirm_at, delay_end_at, resend_at, expire_at, due_at}

-- ---- tests

pub both : {a b : Bool} → a ≡ true → b ≡ true → a && b ≡ true
both p q = rw (p, q)

pub left : (a b : Bool) → a && b ≡ true → a ≡ true
left true b e = refl
left false b e = e

pub right : (a b : Bool) → a && b ≡ true → b ≡ true
right true b e = e
right false b e = absurd (false≢true e)

-- a choice that holds, by which it was
pub picked : {X : Type 0} (b : Bool) {x y : Bool} → pick b x y ≡ true → (b ≡ true → x ≡ true → X) → (b ≡ false → y ≡ true → X) → X
picked true e f g = f refl e
picked false e f g = g refl e

same : (x : ℕ) → eqb x x ≡ true
same x = eq-eqb x x refl

-- ---- an item that is named and reached is due

module _ (now : ℕ) (s : State) where
  -- an item of that kind and key is due; a resend may be named where its attempt expires instead
  abbrev pub Told : ℕ → ℕ → Type 0
  Told k x = (due_at now s k x ≡ true) ⊎ ((k ≡ item_resend) × (due_at now s item_expire 0 ≡ true))

  -- so is one that `due` names, where it is reached
  abbrev Tells : Item → Type 0
  Tells y = leb y.at now ≡ true → Told y.kind y.key

  each-one : (k x t : ℕ) → (leb t now ≡ true → Told k x) → Each Tells (items_at k x (t ∷ []))
  each-one k x t f = (f, tt)

  each-when : (k x : ℕ) (w : When) → (reached_of w now ≡ true → Told k x) → Each Tells (items_at k x (instants w))
  each-when k x w f =
      each_of Tells (λ t. item t k x) (instants w) (each-listed (λ t. Tells (item t k x)) w.some w.at (λ e l. f (rw e l)))

  each-may : (k x : ℕ) (b : Bool) (l : Ladder) → (b ≡ true → ready now l ≡ true → Told k x) → Each Tells (items_at k x (pick b (instants (next_at_of l)) []))
  each-may k x true l f = each-when k x (next_at_of l) (f refl)
  each-may k x false l f = tt

  drain-tells : Each Tells (drain_items s)
  unfolding drain_items due_at
  drain-tells = under s.drain.some refl
    where
      under : (b : Bool) → s.drain.some ≡ b → Each Tells (items_at item_drain s.drain.ep.tag (listed b s.drain.deadline))
      under true e = (λ l. inl (both e (both l (same s.drain.ep.tag))), tt)
      under false e = tt

  candidate_tells : Each Tells (candidate_items s)
  unfolding candidate_items due_at any_of
  candidate_tells = each_of Tells (λ c. item c.deadline item_candidate c.seq) (held_by s.cands) (under (held_by s.cands) (λ x e. inl e))
    where
      rest : (b : Bool) {d : Bool} → d ≡ true → b || d ≡ true
      rest true e = refl
      rest false e = e

      under : (l : List Candidate) → ((x : ℕ) → any_of (waiting now x) l ≡ true → Told item_candidate x) → Each (λ c. Tells (item c.deadline item_candidate c.seq)) l
      under [] f = tt
      under (c ∷ l) f = (λ q. f c.seq (rw (same c.seq, q)), under l (λ x e. f x (rest (waiting now x c) e)))

  current-tells : Each Tells (current_items s.cur)
  unfolding current_items fin_instants elicit_instants may_instants ladder_instants due_at
  current-tells =
      each-pick Tells s.cur.some _ []
      (λ e.
      each_append Tells (items_at item_fin tag (pick s.cur.ep.fin.some (instants (next_at_of s.cur.ep.fin.ladder)) [])) _
      (each-may item_fin tag s.cur.ep.fin.some s.cur.ep.fin.ladder (λ f r. inl (both e (both f (both r (same tag))))))
      (moved s.cur.ep.moved.some refl e))
      (λ e. tt)
    where
      tag : ℕ
      tag = s.cur.ep.tag

      moved : (b : Bool) → s.cur.ep.moved.some ≡ b → s.cur.some ≡ true → Each Tells (items_at item_elicit tag (pick b [] (pick s.cur.ep.elicit.some (instants (next_at_of s.cur.ep.elicit.ladder)) [])))
      moved true m e = tt
      moved false m e = each-may item_elicit tag s.cur.ep.elicit.some s.cur.ep.elicit.ladder (λ f r. inl (both e (both (ap not m) (both f (both r (same tag))))))

  abbrev c : Cycle
  c = s.cycle

  init-tells : is_init c.kind ≡ true → Each Tells (items_at item_resend 0 (ladder_instants c.init.ladder) ++ items_at item_expire 0 (c.init.deadline ∷ []))
  unfolding ladder_instants due_at
  init-tells e =
      each_append Tells (items_at item_resend 0 (instants (next_at_of c.init.ladder))) _
      (each-when item_resend 0 (next_at_of c.init.ladder) (λ r. late (leb c.init.deadline now) refl r))
      (each-one item_expire 0 c.init.deadline (λ l. inl (both e (both l refl))))
    where
      late : (b : Bool) → leb c.init.deadline now ≡ b → ready now c.init.ladder ≡ true → Told item_resend 0
      late true l r = inr (refl, both e (both l refl))
      late false l r = inl (both e (both (lt-ltb now c.init.deadline (leb-false c.init.deadline now l)) (both r refl)))

  pending-tells : is_pend_i c.kind ≡ true → Each Tells (pending_items c.pendi)
  unfolding pending_items may_instants fin_instants ladder_instants due_at
  pending-tells e = under (waits_held c.pendi.wait) (waits_evidence c.pendi.wait) refl refl
    where
      p : PendI
      p = c.pendi

      tag : ℕ
      tag = p.ep.tag

      delays : waits_held p.wait ≡ false → waits_evidence p.wait ≡ false → waits_delay p.wait ≡ true
      delays h v = rw (h, v)

      under :
          (h v : Bool) → waits_held p.wait ≡ h → waits_evidence p.wait ≡ v
          → Each Tells (pick h (items_at item_held tag (p.deadline ∷ [])) (pick v (items_at item_probe tag (pick p.probes.some (instants (next_at_of p.probes.ladder)) []) ++ items_at item_confirm tag (p.deadline ∷ [])) (items_at item_delayed tag (pick p.fin.some (instants (next_at_of p.fin.ladder)) []) ++ items_at item_delay_end tag (p.deadline ∷ []))))
      under true v h₀ v₀ = each-one item_held tag p.deadline (λ l. inl (both e (both h₀ (both l (same tag)))))
      under false true h₀ v₀ =
          each_append Tells (items_at item_probe tag (pick p.probes.some (instants (next_at_of p.probes.ladder)) [])) _
          (each-may item_probe tag p.probes.some p.probes.ladder (λ f r. inl (both e (both v₀ (both f (both r (same tag)))))))
          (each-one item_confirm tag p.deadline (λ l. inl (both e (both v₀ (both l (same tag))))))
      under false false h₀ v₀ =
          each_append Tells (items_at item_delayed tag (pick p.fin.some (instants (next_at_of p.fin.ladder)) [])) _
          (each-may item_delayed tag p.fin.some p.fin.ladder (λ f r. inl (both e (both (delays h₀ v₀) (both f (both r (same tag)))))))
          (each-one item_delay_end tag p.deadline (λ l. inl (both e (both (delays h₀ v₀) (both l (same tag))))))

  cycle-tells : Each Tells (cycle_items c)
  unfolding cycle_items due_at
  cycle-tells =
      each-pick Tells (is_init c.kind) _ _ init-tells
      (λ n. each-pick Tells (is_pend_i c.kind) _ _ pending-tells
      (λ m. each-pick Tells (is_pend_r c.kind) _ []
      (λ e. each-one item_unadopted c.pendr.ep.tag c.pendr.deadline (λ l. inl (both e (both l (same c.pendr.ep.tag)))))
      (λ q. tt)))

  named-tells : Each Tells (named s)
  unfolding named
  named-tells =
      each_append Tells (drain_items s) _ drain-tells
      (each_append Tells (candidate_items s) _ candidate_tells
      (each_append Tells (cycle_items c) (current_items s.cur) cycle-tells current-tells))

  -- where none is due, none is listed
  pub none-due : ((k x : ℕ) → due_at now s k x ≡ false) → any_due s now ≡ false
  unfolding any_due due_items kept
  none-due f = under (named s) named-tells
    where
      under : (l : List Item) → Each Tells l → some_in (kept (is_due now) l) ≡ false
      under [] h = refl
      under (y ∷ l) h = one (leb y.at now) h.0 (under l h.1)
        where
          one : (b : Bool) → (b ≡ true → Told y.kind y.key) → some_in (kept (is_due now) l) ≡ false → some_in (pick b (y ∷ kept (is_due now) l) (kept (is_due now) l)) ≡ false
          one true t rest = absurd (⊎_elim (λ e. false≢true (sym (f y.kind y.key) ∙ e)) (λ e. false≢true (sym (f item_expire 0) ∙ e.1)) (t refl))
          one false t rest = rest

  -- each item that a pass lists is due
  pub listed-told : (done : List Item) → Each (λ y. Told y.kind y.key) (pass_items done s now)
  unfolding pass_items fresh due_items
  listed-told done =
      each-sorted (λ y. Told y.kind y.key) (unlisted done (kept (is_due now) (named s)))
      (each-kept (λ y. Told y.kind y.key) (λ i. not (listed_in i done)) (kept (is_due now) (named s))
      (each-tested (λ y. Told y.kind y.key) (is_due now) (named s) named-tells))

-- ---- an item that is due is named, and reached

module _ (now : ℕ) (s : State) (k x : ℕ) where
  -- of that kind and key, and reached
  abbrev pub Reached : Item → Type 0
  Reached y = (y.kind ≡ k) × (y.key ≡ x) × (leb y.at now ≡ true)

  some-when : (w : When) → reached_of w now ≡ true → Some Reached (items_at k x (instants w))
  some-when w e = under w.some e
    where
      under : (b : Bool) → pick b (leb w.at now) false ≡ true → Some Reached (items_at k x (listed b w.at))
      under true e = inl (refl, refl, e)
      under false e = absurd (false≢true e)

  some-may : (b : Bool) (l : Ladder) → b ≡ true → ready now l ≡ true → Some Reached (items_at k x (pick b (instants (next_at_of l)) []))
  some-may true l f e = some-when (next_at_of l) e
  some-may false l f e = absurd (false≢true f)

  named-drain : Some Reached (drain_items s) → Some Reached (named s)
  unfolding named
  named-drain h = some_left Reached (drain_items s) _ h

  named-cands : Some Reached (candidate_items s) → Some Reached (named s)
  unfolding named
  named-cands h = some_right Reached (drain_items s) _ (some_left Reached (candidate_items s) _ h)

  named-cycle : Some Reached (cycle_items s.cycle) → Some Reached (named s)
  unfolding named
  named-cycle h = some_right Reached (drain_items s) _ (some_right Reached (candidate_items s) _ (some_left Reached (cycle_items s.cycle) _ h))

  named-cur : Some Reached (current_items s.cur) → Some Reached (named s)
  unfolding named
  named-cur h = some_right Reached (drain_items s) _ (some_right Reached (candidate_items s) _ (some_right Reached (cycle_items s.cycle) _ h))

  of_drain : k ≡ item_drain → drain_at now s.drain x ≡ true → Some Reached (drain_items s)
  unfolding drain_items
  of_drain p e =
      let d = s.drain in
      let some = left d.some _ e in
      let rest = right d.some _ e in
      rw some (inl (sym p, eqb-true d.ep.tag x (right (leb d.deadline now) _ rest), left (leb d.deadline now) _ rest))

  of_cands : k ≡ item_candidate → cands_at now s.cands x ≡ true → Some Reached (candidate_items s)
  unfolding candidate_items any_of
  of_cands p e = some_of Reached (λ c. item c.deadline item_candidate c.seq) (held_by s.cands) (under (held_by s.cands) e)
    where
      under : (l : List Candidate) → any_of (waiting now x) l ≡ true → Some (λ c. Reached (item c.deadline item_candidate c.seq)) l
      under [] e = absurd (false≢true e)
      under (c ∷ l) e = one (waiting now x c) refl e (under l)
        where
          one : (b : Bool) → waiting now x c ≡ b → b || any_of (waiting now x) l ≡ true → (any_of (waiting now x) l ≡ true → Some (λ c. Reached (item c.deadline item_candidate c.seq)) l) → Some (λ c. Reached (item c.deadline item_candidate c.seq)) (c ∷ l)
          one true q e rest = inl (sym p, eqb-true c.seq x (left (eqb c.seq x) _ q), right (eqb c.seq x) _ q)
          one false q e rest = inr (rest e)

  of_fin : k ≡ item_fin → fin_at now s.cur x ≡ true → Some Reached (current_items s.cur)
  unfolding current_items fin_instants ladder_instants
  of_fin p e =
      let f = s.cur.ep.fin in
      let a = right s.cur.some _ e in
      let b = right f.some _ a in
      let tag : s.cur.ep.tag ≡ x = eqb-true s.cur.ep.tag x (right (ready now f.ladder) _ b) in
      rw (left s.cur.some _ e, tag, ← p)
      (some_left Reached (items_at k x (pick f.some (instants (next_at_of f.ladder)) [])) _ (some-may f.some f.ladder (left f.some _ a) (left (ready now f.ladder) _ b)))

  of_elicit : k ≡ item_elicit → elicit_at now s.cur x ≡ true → Some Reached (current_items s.cur)
  unfolding current_items elicit_instants may_instants ladder_instants
  of_elicit p e =
      let l = s.cur.ep.elicit in
      let a = right s.cur.some _ e in
      let b = right (not s.cur.ep.moved.some) _ a in
      let d = right l.some _ b in
      let tag : s.cur.ep.tag ≡ x = eqb-true s.cur.ep.tag x (right (ready now l.ladder) _ d) in
      rw (left s.cur.some _ e, not-true s.cur.ep.moved.some (left (not s.cur.ep.moved.some) _ a), tag, ← p)
      (some_right Reached (items_at item_fin x (fin_instants s.cur.ep.fin)) _ (some-may l.some l.ladder (left l.some _ b) (left (ready now l.ladder) _ d)))

  abbrev y : Cycle
  y = s.cycle

  in_init : is_init y.kind ≡ true → Some Reached (items_at item_resend 0 (ladder_instants y.init.ladder) ++ items_at item_expire 0 (y.init.deadline ∷ [])) → Some Reached (cycle_items y)
  unfolding cycle_items
  in_init e h = rw e h

  in_pendi : is_pend_i y.kind ≡ true → Some Reached (pending_items y.pendi) → Some Reached (cycle_items y)
  unfolding cycle_items
  in_pendi e h = rw (other-kind y.kind 2 1 (λ q. absurd (omega arith)) e, e) h

  in_pendr : is_pend_r y.kind ≡ true → Some Reached (items_at item_unadopted y.pendr.ep.tag (y.pendr.deadline ∷ [])) → Some Reached (cycle_items y)
  unfolding cycle_items
  in_pendr e h = rw (other-kind y.kind 3 1 (λ q. absurd (omega arith)) e, other-kind y.kind 3 2 (λ q. absurd (omega arith)) e, e) h

  of_resend : k ≡ item_resend → resend_at now y x ≡ true → Some Reached (cycle_items y)
  unfolding ladder_instants
  of_resend p e =
      let a = right (is_init y.kind) _ e in
      let b = right (ltb now y.init.deadline) _ a in
      in_init (left (is_init y.kind) _ e)
      (rw (← p, ← eqb-true x 0 (right (ready now y.init.ladder) _ b)) (some_left Reached (items_at k x (instants (next_at_of y.init.ladder))) _ (some-when (next_at_of y.init.ladder) (left (ready now y.init.ladder) _ b))))

  of_expire : k ≡ item_expire → expire_at now y x ≡ true → Some Reached (cycle_items y)
  of_expire p e =
      let a = right (is_init y.kind) _ e in
      in_init (left (is_init y.kind) _ e)
      (some_right Reached (items_at item_resend 0 (ladder_instants y.init.ladder)) _ (inl (sym p, sym (eqb-true x 0 (right (leb y.init.deadline now) _ a)), left (leb y.init.deadline now) _ a)))

  of_unadopted : k ≡ item_unadopted → unadopted_at now y x ≡ true → Some Reached (cycle_items y)
  of_unadopted p e =
      let a = right (is_pend_r y.kind) _ e in
      in_pendr (left (is_pend_r y.kind) _ e)
      (inl (sym p, eqb-true y.pendr.ep.tag x (right (leb y.pendr.deadline now) _ a), left (leb y.pendr.deadline now) _ a))

  -- the deadline of an own completed attempt, and a ladder of it
  abbrev ends : ℕ → List Item
  ends j = items_at j y.pendi.ep.tag (y.pendi.deadline ∷ [])

  of_ends : (j : ℕ) → k ≡ j → leb y.pendi.deadline now && eqb y.pendi.ep.tag x ≡ true → Some Reached (ends j)
  of_ends j p e = inl (sym p, eqb-true y.pendi.ep.tag x (right (leb y.pendi.deadline now) _ e), left (leb y.pendi.deadline now) _ e)

  of_rungs : (j : ℕ) → k ≡ j → (b : Bool) (l : Ladder) → b && (ready now l && eqb y.pendi.ep.tag x) ≡ true → Some Reached (items_at j y.pendi.ep.tag (pick b (instants (next_at_of l)) []))
  of_rungs j p b l e =
      let a = right b _ e in
      rw (← p, eqb-true y.pendi.ep.tag x (right (ready now l) _ a)) (some-may b l (left b _ e) (left (ready now l) _ a))

  -- by its wait
  in_held : waits_held y.pendi.wait ≡ true → Some Reached (ends item_held) → Some Reached (pending_items y.pendi)
  unfolding pending_items
  in_held h e = rw h e

  in_evidence : waits_evidence y.pendi.wait ≡ true → Some Reached (items_at item_probe y.pendi.ep.tag (may_instants y.pendi.probes) ++ ends item_confirm) → Some Reached (pending_items y.pendi)
  unfolding pending_items
  in_evidence v e = rw (other-kind y.pendi.wait 1 0 (λ q. absurd (omega arith)) v, v) e

  in_delay : waits_delay y.pendi.wait ≡ true → Some Reached (items_at item_delayed y.pendi.ep.tag (fin_instants y.pendi.fin) ++ ends item_delay_end) → Some Reached (pending_items y.pendi)
  unfolding pending_items
  in_delay d e = under (waits_held y.pendi.wait) (waits_evidence y.pendi.wait) d
    where
      under : (h v : Bool) → pick h false (pick v false true) ≡ true → Some Reached (pick h (ends item_held) (pick v (items_at item_probe y.pendi.ep.tag (may_instants y.pendi.probes) ++ ends item_confirm) (items_at item_delayed y.pendi.ep.tag (fin_instants y.pendi.fin) ++ ends item_delay_end)))
      under true v d = absurd (false≢true d)
      under false true d = absurd (false≢true d)
      under false false d = e

  abbrev wait : ℕ
  wait = y.pendi.wait

  abbrev own : Bool
  own = is_pend_i y.kind

  of_held : k ≡ item_held → held_at now y x ≡ true → Some Reached (cycle_items y)
  of_held p e = let a = right own _ e in in_pendi (left own _ e) (in_held (left (waits_held wait) _ a) (of_ends item_held p (right (waits_held wait) _ a)))

  of_probe : k ≡ item_probe → probe_at now y x ≡ true → Some Reached (cycle_items y)
  unfolding may_instants ladder_instants
  of_probe p e =
      let a = right own _ e in
      in_pendi (left own _ e)
      (in_evidence (left (waits_evidence wait) _ a)
      (some_left Reached (items_at item_probe y.pendi.ep.tag (pick y.pendi.probes.some (instants (next_at_of y.pendi.probes.ladder)) [])) _ (of_rungs item_probe p y.pendi.probes.some y.pendi.probes.ladder (right (waits_evidence wait) _ a))))

  of_confirm : k ≡ item_confirm → confirm_at now y x ≡ true → Some Reached (cycle_items y)
  of_confirm p e =
      let a = right own _ e in
      in_pendi (left own _ e)
      (in_evidence (left (waits_evidence wait) _ a)
      (some_right Reached (items_at item_probe y.pendi.ep.tag (may_instants y.pendi.probes)) _ (of_ends item_confirm p (right (waits_evidence wait) _ a))))

  of_delayed : k ≡ item_delayed → delayed_at now y x ≡ true → Some Reached (cycle_items y)
  unfolding fin_instants ladder_instants
  of_delayed p e =
      let a = right own _ e in
      in_pendi (left own _ e)
      (in_delay (left (waits_delay wait) _ a)
      (some_left Reached (items_at item_delayed y.pendi.ep.tag (pick y.pendi.fin.some (instants (next_at_of y.pendi.fin.ladder)) [])) _ (of_rungs item_delayed p y.pendi.fin.some y.pendi.fin.ladder (right (waits_delay wait) _ a))))

  of_delay-end : k ≡ item_delay_end → delay_end_at now y x ≡ true → Some Reached (cycle_items y)
  of_delay-end p e =
      let a = right own _ e in
      in_pendi (left own _ e)
      (in_delay (left (waits_delay wait) _ a)
      (some_right Reached (items_at item_delayed y.pendi.ep.tag (fin_instants y.pendi.fin)) _ (of_ends item_delay_end p (right (waits_delay wait) _ a))))

  is : (j : ℕ) → eqb k j ≡ true → k ≡ j
  is j e = eqb-true k j e

  pub due-named : due_at now s k x ≡ true → Some Reached (named s)
  unfolding due_at
  due-named d =
      picked (eqb k item_drain) d (λ q e. named-drain (of_drain (is item_drain q) e))
      (λ _ d. picked (eqb k item_candidate) d (λ q e. named-cands (of_cands (is item_candidate q) e))
      (λ _ d. picked (eqb k item_fin) d (λ q e. named-cur (of_fin (is item_fin q) e))
      (λ _ d. picked (eqb k item_elicit) d (λ q e. named-cur (of_elicit (is item_elicit q) e))
      (λ _ d. named-cycle
      (picked (eqb k item_unadopted) d (λ q e. of_unadopted (is item_unadopted q) e)
      (λ _ d. picked (eqb k item_held) d (λ q e. of_held (is item_held q) e)
      (λ _ d. picked (eqb k item_probe) d (λ q e. of_probe (is item_probe q) e)
      (λ _ d. picked (eqb k item_delayed) d (λ q e. of_delayed (is item_delayed q) e)
      (λ _ d. picked (eqb k item_confirm) d (λ q e. of_confirm (is item_confirm q) e)
      (λ _ d. picked (eqb k item_delay_end) d (λ q e. of_delay-end (is item_delay_end q) e)
      (λ _ d. picked (eqb k item_resend) d (λ q e. of_resend (is item_resend q) e)
      (λ _ d. picked (eqb k item_expire) d (λ q e. of_expire (is item_expire q) e)
      (λ _ d. absurd (false≢true d))))))))))))))
