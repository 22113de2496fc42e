-- After the passes of a poll no item is due at its instant.
use Prim.Native.Nat.{ℕ, zero, suc, ◌+◌}
use Rattle.std.specs.Prelude.{Bool, ◌⊎◌, ◌≡◌, leb, ℤ}
use Rattle.std.proofs.Math.Bool.{true, false, not}
use Rattle.std.proofs.Common.{true≢false, ◌∙◌, ap₂, subst, arith}
use Rattle.std.proofs.lemmas.Bool.{false≢true}
use Rattle.std.proofs.Math.Logic.{inl, inr, ⊎_elim}
use Rattle.std.proofs.Math.Path.{refl, sym, ap}
use mathlib.Core.List.{List, [], ◌∷◌}
use borrow.Author.Tests.{eqb-true, eqb-false}
use Rattle.std.proofs.Math.Dec.{eqb}
use Rattle.std.proofs.Math.ListN.{length}
use Rattle.time.specs.Pick.{pick, by-test}
use Rattle.time.specs.Lists.{fold, kept}
use Rattle.numbers.specs.Numbers.{item_drain, item_fin, item_elicit, item_resend, item_expire}
use Rattle.cycle.specs.Kind.{is_init, is_pend_i}
use Rattle.items.specs.Items.{Item, item, listed_in}
use Rattle.items.proofs.Sorted.{listed-untimed}
use Rattle.state.specs.declared.State.{State}
use Rattle.state.specs.declared.Given.{Given}
use Rattle.refusal.proofs.Standing.{other-kind}
use Rattle.law_refusal.specs.Sound.{Sound}
use Rattle.wake.specs.Due.{named, is_due, due_items, any_due}
use Rattle.poll_item.specs.Item.{item_step}
use Rattle.poll_listing.specs.Listing.{unlisted, fresh, pass_items}
use Rattle.poll_pass.specs.Pass.{Work, work_of, run_item, pass_of}
use Rattle.poll_loop.specs.Passes.{Ended, ended, noting, passes_of, three_passes}
use Rattle.law_sound.specs.Items.{item-sound}
use Rattle.law_exact.specs.Reads.{Each}
use Rattle.law_clear.specs.Lists.{Named, each_map, some-kept, some-sorted, some-map, some-each, listed_same, listed-named}
use Rattle.law_clear.specs.Due.{ready, drain_at, fin_at, elicit_at, due_at}
use Rattle.law_clear.specs.Named.{Told, Reached, left, right, due-named, none-due, listed-told}
use Rattle.law_clear.specs.Moves.{refute, Cuts, item-moves, ends-init}

-- ---- what a pass lists

module _ (s : State) (now : ℕ) (done : List Item) where
  -- an item that is due, and that no earlier pass listed
  pub listed-due : (k x : ℕ) → due_at now s k x ≡ true → listed_in (item 0 k x) done ≡ false → Named k x (pass_items done s now)
  unfolding pass_items fresh due_items
  listed-due k x d n =
      some-map (Reached now s k x) (λ i. (i.kind ≡ k) × (i.key ≡ x)) (λ i r. (r.0, r.1)) (pass_items done s now)
      (some-sorted (Reached now s k x) (unlisted done (kept (is_due now) (named s)))
      (some-kept (Reached now s k x) (λ i. not (listed_in i done)) (λ i r. ap not (listed_same i k x r.0 r.1 done ∙ n)) (kept (is_due now) (named s))
      (some-kept (Reached now s k x) (is_due now) (λ i r. r.2) (named s) (due-named now s k x d))))

-- ---- a pass

module _ (g : Given) (spread : ℤ) (F : ℕ → ℕ → Type 0) (Calm : Type 0) where
  -- what is due stands in the list, or came by a cutover
  pub record Stage (l : List Item) (w : Work) : Type 0 where
    pub sound : Sound w.state
    pub due : (k x : ℕ) → due_at g.now w.state k x ≡ true → Named k x l ⊎ F k x
    pub cuts : Cuts g.now F w.state
    pub init : is_init w.state.cycle.kind ≡ true → Calm
    pub ends : w.ended ≡ true → Calm

  one-item : (i : Item) (l : List Item) (w : Work) → Stage (i ∷ l) w → Stage l (run_item g spread w i)
  unfolding run_item
  one-item i l w o =
      let m = item-moves F g spread w.state o.sound o.cuts i.kind i.key in
      record {
        sound = item-sound w.state o.sound g spread i.kind i.key;
        due = λ k x d. ⊎_elim (λ e. keep k x d m.spent (o.due k x e)) (λ f. inr f) (m.less k x d);
        cuts = m.cuts;
        init = λ q. o.init (m.init q);
        ends = by-test (λ b. b ≡ true → Calm) w.ended true _ (λ e _. o.ends e) (λ e q. o.init (ends-init w.state g spread i.kind i.key q));
      }
    where
      keep : (k x : ℕ) → due_at g.now (item_step w.state g spread i.kind i.key).state k x ≡ true → due_at g.now (item_step w.state g spread i.kind i.key).state i.kind i.key ≡ false → Named k x (i ∷ l) ⊎ F k x → Named k x l ⊎ F k x
      keep k x d n (inl (inl q)) = absurd (true≢false (sym d ∙ (ap₂ (due_at g.now (item_step w.state g spread i.kind i.key).state) (sym q.0) (sym q.1) ∙ n)))
      keep k x d n (inl (inr h)) = inl h
      keep k x d n (inr f) = inr f

  pub whole_pass : (l : List Item) (w : Work) → Stage l w → Stage [] (pass_of g spread l w)
  unfolding pass_of fold
  whole_pass [] w o = o
  whole_pass (i ∷ l) w o = whole_pass l (run_item g spread w i) (one-item i l w o)

-- ---- where nothing is due

abbrev pub Rest : ℕ → State → Type 0
Rest now t = (k x : ℕ) → due_at now t k x ≡ true → ⊥

module _ (g : Given) (spread : ℤ) where
  -- an item that is listed is due
  some-listed : {X : Type 0} (t : State) (l : List Item) → Each (λ y. Told g.now t y.kind y.key) l → (length l ≡ 0 → ⊥) → ((k x : ℕ) → due_at g.now t k x ≡ true → X) → X
  some-listed t [] h n f = absurd (n refl)
  some-listed t (y ∷ l) h n f = ⊎_elim (λ e. f y.kind y.key e) (λ e. f item_expire 0 e.1) h.0

  -- a pass lists nothing, and the passes are left
  rest_keeps : (n : ℕ) (done : List Item) (count : ℕ) (w : Work) → Rest g.now w.state → Rest g.now (passes_of n g spread done count w).work.state
  unfolding passes_of
  rest_keeps zero done count w r = r
  rest_keeps (suc n) done count w r = under w.ended (eqb (length items) 0) refl
    where
      items : List Item
      items = pass_items done w.state g.now

      next : Ended
      next = passes_of n g spread (noting done items) (count + length items) (pass_of g spread items w)

      under : (b q : Bool) → eqb (length items) 0 ≡ q → Rest g.now (pick b (ended w count) (pick q (ended w count) next)).work.state
      under true q e = r
      under false true e = r
      under false false e = absurd (some-listed w.state items (listed-told g.now w.state done) (eqb-false (length items) 0 e) r)

  -- ---- a poll

  module _ (s : State) (o : Sound s) where
    -- what a cutover of the first pass may leave due
    Fresh : ℕ → ℕ → Type 0
    Fresh k x = (is_pend_i s.cycle.kind ≡ true) × (((k ≡ item_drain) × (x ≡ s.cur.ep.tag)) ⊎ (((k ≡ item_fin) ⊎ (k ≡ item_elicit)) × (x ≡ s.cycle.pendi.ep.tag)))

    Calm : Type 0
    Calm = is_pend_i s.cycle.kind ≡ false

    one : List Item
    one = pass_items [] s g.now

    first : Work
    first = pass_of g spread one (work_of s [] false)

    begun : Stage g spread Fresh Calm one (work_of s [] false)
    unfolding Fresh Calm one listed_in
    begun =
        record {
          sound = o;
          due = λ k x d. inl (listed-due s g.now [] k x d refl);
          cuts = λ i. ((i, inl (refl, refl)), (i, inr (inl refl, refl)), (i, inr (inr refl, refl)));
          init = λ i. other-kind s.cycle.kind 1 2 (λ q. absurd (omega arith)) i;
          ends = λ e. absurd (false≢true e);
        }

    after : Stage g spread Fresh Calm [] first
    unfolding first
    after = whole_pass g spread Fresh Calm one (work_of s [] false) begun

    fresh-due : (k x : ℕ) → due_at g.now first.state k x ≡ true → Fresh k x
    fresh-due k x d = ⊎_elim (λ h. absurd h) (λ f. f) (after.due k x d)

    -- the tags that are read where such an item is due
    tag_of : (t : State) (k x : ℕ) → due_at g.now t k x ≡ true → ((k ≡ item_drain → (t.drain.some ≡ true) × (t.drain.ep.tag ≡ x)) × ((k ≡ item_fin) ⊎ (k ≡ item_elicit) → t.cur.ep.tag ≡ x))
    unfolding due_at
    tag_of t k x d = (
      λ p. drain (subst (λ n. due_at g.now t n x ≡ true) p d),
      λ p. ⊎_elim (λ q. fin (subst (λ n. due_at g.now t n x ≡ true) q d)) (λ q. elicit (subst (λ n. due_at g.now t n x ≡ true) q d)) p,
    )
      where
        drain : drain_at g.now t.drain x ≡ true → (t.drain.some ≡ true) × (t.drain.ep.tag ≡ x)
        drain e = (left t.drain.some _ e, eqb-true t.drain.ep.tag x (right (leb t.drain.deadline g.now) _ (right t.drain.some _ e)))

        fin : fin_at g.now t.cur x ≡ true → t.cur.ep.tag ≡ x
        fin e = eqb-true t.cur.ep.tag x (right (ready g.now t.cur.ep.fin.ladder) _ (right t.cur.ep.fin.some _ (right t.cur.some _ e)))

        elicit : elicit_at g.now t.cur x ≡ true → t.cur.ep.tag ≡ x
        elicit e = eqb-true t.cur.ep.tag x (right (ready g.now t.cur.ep.elicit.ladder) _ (right t.cur.ep.elicit.some _ (right (not t.cur.ep.moved.some) _ (right t.cur.some _ e))))

    -- none of them was due before
    new : (k x : ℕ) → Fresh k x → due_at g.now s k x ≡ true → ⊥
    unfolding Fresh
    new k x f d =
        let t = tag_of s k x d in
        ⊎_elim
        (λ q. let r = t.0 q.0 in eqb-false s.cur.ep.tag s.drain.ep.tag (o.cur-drain r.0) (sym q.1 ∙ sym r.1))
        (λ q. eqb-false s.cur.ep.tag s.cycle.pendi.ep.tag (o.cur-pendi f.0) (t.1 q.0 ∙ q.1))
        f.1

    -- where one is due after the first pass, no other cutover can follow
    calm_after : (k x : ℕ) → due_at g.now first.state k x ≡ true → is_pend_i first.state.cycle.kind ≡ true → ⊥
    unfolding Fresh
    calm_after k x d i =
        let t = tag_of first.state k x d in
        let u = after.cuts i in
        let p = after.sound in
        ⊎_elim
        (λ q.
        let r = t.0 q.0 in
        eqb-false first.state.cur.ep.tag first.state.drain.ep.tag (p.cur-drain r.0) (drained u.0.1 ∙ sym q.1 ∙ sym r.1))
        (λ q. eqb-false first.state.cur.ep.tag first.state.cycle.pendi.ep.tag (p.cur-pendi i) (t.1 q.0 ∙ q.1 ∙ sym (kept-tag u.1.1)))
        (fresh-due k x d).1
      where
        drained : ((item_drain ≡ item_drain) × (first.state.cur.ep.tag ≡ s.cur.ep.tag)) ⊎ (((item_drain ≡ item_fin) ⊎ (item_drain ≡ item_elicit)) × (first.state.cur.ep.tag ≡ s.cycle.pendi.ep.tag)) → first.state.cur.ep.tag ≡ s.cur.ep.tag
        drained (inl q) = q.1
        drained (inr q) = absurd (⊎_elim (λ e. omega arith) (λ e. omega arith) q.0)

        kept-tag : ((item_fin ≡ item_drain) × (first.state.cycle.pendi.ep.tag ≡ s.cur.ep.tag)) ⊎ (((item_fin ≡ item_fin) ⊎ (item_fin ≡ item_elicit)) × (first.state.cycle.pendi.ep.tag ≡ s.cycle.pendi.ep.tag)) → first.state.cycle.pendi.ep.tag ≡ s.cycle.pendi.ep.tag
        kept-tag (inl q) = absurd (omega arith)
        kept-tag (inr q) = q.1

    -- so the second pass lists each
    unlisted_yet : (k x : ℕ) → Fresh k x → listed_in (item 0 k x) (noting [] one) ≡ false
    unfolding Fresh one
    unlisted_yet k x f = refute (listed_in (item 0 k x) (noting [] one)) (λ e. named-once (listed-named k x one (sym (listed-untimed (item 0 k x) one) ∙ e)))
      where
        named-once : Named k x one → ⊥
        named-once n =
            some-each (λ i. (i.kind ≡ k) × (i.key ≡ x)) one n
            (each_map (λ y. Told g.now s y.kind y.key) (λ y. (y.kind ≡ k) × (y.key ≡ x) → ⊥)
            (λ y t q. ⊎_elim (λ d. new k x f (subst (λ n. due_at g.now s n x ≡ true) q.0 (subst (λ n. due_at g.now s y.kind n ≡ true) q.1 d))) (λ e. resent (sym q.0 ∙ e.0)) t) one (listed-told g.now s []))
          where
            resent : k ≡ item_resend → ⊥
            resent e = ⊎_elim (λ q. omega (arith, q.0)) (λ q. ⊎_elim (λ p. omega arith) (λ p. omega arith) q.0) f.1

    two : List Item
    two = pass_items (noting [] one) first.state g.now

    second : Work
    second = pass_of g spread two first

    due-two : (k x : ℕ) → due_at g.now first.state k x ≡ true → Named k x two
    unfolding two
    due-two k x d = listed-due first.state g.now (noting [] one) k x d (unlisted_yet k x (fresh-due k x d))

    nothing_in : (l : List Item) → length l ≡ 0 → (k x : ℕ) → Named k x l → ⊥
    nothing_in [] e k x n = n
    nothing_in (i ∷ l) e k x n = absurd (omega (arith, e))

    again : (length two ≡ 0 → ⊥) → Stage g spread (λ _ _. ⊥) (Unit {0}) two first
    unfolding two
    again n =
        record {
          sound = after.sound;
          due = λ k x d. inl (due-two k x d);
          cuts = λ i. absurd (some-listed first.state two (listed-told g.now first.state (noting [] one)) n (λ k x d. calm_after k x d i));
          init = λ _. tt;
          ends = λ _. tt;
        }

    rest-two : (length two ≡ 0 → ⊥) → Rest g.now second.state
    unfolding second
    rest-two n k x d = ⊎_elim (λ h. h) (λ h. h) ((whole_pass g spread (λ _ _. ⊥) (Unit {0}) two first (again n)).due k x d)

    later : (count : ℕ) → Rest g.now (passes_of 2 g spread (noting [] one) count first).work.state
    unfolding passes_of two second Fresh Calm
    later count = under first.ended refl (eqb (length two) 0) refl
      where
        next : Ended
        next = passes_of 1 g spread (noting (noting [] one) two) (count + length two) second

        under : (b : Bool) → first.ended ≡ b → (q : Bool) → eqb (length two) 0 ≡ q → Rest g.now (pick b (ended first count) (pick q (ended first count) next)).work.state
        under true e q p = λ k x d. true≢false (sym (fresh-due k x d).0 ∙ after.ends e)
        under false e true p = λ k x d. nothing_in two (eqb-true (length two) 0 p) k x (due-two k x d)
        under false e false p = rest_keeps 1 (noting (noting [] one) two) (count + length two) second (rest-two (eqb-false (length two) 0 p))

    rest-three : Rest g.now (three_passes s g spread).work.state
    unfolding three_passes passes_of one first
    rest-three = under (eqb (length one) 0) refl
      where
        under : (q : Bool) → eqb (length one) 0 ≡ q → Rest g.now (pick q (ended (work_of s [] false) 0) (passes_of 2 g spread (noting [] one) (0 + length one) first)).work.state
        under true p = λ k x d. nothing_in one (eqb-true (length one) 0 p) k x (⊎_elim (λ h. h) (λ f. absurd (new k x f d)) (begun.due k x d))
        under false p = later (0 + length one)

    -- the law
    pub passes-clear : any_due (three_passes s g spread).work.state g.now ≡ false
    passes-clear = none-due g.now (three_passes s g spread).work.state (λ k x. refute (due_at g.now (three_passes s g spread).work.state k x) (rest-three k x))
