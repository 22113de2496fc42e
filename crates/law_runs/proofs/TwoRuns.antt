-- Demand 3 of any machine that keeps the laws, call by call.
use mathlib.Core.Path.{◌≡◌, refl, sym, ◌∙◌, ap, ap₂, subst}
use mathlib.Core.List.{List, [], ◌∷◌, ◌++◌}
use mathlib.Core.Bool.{Bool, true, false}
use Prim.Native.Nat.{◌<◌}
use native.Mathlib.Omega.{arith}
use Rattle.law_runs.specs.Runs.{poll, Answer, Heard, Entry, Machine, Laws, Demand3, LeftOut, done, stays, out, logged, only_if, next, quiet, entry, log_one, log_of, end_of, heard, heard_of, second, AllQuiet, heard_shared, states_of, states_shared, After, Rises, EarlyFor, Late, accepted}

-- the first of a list, or another
abbrev head_or : {A : Type 0} → A → List A → A
head_or d [] = d
head_or d (x ∷ xs) = x

abbrev tail_of : {A : Type 0} → List A → List A
tail_of [] = []
tail_of (x ∷ xs) = xs

abbrev IsCons : {A : Type 0} → List A → Type 0
IsCons [] = ⊥
IsCons (x ∷ xs) = Unit {0}

-- one call's part of the log is taken off both
cancel : {A : Type 0} (b : Bool) (e : A) (xs ys : List A) → only_if b e ++ xs ≡ only_if b e ++ ys → xs ≡ ys
cancel true e xs ys p = ap tail_of p
cancel false e xs ys p = p

module _ (M : Machine) where
  -- the log of the calls after a poll, some polls left out, does not begin with an entry of that poll
  later :
      (c : M.Call) {cs : List M.Call} (d : LeftOut M cs) (s : M.State) (said : Answer M.Event) (rest : List (Entry M.Name M.Event))
      → M.kind_of c ≡ poll → After M c cs → (record { kind = M.kind_of c; at = M.at_of c; said = said }) ∷ rest ≡ log_of M s (second M d) → ⊥
  later c done s said rest k a p = subst IsCons p tt
  later c (out q d) s said rest k a p = later c d s said rest k a.2 p
  later c (stays {c = x} d) s said rest k a p =
      go (logged (M.step x s).said) p (λ q. later c d (next M x s) said rest k a.2 q)
    where
      go :
          (b : Bool) → (record { kind = M.kind_of c; at = M.at_of c; said = said }) ∷ rest ≡ only_if b (entry M x s) ++ log_of M (next M x s) (second M d)
          → ((record { kind = M.kind_of c; at = M.at_of c; said = said }) ∷ rest ≡ log_of M (next M x s) (second M d) → ⊥) → ⊥
      go true q ih =
          let first : Entry M.Name M.Event = record { kind = M.kind_of c; at = M.at_of c; said = said } in
          let same : first ≡ entry M x s = ap (head_or first) q in
          let lt : M.at_of c < M.at_of x = a.1 k (sym (ap (λ (e : Entry M.Name M.Event). e.kind) same) ∙ k) in
          let eq : M.at_of c ≡ M.at_of x = ap (λ (e : Entry M.Name M.Event). e.at) same in
          omega arith
      go false q ih = ih q

module _ (M : Machine) where
  -- the second run's list is such a list too
  after-second : (c : M.Call) {cs : List M.Call} (d : LeftOut M cs) → After M c cs → After M c (second M d)
  after-second c done a = tt
  after-second c (stays d) a = (a.0, a.1, after-second c d a.2)
  after-second c (out k d) a = after-second c d a.2

  pub rises-second : {cs : List M.Call} (d : LeftOut M cs) → Rises M cs → Rises M (second M d)
  rises-second done r = tt
  rises-second (stays {c = c} d) r = (after-second c d r.0, rises-second d r.1)
  rises-second (out k d) r = rises-second d r.1

  pub early-second : (s : M.State) {cs : List M.Call} (d : LeftOut M cs) → EarlyFor M s cs → EarlyFor M s (second M d)
  early-second s done e = tt
  early-second s (stays d) e = (e.0, early-second s d e.1)
  early-second s (out k d) e = early-second s d e.1

module _ (M : Machine) (L : Laws M) where
  -- the starts stay early for what is left of the list
  early-next : (c : M.Call) (s : M.State) → M.Ok s → (ds : List M.Call) → After M c ds → EarlyFor M s ds → EarlyFor M (next M c s) ds
  early-next c s o [] a e = tt
  early-next c s o (d ∷ ds) a e = (L.ages c s (M.at_of d) o a.0 e.0, early-next c s o ds a.2 e.1)

  -- equal logs: each poll left out was quiet
  only_if_lem : (s : M.State) {cs : List M.Call} (d : LeftOut M cs) → Rises M cs → log_of M s cs ≡ log_of M s (second M d) → AllQuiet M s d
  only_if_lem s done r p = tt
  only_if_lem s (stays {c = c} {cs = cs} d) r p =
      only_if_lem (next M c s) d r.1
      (cancel (logged (M.step c s).said) (entry M c s) (log_of M (next M c s) cs) (log_of M (next M c s) (second M d)) p)
  only_if_lem s (out {c = c} {cs = cs} k d) r p = go (quiet M c s) refl (λ q. only_if_lem (next M c s) d r.1 q)
    where
      go :
          (b : Bool) → quiet M c s ≡ b → (log_of M (next M c s) cs ≡ log_of M (next M c s) (second M d) → AllQuiet M (next M c s) d)
          → (quiet M c s ≡ true) × AllQuiet M (next M c s) d
      go true q ih =
          let silent = L.still c s k q in
          let bare : log_of M (next M c s) cs ≡ log_of M s (second M d) =
          subst (λ (b : Bool). only_if b (entry M c s) ++ log_of M (next M c s) cs ≡ log_of M s (second M d)) silent.0 p in
          (q, ih (subst (λ (z : M.State). log_of M (next M c s) cs ≡ log_of M z (second M d)) (sym silent.1) bare))
      go false q ih =
          let full : entry M c s ∷ log_of M (next M c s) cs ≡ log_of M s (second M d) =
          subst (λ (b : Bool). only_if b (entry M c s) ++ log_of M (next M c s) cs ≡ log_of M s (second M d)) (L.speaks c s k q) p in
          absurd (later M c d s (M.step c s).said (log_of M (next M c s) cs) k r.0 full)

  -- each poll left out was quiet: equal logs, equal end states, and of the shared calls equal answers and
  -- bytes, and equal states that they get
  same :
      (s : M.State) {cs : List M.Call} (d : LeftOut M cs) → AllQuiet M s d
      → (log_of M s cs ≡ log_of M s (second M d)) × (end_of M s cs ≡ end_of M s (second M d))
      × ((heard_shared M s d ≡ heard_of M s (second M d)) × (states_shared M s d ≡ states_of M s (second M d)))
  same s done a = (refl, refl, (refl, refl))
  same s (stays {c = c} {cs = cs} d) a =
      let ih = same (next M c s) d a in
      (ap (λ (l : List (Entry M.Name M.Event)). log_one M c s ++ l) ih.0, ih.1, (ap (heard M c s ∷◌) ih.2.0, ap (s ∷◌) ih.2.1))
  same s (out {c = c} {cs = cs} k d) a =
      let silent = L.still c s k a.0 in
      let ih = same (next M c s) d a.1 in (
        ap (λ (b : Bool). only_if b (entry M c s) ++ log_of M (next M c s) cs) silent.0 ∙ (ih.0 ∙ ap (λ (z : M.State). log_of M z (second M d)) silent.1),
        ih.1 ∙ ap (λ (z : M.State). end_of M z (second M d)) silent.1,
        (
          ih.2.0 ∙ ap (λ (z : M.State). heard_of M z (second M d)) silent.1,
          ih.2.1 ∙ ap (λ (z : M.State). states_of M z (second M d)) silent.1,
        ),
      )

  -- two records of one state: equal logs, answers and bytes, and one state at the end
  one_state :
      (s t : M.State) (cs : List M.Call) → M.stands s ≡ M.stands t
      → (log_of M s cs ≡ log_of M t cs) × (heard_of M s cs ≡ heard_of M t cs) × (M.stands (end_of M s cs) ≡ M.stands (end_of M t cs))
  one_state s t [] e = (refl, refl, e)
  one_state s t (c ∷ cs) e =
      let h = L.one c s t e in
      let ih = one_state (next M c s) (next M c t) cs h.1 in (
        ap (λ (x : Heard M.Event M.Bytes). only_if (logged x.said) (record { kind = M.kind_of c; at = M.at_of c; said = x.said }) ++ log_of M (next M c s) cs) h.0
            ∙ ap (λ (l : List (Entry M.Name M.Event)). log_one M c t ++ l) ih.0,
        ap₂ (λ (x : Heard M.Event M.Bytes) (l : List (Heard M.Event M.Bytes)). x ∷ l) h.0 ih.1,
        ih.2,
      )

  wakes :
      (s : M.State) (before : List M.Call) (c : M.Call) (after : List M.Call)
      → M.Ok s → Rises M (before ++ (c ∷ after)) → EarlyFor M s (before ++ (c ∷ after)) → M.kind_of c ≡ poll
      → accepted M c (end_of M s before) ≡ true → M.workers c ≡ false → M.held (end_of M s before) ≡ true
      → Late (M.wake c (end_of M s before)) (M.at_of c) → quiet M c (end_of M s before) ≡ true
  wakes s [] c after o r e = L.late c s o e.0
  wakes s (x ∷ xs) c after o r e = wakes (next M x s) xs c after (L.kept x s o) r.1 (early-next x s o (xs ++ (c ∷ after)) r.0 e.1)

  pub demand3 : Demand3 M
  demand3 = record {
    exactly = λ s cs d r. (λ p. only_if_lem s d r p.0, λ a. let t = same s d a in (t.0, ap M.stands t.1));
    logs = λ s cs d r p. only_if_lem s d r p;
    records = λ s cs d a. (same s d a).1;
    shared = λ s cs d r p. (same s d (only_if_lem s d r p)).2;
    remains = L.back;
    decides = L.one;
    one_state = one_state;
    wakes = wakes;
    again = λ s cs d r e. (rises-second M d r, early-second M s d e);
  }
