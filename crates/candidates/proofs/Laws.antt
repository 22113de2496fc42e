-- What the operations make of the list of candidates.
use Rattle.std.specs.Prelude.{ℕ, zero, suc, ◌≤◌, ◌<◌, ◌+◌, ◌-◌, Bool, ◌||◌, ◌≡◌, leb, eqb, get_or, take, drop}
use Rattle.std.proofs.Math.Bool.{true, false, or-false, or_assoc}
use Rattle.std.proofs.Math.Path.{refl, sym, ap, ap₂}
use Rattle.std.proofs.Common.{◌∙◌, zero-add, add-zero, length-append, ext_get_or}
use mathlib.Core.List.Sublistᴰ
use mathlib.Core.List.{List, [], ◌∷◌, ◌++◌, map, map-map, Sublistᴰ}
use Rattle.std.proofs.Math.Nat.{sub-zero}
use native.Mathlib.Omega.{arith}
use borrow.Author.Tests.{lt-ltb, le-ltb, ltb-false, leb-true, leb-false}
use Rattle.std.proofs.Math.Dec.{ltb, leb-suc-suc}
use Rattle.std.proofs.Math.ListN.{length, length-map, get_or-append}
use Rattle.time.specs.Pick.{pick}
use Rattle.time.specs.declared.When.{When}
use Rattle.time.specs.Lists.{fold, range, kept, length-range}
use Rattle.time.specs.Time.{none, at, sooner_of, reached_of}
use Rattle.time.specs.Laws.{least-left, least-le}
use Rattle.candidates.specs.declared.Candidates.{Candidates}
use Rattle.candidates.specs.Held.{Candidate, held_of, between, firsts, cand_at, held_by, numbers, without, expired_in, born_after, earliest_of, place_of, spot_of, chosen, choosing, others, removed_of, younger, kept_after, cleared_of, leaving, expire_of}
use Rattle.candidates.specs.Changes.{Changes}
use Rattle.candidates.proofs.Places.{length-between, others-none, read_range}
use Rattle.candidates.specs.Repeats.{repeated}
use Rattle.candidates.proofs.Places.{repeated_part}
use Rattle.candidates.specs.Laws.{due_in}

pub held-most : (n : ℕ) → (held_of n ≤ n) × (held_of n ≤ 32)
unfolding held_of
held-most n = least-le n 32

-- ---- one place read

at_map : {A : Type 0} (f : ℕ → A) (ps : List ℕ) (d : A) (j : ℕ) → j < length ps → get_or (map f ps) j d ≡ f (get_or ps j 0)
at_map f [] d j h = absurd (omega arith)
at_map f (p ∷ ps) d zero h = refl
at_map f (p ∷ ps) d (suc j) h = at_map f ps d j (omega arith)

at-range : (i n j : ℕ) → j < n → get_or (range i n) j 0 ≡ i + j
unfolding range
at-range i zero j h = absurd (omega arith)
at-range i (suc n) zero h = sym (add-zero i)
at-range i (suc n) (suc j) h = at-range (i + 1) n j (omega arith) ∙ omega arith

at-chosen : (ps l : List ℕ) (j : ℕ) → j < length ps → get_or (chosen ps l) j 0 ≡ get_or l (get_or ps j 0) 0
unfolding chosen
at-chosen ps l j h =
    get_or-append (map (λ i. get_or l i 0) ps) (drop (length ps) l) 0 j (rw (length-map ps (λ i. get_or l i 0)) h)
    ∙ at_map (λ i. get_or l i 0) ps 0 j h

module _ (ps : List ℕ) (v : Candidates) where
  cand_chosen : (j : ℕ) → j < length ps → cand_at (choosing ps v) j ≡ cand_at v (get_or ps j 0)
  unfolding cand_at choosing
  cand_chosen j h = rw (at-chosen ps v.hs j h, at-chosen ps v.msg1 j h, at-chosen ps v.ack j h, at-chosen ps v.carrier j h, at-chosen ps v.route j h, at-chosen ps v.born j h, at-chosen ps v.deadline j h, at-chosen ps v.bounded j h, at-chosen ps v.bound j h, at-chosen ps v.seq j h)

  count-chosen : length ps ≤ 32 → held_of (choosing ps v).len ≡ length ps
  unfolding choosing held_of
  count-chosen h = least-left {a = length ps} {b = 32} h

  -- the candidates at chosen places are those
  pub held-choosing : length ps ≤ 32 → held_by (choosing ps v) ≡ map (cand_at v) ps
  unfolding held_by
  held-choosing h =
      rw (count-chosen h)
      (ext_get_or (cand_at v 0) (map (cand_at (choosing ps v)) (range 0 (length ps))) (map (cand_at v) ps) (long ∙ sym (length-map ps (cand_at v))) each)
    where
      long : length (map (cand_at (choosing ps v)) (range 0 (length ps))) ≡ length ps
      long = length-map (range 0 (length ps)) (cand_at (choosing ps v)) ∙ length-range 0 (length ps)

      each : (j : ℕ) → j < length (map (cand_at (choosing ps v)) (range 0 (length ps))) → get_or (map (cand_at (choosing ps v)) (range 0 (length ps))) j (cand_at v 0) ≡ get_or (map (cand_at v) ps) j (cand_at v 0)
      each j b =
          let c : j < length ps = rw long at b in
          at_map (cand_at (choosing ps v)) (range 0 (length ps)) (cand_at v 0) j (rw (length-range 0 (length ps)) c)
          ∙ (ap (cand_at (choosing ps v)) (at-range 0 (length ps) j c ∙ zero-add j)
          ∙ (cand_chosen j c ∙ sym (at_map (cand_at v) ps (cand_at v 0) j c)))

-- ---- remove

place-most : (x : ℕ) (l : List ℕ) → place_of x l ≤ length l
unfolding place_of
place-most x [] = omega arith
place-most x (y ∷ l) = under (eqb y x) (place-most x l)
  where
    under : (q : Bool) → place_of x l ≤ length l → pick q 0 (suc (place_of x l)) ≤ suc (length l)
    under true rest = omega arith
    under false rest = omega arith

others-most : (k n : ℕ) → k ≤ n → length (others k n) ≤ n
unfolding others
others-most k n h = rw (length-append (range 0 k) (range (k + 1) (n - (k + 1))), length-range 0 k, length-range (k + 1) (n - (k + 1))) (omega arith)

-- one place less
pub length-others : (k n : ℕ) → k < n → n - 1 ≡ length (others k n)
unfolding others
length-others k n h = rw (length-append (range 0 k) (range (k + 1) (n - (k + 1))), length-range 0 k, length-range (k + 1) (n - (k + 1))) (omega arith)

-- where the candidate of a number stands among n from place i on
abbrev spot : (ℕ → Candidate) → ℕ → ℕ → ℕ → ℕ
spot f s i n = place_of s (map (λ j. (f j).seq) (range i n))

without-places : (f : ℕ → Candidate) (s i n : ℕ) → map f (range i (spot f s i n) ++ range (i + spot f s i n + 1) (n - (spot f s i n + 1))) ≡ without s (map f (range i n))
unfolding range without place_of
without-places f s i zero = refl
without-places f s i (suc n) = under (eqb (f i).seq s) (without-places f s (i + 1) n)
  where
    k : ℕ
    k = spot f s (i + 1) n

    under : (q : Bool) → map f (range (i + 1) k ++ range (i + 1 + k + 1) (n - (k + 1))) ≡ without s (map f (range (i + 1) n)) → map f (range i (pick q 0 (suc k)) ++ range (i + pick q 0 (suc k) + 1) (suc n - (pick q 0 (suc k) + 1))) ≡ pick q (map f (range (i + 1) n)) (f i ∷ without s (map f (range (i + 1) n)))
    under true rest =
        let a : i + 0 + 1 ≡ i + 1 = omega arith in
        let b : suc n - (0 + 1) ≡ n = omega arith in
        ap₂ (λ j m. map f (range j m)) a b
    under false rest =
        let a : i + suc k + 1 ≡ i + 1 + k + 1 = omega arith in
        let b : suc n - (suc k + 1) ≡ n - (k + 1) = omega arith in
        ap (λ l. f i ∷ l) (ap₂ (λ j m. map f (range (i + 1) k ++ range j m)) a b ∙ rest)

-- the first n of an array, read place by place
firsts-map : (n : ℕ) (l : List ℕ) → firsts n l ≡ map (λ j. get_or l j 0) (range 0 (held_of n))
unfolding between
firsts-map n l = rw (sub-zero (held_of n))

module _ (v : Candidates) (s : ℕ) where
  spot_of_lem : spot_of v s ≡ spot (cand_at v) s 0 (held_of v.len)
  unfolding cand_at
  spot_of_lem = ap (place_of s) (firsts-map v.len v.seq)

  pub spot-within : spot_of v s ≤ held_of v.len
  spot-within = rw (length-between, sub-zero) at (place-most s (firsts v.len v.seq))

  others-within : length (others (spot_of v s) (held_of v.len)) ≤ held_of v.len
  others-within = others-most (spot_of v s) (held_of v.len) spot-within

  all_but : map (cand_at v) (others (spot_of v s) (held_of v.len)) ≡ without s (held_by v)
  unfolding held_by others
  all_but =
      ap₂ (λ j m. map (cand_at v) (range 0 j ++ range (m + 1) (held_of v.len - (j + 1)))) spot_of_lem (spot_of_lem ∙ sym (zero-add (spot (cand_at v) s 0 (held_of v.len))))
      ∙ without-places (cand_at v) s 0 (held_of v.len)

  -- "Remove and return the candidate with arrival number `seq`": the others stay, in order
  pub held_removed : held_by (removed_of v s) ≡ without s (held_by v)
  unfolding removed_of held_by
  held_removed = under (ltb (spot_of v s) (held_of v.len)) refl
    where
      under : (q : Bool) → ltb (spot_of v s) (held_of v.len) ≡ q → held_by (pick q (choosing (others (spot_of v s) (held_of v.len)) v) v) ≡ without s (held_by v)
      under true e = held-choosing (others (spot_of v s) (held_of v.len)) v (omega (arith, held-most v.len, others-within)) ∙ all_but
      under false e =
          let k : spot_of v s ≡ held_of v.len = omega (arith, ltb-false (spot_of v s) (held_of v.len) e, spot-within) in
          ap (map (cand_at v)) (sym (ap (λ j. others j (held_of v.len)) k ∙ others-none (held_of v.len))) ∙ all_but

  -- a removal lengthens nothing
  pub removed_len : (removed_of v s).len ≤ v.len
  unfolding removed_of choosing
  removed_len = under (ltb (spot_of v s) (held_of v.len))
    where
      under : (q : Bool) → (pick q (choosing (others (spot_of v s) (held_of v.len)) v) v).len ≤ v.len
      under true = omega (arith, held-most v.len, others-within)
      under false = omega arith

-- ---- expired

expired-place : (f : ℕ → Candidate) (s now i n : ℕ) → expired_in s now (map f (range i n)) ≡ pick (ltb (spot f s i n) n) (leb (f (i + spot f s i n)).deadline now) false
unfolding range expired_in place_of
expired-place f s now i zero = refl
expired-place f s now i (suc n) = under (eqb (f i).seq s) (expired-place f s now (i + 1) n)
  where
    k : ℕ
    k = spot f s (i + 1) n

    under : (q : Bool) → expired_in s now (map f (range (i + 1) n)) ≡ pick (ltb k n) (leb (f (i + 1 + k)).deadline now) false → pick q (leb (f i).deadline now) (expired_in s now (map f (range (i + 1) n))) ≡ pick (ltb (pick q 0 (suc k)) (suc n)) (leb (f (i + pick q 0 (suc k))).deadline now) false
    under true rest = rw (lt-ltb 0 (suc n) (omega arith), add-zero i)
    under false rest =
        let a : i + 1 + k ≡ i + suc k = omega arith in
        rest ∙ ap₂ (λ b j. pick b (leb (f j).deadline now) false) (sym (leb-suc-suc (suc k) n)) a

-- whether the candidate of a number is due, read at its place
pub expired-at : (v : Candidates) (s now : ℕ) → expired_in s now (held_by v) ≡ pick (ltb (spot_of v s) (held_of v.len)) (leb (get_or v.deadline (spot_of v s) 0) now) false
unfolding held_by cand_at
expired-at v s now =
    expired-place (cand_at v) s now 0 (held_of v.len)
    ∙ ap₂ (λ k j. pick (ltb k (held_of v.len)) (leb (get_or v.deadline j 0) now) false) (sym (spot_of_lem v s)) (zero-add (spot (cand_at v) s 0 (held_of v.len)) ∙ sym (spot_of_lem v s))

-- ---- what the place i of a search tells

module _ (v : Candidates) (s i : ℕ) (f : i ≡ spot_of v s) where
  here : i < held_of v.len → ltb (spot_of v s) (held_of v.len) ≡ true
  here h = lt-ltb (spot_of v s) (held_of v.len) (rw f at h)

  pub removed_here : i < held_of v.len → choosing (others i (held_of v.len)) v ≡ removed_of v s
  unfolding removed_of
  removed_here h = ap (λ j. choosing (others j (held_of v.len)) v) f ∙ rw (here h)

  pub expired-here : (now : ℕ) → i < held_of v.len → leb (get_or v.deadline i 0) now ≡ expired_in s now (held_by v)
  expired-here now h = sym (expired-at v s now ∙ (rw (here h) (ap (λ j. leb (get_or v.deadline j 0) now) (sym f))))

module _ (v : Candidates) (s : ℕ) (f : held_of v.len ≡ spot_of v s) where
  nowhere : ltb (spot_of v s) (held_of v.len) ≡ false
  nowhere = le-ltb (spot_of v s) (held_of v.len) (omega (arith, f))

  pub removed_none : v ≡ removed_of v s
  unfolding removed_of
  removed_none = rw nowhere

  pub expired-none : (now : ℕ) → false ≡ expired_in s now (held_by v)
  expired-none now = sym (expired-at v s now ∙ rw nowhere)

-- ---- retain

map-kept : {A : Type 0} (p : A → Bool) (f : ℕ → A) (l : List ℕ) → map f (kept (λ i. p (f i)) l) ≡ kept p (map f l)
unfolding kept
map-kept p f [] = refl
map-kept p f (i ∷ l) = under (p (f i)) (map-kept p f l)
  where
    under : (q : Bool) → map f (kept (λ j. p (f j)) l) ≡ kept p (map f l) → map f (pick q (i ∷ kept (λ j. p (f j)) l) (kept (λ j. p (f j)) l)) ≡ pick q (f i ∷ kept p (map f l)) (kept p (map f l))
    under true rest = ap (λ m. f i ∷ m) rest
    under false rest = rest

pub kept-most : {A : Type 0} (p : A → Bool) (l : List A) → length (kept p l) ≤ length l
unfolding kept
kept-most p [] = omega arith
kept-most p (a ∷ l) = under (p a) (kept-most p l)
  where
    under : (q : Bool) → length (kept p l) ≤ length l → length (pick q (a ∷ kept p l) (kept p l)) ≤ suc (length l)
    under true rest = omega arith
    under false rest = omega arith

module _ (v : Candidates) (t : ℕ) where
  younger-most : length (younger t (held_of v.len) v.born) ≤ held_of v.len
  younger-most = rw length-range at (kept-most (λ i. ltb t (get_or v.born i 0)) (range 0 (held_of v.len)))

  -- "Keep only the candidates `keep` accepts", in order
  pub held_kept : held_by (kept_after v t) ≡ kept (born_after t) (held_by v)
  unfolding held_by kept_after cand_at
  held_kept =
      held-choosing (younger t (held_of v.len) v.born) v (omega (arith, held-most v.len, younger-most))
      ∙ map-kept (born_after t) (cand_at v) (range 0 (held_of v.len))

  pub kept-len : (kept_after v t).len ≤ v.len
  unfolding kept_after choosing
  kept-len = omega (arith, held-most v.len, younger-most)

-- "`retain(|_| false)`": none is left
pub held_cleared : (v : Candidates) → held_by (cleared_of v) ≡ []
unfolding cleared_of
held_cleared v = held-choosing [] v (omega arith)

pub cleared_len : (v : Candidates) → (cleared_of v).len ≡ 0
unfolding cleared_of choosing
cleared_len v = refl

-- the row of the poll, on the list
pub held_expire : (v : Candidates) (s now : ℕ) → held_by (expire_of v s now).cands ≡ pick (expired_in s now (held_by v)) (without s (held_by v)) (held_by v)
unfolding expire_of
held_expire v s now = under (expired_in s now (held_by v))
  where
    under : (q : Bool) → held_by (leaving q v s).cands ≡ pick q (without s (held_by v)) (held_by v)
    under true = held_removed v s
    under false = refl

-- it lengthens nothing
pub expire_len : (v : Candidates) (s now : ℕ) → (expire_of v s now).cands.len ≤ v.len
unfolding expire_of
expire_len v s now = under (expired_in s now (held_by v))
  where
    under : (q : Bool) → (leaving q v s).cands.len ≤ v.len
    under true = removed_len v s
    under false = omega arith

-- ---- fields of those held

-- the arrival numbers and the deadlines of those held are the first of their arrays
pub numbers-held : (v : Candidates) → numbers (held_by v) ≡ firsts v.len v.seq
unfolding held_by cand_at
numbers-held v = map-map (λ c. c.seq) (cand_at v) (range 0 (held_of v.len)) ∙ sym (firsts-map v.len v.seq)

pub deadlines_held : (v : Candidates) → map (λ c. c.deadline) (held_by v) ≡ firsts v.len v.deadline
unfolding held_by cand_at
deadlines_held v = map-map (λ c. c.deadline) (cand_at v) (range 0 (held_of v.len)) ∙ sym (firsts-map v.len v.deadline)

-- an array that has as many places: its first ones as they stand
pub firsts-take : (n : ℕ) (l : List ℕ) → held_of n ≤ length l → firsts n l ≡ take (held_of n) l
firsts-take n l h = firsts-map n l ∙ read_range l 0 (held_of n) (omega arith)

-- the earlier of two instants is reached where one of them is
either : (a t now : ℕ) (q x y : Bool) → leb a t ≡ q → leb a now ≡ x → leb t now ≡ y → pick q x y ≡ (x || y)
either a t now true true y e p r = refl
either a t now true false true e p r =
    absurd (omega (arith, leb-true a t e, leb-false a now p, leb-true t now r))
either a t now true false false e p r = refl
either a t now false true true e p r = refl
either a t now false true false e p r =
    absurd (omega (arith, leb-false a t e, leb-true a now p, leb-false t now r))
either a t now false false y e p r = refl

reached-sooner : (w : When) (t now : ℕ) → reached_of (sooner_of w (at t)) now ≡ (reached_of w now || leb t now)
unfolding sooner_of
reached-sooner w t now = under w.some (leb w.at t) refl
  where
    under : (b q : Bool) → leb w.at t ≡ q → reached_of (pick b (pick q (record { some = b; at = w.at }) (at t)) (at t)) now ≡ (pick b (leb w.at now) false || leb t now)
    under false q e = refl
    under true true e = either w.at t now true (leb w.at now) (leb t now) e refl refl
    under true false e = either w.at t now false (leb w.at now) (leb t now) e refl refl

reached-fold : (now : ℕ) (w : When) (l : List ℕ) → reached_of (fold (λ b t. sooner_of b (at t)) w l) now ≡ (reached_of w now || due_in now l)
unfolding fold due_in
reached-fold now w [] = sym (or-false (reached_of w now))
reached-fold now w (t ∷ l) =
    reached-fold now (sooner_of w (at t)) l
    ∙ (ap (λ b. b || due_in now l) (reached-sooner w t now) ∙ or_assoc (reached_of w now) (leb t now) (due_in now l))

-- the earliest deadline is reached where some deadline is
pub earliest_due : (now : ℕ) (l : List ℕ) → reached_of (earliest_of l) now ≡ due_in now l
unfolding earliest_of
earliest_due now l = reached-fold now none l

-- ---- no number twice, and none twice after

without_part : (s : ℕ) (l : List Candidate) → Sublistᴰ (numbers (without s l)) (numbers l)
unfolding without
without_part s [] = Sublistᴰ.slnil
without_part s (c ∷ l) = under (eqb c.seq s) (without_part s l)
  where
    under : (q : Bool) → Sublistᴰ (numbers (without s l)) (numbers l) → Sublistᴰ (numbers (pick q l (c ∷ without s l))) (c.seq ∷ numbers l)
    under true rest = Sublistᴰ.cons (Sublistᴰ.refl (numbers l))
    under false rest = Sublistᴰ.cons-cons refl rest

kept_part : (p : Candidate → Bool) (l : List Candidate) → Sublistᴰ (numbers (kept p l)) (numbers l)
unfolding kept
kept_part p [] = Sublistᴰ.slnil
kept_part p (c ∷ l) = under (p c) (kept_part p l)
  where
    under : (q : Bool) → Sublistᴰ (numbers (kept p l)) (numbers l) → Sublistᴰ (numbers (pick q (c ∷ kept p l) (kept p l))) (c.seq ∷ numbers l)
    under true rest = Sublistᴰ.cons-cons refl rest
    under false rest = Sublistᴰ.cons rest

-- part of a list of candidates repeats no number that the list does not
part_once : (v r : Candidates) (l : List Candidate) → held_by r ≡ l → Sublistᴰ (numbers l) (numbers (held_by v)) → repeated (firsts v.len v.seq) ≡ false → repeated (firsts r.len r.seq) ≡ false
part_once v r l e p h =
    ap repeated (sym (numbers-held r) ∙ ap numbers e)
    ∙ repeated_part p (ap repeated (numbers-held v) ∙ h)

module _ (v : Candidates) (h : repeated (firsts v.len v.seq) ≡ false) where
  pub removed_once : (s : ℕ) → repeated (firsts (removed_of v s).len (removed_of v s).seq) ≡ false
  removed_once s = part_once v (removed_of v s) (without s (held_by v)) (held_removed v s) (without_part s (held_by v)) h

  pub kept-once : (t : ℕ) → repeated (firsts (kept_after v t).len (kept_after v t).seq) ≡ false
  kept-once t = part_once v (kept_after v t) (kept (born_after t) (held_by v)) (held_kept v t) (kept_part (born_after t) (held_by v)) h

  pub cleared_once : repeated (firsts (cleared_of v).len (cleared_of v).seq) ≡ false
  cleared_once = part_once v (cleared_of v) [] (held_cleared v) (Sublistᴰ.nil-sublist (numbers (held_by v))) h

  pub expire_once : (s now : ℕ) → repeated (firsts (expire_of v s now).cands.len (expire_of v s now).cands.seq) ≡ false
  unfolding expire_of
  expire_once s now = under (expired_in s now (held_by v))
    where
      under : (q : Bool) → repeated (firsts (leaving q v s).cands.len (leaving q v s).cands.seq) ≡ false
      under true = removed_once s
      under false = h

-- arrays that each keep what stood at the same places are the candidates at those places
pub changed : (R : List ℕ → ℕ → List ℕ → Type 0) (ps : List ℕ) (v w : Candidates) → ((a b : List ℕ) (n : ℕ) → R a n b → (n ≡ length ps) × (b ≡ chosen ps a)) → Changes R v w → w ≡ choosing ps v
unfolding choosing
changed R ps v w f h =
    λ i.
    record {
      hs = (f _ _ _ h.hs.1).1 i;
      msg1 = (f _ _ _ h.msg1.1).1 i;
      ack = (f _ _ _ h.ack.1).1 i;
      carrier = (f _ _ _ h.carrier.1).1 i;
      route = (f _ _ _ h.route.1).1 i;
      born = (f _ _ _ h.born.1).1 i;
      deadline = (f _ _ _ h.deadline.1).1 i;
      bounded = (f _ _ _ h.bounded.1).1 i;
      bound = (f _ _ _ h.bound.1).1 i;
      seq = (f _ _ _ h.seq).1 i;
      len = (f _ _ _ h.seq).0 i;
      next = h.next i;
    }
