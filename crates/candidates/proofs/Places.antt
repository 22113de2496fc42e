-- Laws of arrays read and moved place by place, for the loops.
use Prim.Native.Nat.{ℕ, zero, suc, ◌≤◌, ◌<◌, ◌+◌, ◌-◌}
use Rattle.std.specs.List.{copy_within}
use Rattle.std.specs.Prelude.{Bool, true, false, ◌||◌, ◌≡◌, refl, take, drop, set, ltb, eqb}
use Rattle.std.proofs.Common.{true≢false, sym, ◌∙◌, ap, ⊎_elim, zero-add, add-zero, add-one, arith, take-append-drop, drop-cons, take-suc-set, drop-set-lt, get_or-set_other}
use Rattle.std.proofs.lemmas.Bool.{false≢true}
use mathlib.Core.List.{List, [], ◌∷◌, ◌++◌, map, append-nil, append_assoc, map-append, Sublistᴰ}
use Rattle.std.proofs.Math.Nat.{sub-zero}
use borrow.Author.Tests.{ne_eqb, lt-ltb, ltb-true}
use Rattle.std.proofs.Math.ListN.{length, get_or, length-map, length-append}
use Rattle.std.proofs.Math.Seq.{append_snoc}
use Rattle.time.specs.Pick.{pick}
use Rattle.time.specs.Lists.{range, kept, range-next, range-end, length-range}
use Rattle.time.specs.Laws.{decide}
use Rattle.candidates.specs.Held.{between, chosen, others}
use Rattle.candidates.specs.Repeats.{repeated, rises, rises_from, among}
use Rattle.candidates.specs.Places.{After, keeping, moved, shifting}

above : (x : ℕ) (l : List ℕ) (y : ℕ) → rises_from x l ≡ true → y ≤ x → among y l ≡ false
unfolding rises_from among
above x [] y e h = refl
above x (z ∷ l) y e h = under (ltb x z) refl (above z l y) e
  where
    under : (q : Bool) → ltb x z ≡ q → (rises_from z l ≡ true → y ≤ z → among y l ≡ false) → pick q (rises_from z l) false ≡ true → (eqb z y || among y l) ≡ false
    under true q rest e =
        let p : x < z = ltb-true x z q in
        rw (ne_eqb z y (λ s. omega arith)) (rest e (omega arith))
    under false q rest e = absurd (false≢true e)

-- numbers that rise hold none twice
once-from : (x : ℕ) (l : List ℕ) → rises_from x l ≡ true → repeated (x ∷ l) ≡ false
unfolding rises_from repeated among
once-from x [] e = refl
once-from x (y ∷ l) e = rw (above x (y ∷ l) x e (omega arith)) (under (ltb x y) (once-from y l) e)
  where
    under : (q : Bool) → (rises_from y l ≡ true → repeated (y ∷ l) ≡ false) → pick q (rises_from y l) false ≡ true → repeated (y ∷ l) ≡ false
    under true rest e = rest e
    under false rest e = absurd (false≢true e)

pub rises-once : (l : List ℕ) → rises l ≡ true → repeated l ≡ false
unfolding rises repeated
rises-once [] e = refl
rises-once (x ∷ l) e = once-from x l e

among_part : {l m : List ℕ} (x : ℕ) → Sublistᴰ l m → among x m ≡ false → among x l ≡ false
unfolding among
among_part x Sublistᴰ.slnil e = refl
among_part x (Sublistᴰ.cons {a = a} {l₂ = m} s) e = among_part x s (under (eqb a x) e)
  where
    under : (q : Bool) → (q || among x m) ≡ false → among x m ≡ false
    under true e = absurd (true≢false e)
    under false e = e
among_part x (Sublistᴰ.cons-cons {a = a} {b = b} {l₁ = l} {l₂ = m} p s) e = under (eqb b x) (ap (λ y. eqb y x) p) (among_part x s) e
  where
    under : (q : Bool) → eqb a x ≡ q → (among x m ≡ false → among x l ≡ false) → (q || among x m) ≡ false → (eqb a x || among x l) ≡ false
    under true r rest e = absurd (true≢false e)
    under false r rest e = rw r (rest e)

-- part of a list that holds none twice holds none twice
pub repeated_part : {l m : List ℕ} → Sublistᴰ l m → repeated m ≡ false → repeated l ≡ false
unfolding repeated
repeated_part Sublistᴰ.slnil e = refl
repeated_part (Sublistᴰ.cons {a = a} {l₂ = m} s) e = repeated_part s (under (among a m) e)
  where
    under : (q : Bool) → (q || repeated m) ≡ false → repeated m ≡ false
    under true e = absurd (true≢false e)
    under false e = e
repeated_part (Sublistᴰ.cons-cons {a = a} {b = b} {l₁ = l} {l₂ = m} p s) e = under (among b m) (λ r. ap (λ y. among y l) p ∙ among_part b s r) (repeated_part s) e
  where
    under : (q : Bool) → (q ≡ false → among a l ≡ false) → (repeated m ≡ false → repeated l ≡ false) → (q || repeated m) ≡ false → (among a l || repeated l) ≡ false
    under true r rest e = absurd (true≢false e)
    under false r rest e = rw (r refl) (rest e)

module _ (i n : ℕ) (l : List ℕ) where
  pub between_next : i < n → between i n l ≡ get_or l i 0 ∷ between (i + 1) n l
  unfolding between
  between_next h = rw (range-next i n h)

  pub between-end : n ≤ i → between i n l ≡ []
  unfolding between
  between-end h = rw (range-end i n h)

  pub length-between : length (between i n l) ≡ n - i
  unfolding between
  length-between = length-map (range i (n - i)) (λ j. get_or l j 0) ∙ length-range i (n - i)

pub after-range : (w i n : ℕ) → w < i → After w (range i n)
unfolding After range
after-range w i zero h = tt
after-range w i (suc n) h = (h, after-range w (i + 1) n (omega arith))

pub after_kept : (t : ℕ → Bool) (w : ℕ) (ps : List ℕ) → After w ps → After w (kept t ps)
unfolding After kept
after_kept t w [] h = tt
after_kept t w (p ∷ ps) h = under (t p) (after_kept t w ps h.1)
  where
    under : (q : Bool) → After w (kept t ps) → After w (pick q (p ∷ kept t ps) (kept t ps))
    under true rest = (h.0, rest)
    under false rest = rest

-- a store at w leaves what stands after it
read_after : (w x : ℕ) (l ps : List ℕ) → After w ps → map (λ i. get_or (set l w x) i 0) ps ≡ map (λ i. get_or l i 0) ps
unfolding After
read_after w x l [] h = refl
read_after w x l (p ∷ ps) h = rw (get_or-set_other l w p x 0 (λ e. let k : w < p = h.0 in omega arith), read_after w x l ps h.1)

pub moved-step : (w i : ℕ) (ps l : List ℕ) → w < length l → After w ps → moved w (i ∷ ps) l ≡ moved (w + 1) ps (set l w (get_or l i 0))
unfolding moved
moved-step w i ps l h a =
    let x : ℕ = get_or l i 0 in
    let n : w + suc (length ps) ≡ w + 1 + length ps = omega arith in
    let t : take (w + 1) (set l w x) ≡ take w l ++ (x ∷ []) = rw add-one (take-suc-set l w x h) in
    let d : drop (w + 1 + length ps) (set l w x) ≡ drop (w + 1 + length ps) l = drop-set-lt (w + 1 + length ps) l w x (omega arith) in
    rw (n, t, d, read_after w x l ps a) (sym (append_snoc (take w l) x (map (λ j. get_or l j 0) ps ++ drop (w + 1 + length ps) l)))

pub moved-done : (w : ℕ) (l : List ℕ) → moved w [] l ≡ l
unfolding moved
moved-done w l = rw (add-zero w) (take-append-drop w l)

pub moved_all : (ps l : List ℕ) → moved 0 ps l ≡ chosen ps l
unfolding moved chosen
moved_all ps l = rw (zero-add (length ps))

-- numbers of an array in a row
pub read_range : (l : List ℕ) (i n : ℕ) → i + n ≤ length l → map (λ j. get_or l j 0) (range i n) ≡ take n (drop i l)
unfolding range
read_range l i zero h = refl
read_range l i (suc n) h =
    let b : i < length l = omega arith in
    rw (drop-cons l i 0 b, ← add-one i) (ap (λ m. get_or l i 0 ∷ m) (read_range l (i + 1) n (omega arith)))

-- no place left out
pub others-none : (n : ℕ) → others n n ≡ range 0 n
unfolding others
others-none n = rw (range-end (n + 1) n (omega arith)) (append-nil (range 0 n))

module _ (j n : ℕ) (l : List ℕ) where
  pub shifting-step : j + 1 < n → n ≤ length l → shifting j n l ≡ shifting (j + 1) n (set l j (get_or l (j + 1) 0))
  unfolding shifting
  shifting-step h k =
      rw (range-next (j + 1) n h)
      (moved-step j (j + 1) (range (j + 1 + 1) (n - (j + 1 + 1))) l (omega arith) (after-range j (j + 1 + 1) (n - (j + 1 + 1)) (omega arith)))

  pub shifting-done : n ≤ j + 1 → shifting j n l ≡ l
  unfolding shifting
  shifting-done h = rw (range-end (j + 1) n h) (moved-done j l)

  -- the places but j: what stands after j moves down by one
  pub shifting-all : j ≤ length l → chosen (others j n) l ≡ shifting j n l
  unfolding chosen moved others shifting
  shifting-all h =
      let qs : List ℕ = range (j + 1) (n - (j + 1)) in
      rw (map-append (λ i. get_or l i 0) (range 0 j) qs, length-append (range 0 j) qs, length-range 0 j, read_range l 0 j (omega arith))
      (append_assoc (take j l) (map (λ i. get_or l i 0) qs) (drop (j + length qs) l))

module _ (t : ℕ → Bool) (i n : ℕ) where
  pub keeping_in : i < n → t i ≡ true → keeping t i n ≡ i ∷ keeping t (i + 1) n
  unfolding keeping kept
  keeping_in h e = rw (range-next i n h, e)

  pub keeping-out : i < n → t i ≡ false → keeping t i n ≡ keeping t (i + 1) n
  unfolding keeping kept
  keeping-out h e = rw (range-next i n h, e)

  pub keeping-end : n ≤ i → keeping t i n ≡ []
  unfolding keeping kept
  keeping-end h = rw (range-end i n h)

  -- one more kept at place w
  pub packed_in : (w : ℕ) (l : List ℕ) → i < n → w ≤ i → w < length l → t i ≡ true → moved w (keeping t i n) l ≡ moved (w + 1) (keeping t (i + 1) n) (set l w (get_or l i 0))
  unfolding keeping
  packed_in w l h k b e =
      rw (keeping_in h e)
      (moved-step w i (keeping t (i + 1) n) l b (after_kept t w (range (i + 1) (n - (i + 1))) (after-range w (i + 1) (n - (i + 1)) (omega arith))))

pub keeping_all : (t : ℕ → Bool) (n : ℕ) → keeping t 0 n ≡ kept t (range 0 n)
unfolding keeping
keeping_all t n = rw (sub-zero n)

-- ---- the tests for a number that stands twice

pub rising-start : (n : ℕ) (l : List ℕ) → rises (between 0 n l) ≡ rises_from (get_or l 0 0) (between 1 n l)
unfolding rises rises_from
rising-start n l = ⊎_elim (λ h. rw (between-end 0 n l h, between-end 1 n l (omega arith))) (λ h. rw (between_next 0 n l h)) (decide n 0)

module _ (i n : ℕ) (l : List ℕ) where
  pub rising-on : (x : ℕ) → i < n → x < get_or l i 0 → rises_from x (between i n l) ≡ rises_from (get_or l i 0) (between (i + 1) n l)
  unfolding rises_from
  rising-on x h e = rw (between_next i n l h, lt-ltb x (get_or l i 0) e)

  pub rising-end : (x : ℕ) → n ≤ i → rises_from x (between i n l) ≡ true
  unfolding rises_from
  rising-end x h = rw (between-end i n l h)

-- a shift of what stands after place j
pub shifted : (j n : ℕ) (l : List ℕ) → j < n → n ≤ length l → copy_within l (j + 1) n j ≡ chosen (others j n) l
unfolding shifting moved
shifted j n l h k =
    let p : j + 1 + (n - (j + 1)) ≤ length l = omega arith in
    sym (shifting-all j n l (omega arith) ∙ rw (read_range l (j + 1) (n - (j + 1)) p, length-range (j + 1) (n - (j + 1))) (sym (append_assoc (take j l) (take (n - (j + 1)) (drop (j + 1) l)) (drop (j + (n - (j + 1))) l))))
