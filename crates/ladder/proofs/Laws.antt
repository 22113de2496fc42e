-- Laws of schedules and ladders.
use Rattle.std.specs.Prelude.{ℕ, suc, ◌≤◌, ◌<◌, ◌+◌, ◌-◌, ◌*◌, ◌^◌, Bool, not, ◌≡◌, T, take, set, replicate, get_or, drop, ◌⊎◌}
use Rattle.std.proofs.Math.Bool.{true, false}
use Rattle.std.proofs.Math.Path.{refl, ap}
use Rattle.std.proofs.Common.{sym, ◌∙◌, ap₂, subst, length-append, length-take, pow-add, pow_mono, length-take-le, inl, inr, ⊎_elim, add_assoc, add-zero, zero-add, pow-suc, le_refl, suc-ne-zero, arith, one-add}
use mathlib.Core.List.{List, [], ◌∷◌, ◌++◌, map, append_assoc, append-nil, map-append}
use Rattle.std.proofs.Math.Dec.{ltb}
use Rattle.std.proofs.Math.ListN.{length}
use Rattle.std.proofs.lemmas.List.{length-map, length-replicate, set_at, take-append-le}
use Rattle.std.proofs.Math.Seq.{take_all}
use borrow.Author.Tests.{lt-ltb, le-ltb, ltb-true, ltb-false}
use Rattle.time.specs.declared.When.{When}
use Rattle.time.specs.Pick.{pick}
use Rattle.time.specs.Lists.{fold, fold-append, kept, take_while, range-next, range-end}
use Rattle.time.specs.Time.{at, least, none, later_of, reached_of}
use Rattle.time.specs.Laws.{least-left, least-right, least-le, decide}
use Rattle.ladder.specs.declared.Made.{Made}
use Rattle.ladder.specs.Schedule.{Rung, send, max_rungs, before, past, cut, laid, made_of, bits_of, offsets, positive, doubling_of, keepalives, filled, probes_of, rung_at, rungs_of, held_of}
use Rattle.ladder.specs.Fill.{losing, lost_of, none_yet, offered, pushed, put_of}
use Rattle.ladder.specs.declared.Ladder.{Ladder}
use Rattle.ladder.proofs.Rungs.{rungs-from, held-most}
use Rattle.ladder.specs.Ladder.{due_from, due_rungs, first_at, instant_of, is_due, next_at_of, remaining}
use Rattle.ladder.specs.Laws.{Fresh}

pub lost_zero : (n : ℕ) → n ≤ 255 → lost_of n 0 ≡ n
unfolding lost_of
lost_zero n h = least-left {a = n + 0} {b = 255} (omega arith) ∙ omega arith

-- what was dropped is counted once, however it is added up
pub lost_lost : (n j k : ℕ) → lost_of (least (n + j) 255) k ≡ least (n + (j + k)) 255
unfolding lost_of
lost_lost n j k = under (decide (n + j) 255)
  where
    under : (n + j ≤ 255) ⊎ (255 < n + j) → least (least (n + j) 255 + k) 255 ≡ least (n + (j + k)) 255
    under (inl h) = rw (least-left {a = n + j} {b = 255} h, add_assoc n j k)
    under (inr h) =
        rw (least-right {a = n + j} {b = 255} (omega arith))
        (least-right {a = 255 + k} {b = 255} (omega arith)
        ∙ sym (least-right {a = n + (j + k)} {b = 255} (omega arith)))

-- a full schedule only counts
pub full : (limit : ℕ) (m : Made) (l : List Rung) → m.dropped ≤ 255 → limit ≤ m.sched.len → fold (put_of limit) m l ≡ losing m (length l)
unfolding fold losing put_of lost_of
full limit m [] b h = rw (lost_zero m.dropped b)
full limit m (r ∷ l) b h =
    let one : put_of limit m r ≡ losing m 1 = rw (le-ltb m.sched.len limit h) in
    ap (λ v. fold (put_of limit) v l) one
    ∙ (full limit (losing m 1) l (least-le (m.dropped + 1) 255).1 h
    ∙ ap (λ n. record { sched = m.sched; dropped = n }) (lost_lost m.dropped 1 (length l) ∙ ap (λ n. least (m.dropped + n) 255) (one-add (length l))))

-- a rung put keeps the map within the rungs
pub fresh-put : (limit : ℕ) (m : Made) (r : Rung) → Fresh m → Fresh (put_of limit m r)
unfolding Fresh put_of pushed losing
fresh-put limit m r h = under (ltb m.sched.len limit) r.silent
  where
    under : (q b : Bool) → Fresh (pick q (record { sched = record { at = set m.sched.at m.sched.len r.offset; keepalive = m.sched.keepalive + pick b (2 ^ m.sched.len) 0; len = m.sched.len + 1 }; dropped = m.dropped }) (losing m 1))
    under true true = rw (pow-add 2 m.sched.len 1) (omega arith)
    under true false = rw (pow-add 2 m.sched.len 1) (omega arith)
    under false b = h

pub fresh-losing : (m : Made) (k : ℕ) → Fresh m → Fresh (losing m k)
unfolding Fresh losing
fresh-losing m k h = h

pub fresh-offered : (limit : ℕ) (end : When) (m : Made) (t : ℕ) → Fresh m → Fresh (offered limit end m t)
unfolding offered
fresh-offered limit end m t h = under (before end t)
  where
    under : (q : Bool) → Fresh (pick q (put_of limit m (send t)) (losing m 1))
    under true = fresh-put limit m (send t) h
    under false = fresh-losing m 1 h

pub fresh-all : (limit : ℕ) (m : Made) (l : List Rung) → Fresh m → Fresh (fold (put_of limit) m l)
unfolding fold
fresh-all limit m [] h = h
fresh-all limit m (r ∷ l) h = fresh-all limit (put_of limit m r) l (fresh-put limit m r h)

-- the map of a list with one rung more
bits_snoc : (l : List Rung) (r : Rung) → bits_of l + pick r.silent (2 ^ length l) 0 ≡ bits_of (l ++ (r ∷ []))
unfolding bits_of
bits_snoc [] r = under r.silent
  where
    under : (b : Bool) → 0 + pick b 1 0 ≡ pick b 1 0 + 2 * 0
    under true = refl
    under false = refl
bits_snoc (x ∷ l) r = rw (← bits_snoc l r) (under r.silent)
  where
    under : (b : Bool) → pick x.silent 1 0 + 2 * bits_of l + pick b (2 ^ suc (length l)) 0 ≡ pick x.silent 1 0 + 2 * (bits_of l + pick b (2 ^ length l) 0)
    under true = rw (pow-suc 2 (length l)) (omega arith)
    under false = omega arith

module _ (limit : ℕ) (l : List Rung) (r : Rung) where
  snoc_length : length (l ++ (r ∷ [])) ≡ length l + 1
  snoc_length = length-append l (r ∷ [])

  places : length l < limit → set (map (λ x. x.offset) l ++ replicate (limit - length l) 0) (length l) r.offset ≡ map (λ x. x.offset) (l ++ (r ∷ [])) ++ replicate (limit - length (l ++ (r ∷ []))) 0
  places h =
      let k : limit - length l ≡ suc (limit - (length l + 1)) = omega arith in
      rw (snoc_length, k, map-append (λ x. x.offset) l (r ∷ []), append_assoc (map (λ x. x.offset) l) (r.offset ∷ []) (replicate (limit - (length l + 1)) 0))
      (set_at (map (λ x. x.offset) l) 0 (replicate (limit - (length l + 1)) 0) r.offset (length l) (length-map l (λ x. x.offset)))

  pushed-laid : length l < limit → pushed (laid limit l) r ≡ laid limit (l ++ (r ∷ []))
  unfolding pushed laid
  pushed-laid h =
      rw (places h, bits_snoc l r, ← snoc_length)

  put-room : (d : ℕ) → length l < limit → put_of limit (made_of limit (cut limit l d)) r ≡ made_of limit (cut limit (l ++ (r ∷ [])) d)
  unfolding put_of made_of cut laid
  put-room d h =
      let n : length (l ++ (r ∷ [])) ≤ limit = rw snoc_length (omega arith) in
      let e : length l - limit ≡ length (l ++ (r ∷ [])) - limit = rw snoc_length (omega arith) in
      rw (take_all limit l (omega arith), take_all limit (l ++ (r ∷ [])) n, lt-ltb (length l) limit h)
      (ap₂ (λ s k. record { sched = s; dropped = least (d + k) 255 }) (pushed-laid h) e)

  put_full : (d : ℕ) → limit ≤ length l → put_of limit (made_of limit (cut limit l d)) r ≡ made_of limit (cut limit (l ++ (r ∷ [])) d)
  unfolding put_of made_of cut laid losing
  put_full d h =
      let e : length l - limit + 1 ≡ length (l ++ (r ∷ [])) - limit = rw snoc_length (omega arith) in
      let n : limit ≤ length (take limit l) = rw (length-take-le limit l h) (le_refl limit) in
      let one : put_of limit (made_of limit (cut limit l d)) r ≡ losing (made_of limit (cut limit l d)) 1 = rw (le-ltb (length (take limit l)) limit n) in
      one
      ∙ (ap (λ k. record { sched = laid limit (take limit l); dropped = k }) (lost_lost d (length l - limit) 1 ∙ ap (λ k. least (d + k) 255) e)
      ∙ rw (take-append-le limit l (r ∷ []) h))

  -- one rung more in the record is one rung more in the plan
  pub put-cut : (d : ℕ) → put_of limit (made_of limit (cut limit l d)) r ≡ made_of limit (cut limit (l ++ (r ∷ [])) d)
  put-cut d = ⊎_elim (put_full d) (put-room d) (decide limit (length l))

pub losing-cut : (limit : ℕ) (l : List Rung) (d k : ℕ) → losing (made_of limit (cut limit l d)) k ≡ made_of limit (cut limit l (d + k))
unfolding losing made_of cut
losing-cut limit l d k =
    let e : d + (length l - limit + k) ≡ d + k + (length l - limit) = omega arith in
    ap (λ n. record { sched = laid limit (take limit l); dropped = n }) (lost_lost d (length l - limit) k ∙ ap (λ n. least n 255) e)

-- rungs put one by one are the plan of them all
pub put_all : (limit : ℕ) (l : List Rung) (d : ℕ) (ws : List Rung) → fold (put_of limit) (made_of limit (cut limit l d)) ws ≡ made_of limit (cut limit (l ++ ws) d)
unfolding fold
put_all limit l d [] = rw (append-nil l)
put_all limit l d (w ∷ ws) =
    ap (λ m. fold (put_of limit) m ws) (put-cut limit l w d)
    ∙ (put_all limit (l ++ (w ∷ [])) d ws
    ∙ ap (λ v. made_of limit (cut limit v d)) (append_assoc l (w ∷ []) ws))

-- offsets offered one by one are the plan of those kept, with the others counted
pub offer-all : (limit : ℕ) (end : When) (l : List Rung) (d : ℕ) (ts : List ℕ) → fold (offered limit end) (made_of limit (cut limit l d)) ts ≡ made_of limit (cut limit (l ++ map send (kept (before end) ts)) (d + length (kept (past end) ts)))
unfolding fold offered kept
offer-all limit end l d [] = rw (append-nil l, add-zero d)
offer-all limit end l d (t ∷ ts) = under (before end t) (offer-all limit end (l ++ (send t ∷ [])) d ts) (offer-all limit end l (d + 1) ts)
  where
    m : Made
    m = made_of limit (cut limit l d)

    plan : List Rung → ℕ → Made
    plan v n = made_of limit (cut limit v n)

    under : (q : Bool) → fold (offered limit end) (plan (l ++ (send t ∷ [])) d) ts ≡ plan ((l ++ (send t ∷ [])) ++ map send (kept (before end) ts)) (d + length (kept (past end) ts)) → fold (offered limit end) (plan l (d + 1)) ts ≡ plan (l ++ map send (kept (before end) ts)) (d + 1 + length (kept (past end) ts)) → fold (offered limit end) (pick q (put_of limit m (send t)) (losing m 1)) ts ≡ plan (l ++ map send (pick q (t ∷ kept (before end) ts) (kept (before end) ts))) (d + length (pick (not q) (t ∷ kept (past end) ts) (kept (past end) ts)))
    under true with_it without =
        ap (λ v. fold (offered limit end) v ts) (put-cut limit l (send t) d)
        ∙ (with_it ∙ ap (λ v. plan v (d + length (kept (past end) ts))) (append_assoc l (send t ∷ []) (map send (kept (before end) ts))))
    under false with_it without =
        let e : d + 1 + length (kept (past end) ts) ≡ d + suc (length (kept (past end) ts)) = omega arith in
        ap (λ v. fold (offered limit end) v ts) (losing-cut limit l d 1)
        ∙ (without ∙ ap (λ n. plan (l ++ map send (kept (before end) ts)) n) e)

-- a rung put where there is room
pub put-len : (limit : ℕ) (m : Made) (r : Rung) → m.sched.len < limit → ((put_of limit m r).sched.len ≡ m.sched.len + 1) × ((put_of limit m r).dropped ≡ m.dropped)
unfolding put_of pushed
put-len limit m r h = rw (lt-ltb m.sched.len limit h) (refl, refl)

-- the map of a schedule with room still fits
pub mark_fits : (m : Made) (b : Bool) → Fresh m → m.sched.len < max_rungs → m.sched.keepalive + pick b (2 ^ m.sched.len) 0 < 2 ^ 64
unfolding Fresh
mark_fits m b h k = under b
  where
    small : 2 ^ m.sched.len ≤ 2 ^ max_rungs
    small = pow_mono {i = m.sched.len} {j = max_rungs} (omega arith)

    under : (q : Bool) → m.sched.keepalive + pick q (2 ^ m.sched.len) 0 < 2 ^ 64
    under true = omega (arith, small)
    under false = omega (arith, small)

-- what is left to put where nothing is left, or no room is
pub rest-counted : (limit : ℕ) (m : Made) (l : List Rung) → m.dropped ≤ 255 → (length l ≡ 0) ⊎ (limit ≤ m.sched.len) → fold (put_of limit) m l ≡ losing m (length l)
unfolding fold losing
rest-counted limit m [] b h = rw (lost_zero m.dropped b)
rest-counted limit m (r ∷ l) b (inl h) = absurd (suc-ne-zero (length l) h)
rest-counted limit m (r ∷ l) b (inr h) = full limit m (r ∷ l) b h

-- nothing put yet
pub empty-cut : (d : ℕ) → d ≤ 255 → record { sched = record { at = replicate max_rungs 0; keepalive = 0; len = 0 }; dropped = d } ≡ made_of max_rungs (cut max_rungs [] d)
unfolding made_of cut laid bits_of lost_of
empty-cut d h = ap (λ n. record { sched = record { at = replicate max_rungs 0; keepalive = 0; len = 0 }; dropped = n }) (sym (lost_zero d h))

-- every offset offered in turn gives `doubling`'s plan
pub doubling_all : (first count : ℕ) (end : When) → fold (offered max_rungs end) (none_yet 0) (offsets first count) ≡ made_of max_rungs (doubling_of max_rungs first count end)
unfolding doubling_of
doubling_all first count end =
    ap (λ m. fold (offered max_rungs end) m (offsets first count)) (empty-cut 0 (omega arith))
    ∙ (offer-all max_rungs end [] 0 (offsets first count)
    ∙ ap (λ n. made_of max_rungs (cut max_rungs (map send (kept (before end) (offsets first count))) n)) (zero-add (length (kept (past end) (offsets first count)))))

-- every rung put in turn gives `probes`' plan
pub probes-all : (first count end gap : ℕ) → (doubling_of max_rungs first count (at end)).dropped ≤ 255 → fold (put_of max_rungs) (none_yet (doubling_of max_rungs first count (at end)).dropped) (filled (positive gap) end 0 (map (λ r. r.offset) (doubling_of max_rungs first count (at end)).rungs)) ≡ made_of max_rungs (probes_of max_rungs first count end gap)
unfolding probes_of
probes-all first count end gap h =
    ap (λ m. fold (put_of max_rungs) m (filled (positive gap) end 0 (map (λ r. r.offset) (doubling_of max_rungs first count (at end)).rungs))) (empty-cut (doubling_of max_rungs first count (at end)).dropped h)
    ∙ put_all max_rungs [] (doubling_of max_rungs first count (at end)).dropped (filled (positive gap) end 0 (map (λ r. r.offset) (doubling_of max_rungs first count (at end)).rungs))

-- a plan keeps to the limit, and to the count's
pub plan-most : (limit first count : ℕ) (end : When) → (length (doubling_of limit first count end).rungs ≤ limit) × ((doubling_of limit first count end).dropped ≤ 255)
unfolding doubling_of cut
plan-most limit first count end = (rw length-take (omega arith), (least-le _ 255).1)

-- one send with the keepalives before it, and then the rest
pub filled-step : (limit gap end last t : ℕ) (l : List ℕ) (m : Made) → fold (put_of limit) m (filled gap end last (t ∷ l)) ≡ fold (put_of limit) (put_of limit (fold (put_of limit) m (keepalives gap last t)) (send t)) (filled gap end t l)
unfolding filled fold
filled-step limit gap end last t l m = fold-append (put_of limit) m (keepalives gap last t) (send t ∷ filled gap end t l)

pub filled-end : (gap end last : ℕ) → filled gap end last [] ≡ keepalives gap last end
unfolding filled
filled-end gap end last = refl

pub length-laid : (limit : ℕ) (l : List Rung) → length l ≤ limit → length (laid limit l).at ≡ limit
unfolding laid
length-laid limit l h =
    length-append (map (λ r. r.offset) l) (replicate (limit - length l) 0)
    ∙ (ap₂ (λ a b. a + b) (length-map l (λ r. r.offset)) (length-replicate (limit - length l) 0) ∙ omega arith)

false_ne_true : false ≡ true → ⊥
false_ne_true e = subst (λ b. T (pick b false true)) e tt

pub due_all : (l : Ladder) (now : ℕ) → due_from l now l.next ≡ due_rungs l now
unfolding due_from due_rungs remaining
due_all l now = refl

module _ (l : Ladder) (i : ℕ) where
  next-rung : i < held_of max_rungs l.sched → drop i (rungs_of max_rungs l.sched) ≡ rung_at l.sched i ∷ drop (i + 1) (rungs_of max_rungs l.sched)
  next-rung h =
      rungs-from max_rungs l.sched i
      ∙ (ap (map (rung_at l.sched)) (range-next i (held_of max_rungs l.sched) h)
      ∙ ap (λ v. rung_at l.sched i ∷ v) (sym (rungs-from max_rungs l.sched (i + 1))))

  no-rung : held_of max_rungs l.sched ≤ i → drop i (rungs_of max_rungs l.sched) ≡ []
  no-rung h = rungs-from max_rungs l.sched i ∙ ap (map (rung_at l.sched)) (range-end i (held_of max_rungs l.sched) h)

  -- the code's instant of rung i is that of the first rung from there on
  pub instant_first : instant_of l i ≡ first_at l.origin (drop i (rungs_of max_rungs l.sched))
  unfolding instant_of rung_at
  instant_first = under (ltb i (held_of max_rungs l.sched)) refl
    where
      under : (q : Bool) → ltb i (held_of max_rungs l.sched) ≡ q → pick q (at (later_of l.origin (get_or l.sched.at i 0))) none ≡ first_at l.origin (drop i (rungs_of max_rungs l.sched))
      under true e = rw (next-rung (ltb-true i (held_of max_rungs l.sched) e))
      under false e = rw (no-rung (ltb-false i (held_of max_rungs l.sched) e))

  pub due_below : (now : ℕ) → reached_of (instant_of l i) now ≡ true → i < max_rungs
  unfolding instant_of
  due_below now = under (ltb i (held_of max_rungs l.sched)) refl
    where
      under : (q : Bool) → ltb i (held_of max_rungs l.sched) ≡ q → reached_of (pick q (at (later_of l.origin (get_or l.sched.at i 0))) none) now ≡ true → i < max_rungs
      under true e d = omega (arith, ltb-true i (held_of max_rungs l.sched) e, held-most max_rungs l.sched)
      under false e d = absurd (false_ne_true d)

  -- a rung that is due is taken, and then the rest
  pub due-step : (now : ℕ) → reached_of (instant_of l i) now ≡ true → due_from l now i ≡ rung_at l.sched i ∷ due_from l now (i + 1)
  unfolding instant_of due_from take_while rung_at
  due-step now = under (ltb i (held_of max_rungs l.sched)) refl
    where
      under : (q : Bool) → ltb i (held_of max_rungs l.sched) ≡ q → reached_of (pick q (at (later_of l.origin (get_or l.sched.at i 0))) none) now ≡ true → take_while (is_due l.origin now) (drop i (rungs_of max_rungs l.sched)) ≡ rung_at l.sched i ∷ take_while (is_due l.origin now) (drop (i + 1) (rungs_of max_rungs l.sched))
      under true e d = rw (next-rung (ltb-true i (held_of max_rungs l.sched) e), d)
      under false e d = absurd (false_ne_true d)

  -- where none is due, none is taken
  pub due-done : (now : ℕ) → reached_of (instant_of l i) now ≡ false → due_from l now i ≡ []
  unfolding instant_of due_from take_while rung_at
  due-done now = under (ltb i (held_of max_rungs l.sched)) refl
    where
      under : (q : Bool) → ltb i (held_of max_rungs l.sched) ≡ q → reached_of (pick q (at (later_of l.origin (get_or l.sched.at i 0))) none) now ≡ false → take_while (is_due l.origin now) (drop i (rungs_of max_rungs l.sched)) ≡ []
      under true e d = rw (next-rung (ltb-true i (held_of max_rungs l.sched) e), d)
      under false e d = rw (no-rung (ltb-false i (held_of max_rungs l.sched) e))

pub next_instant : (l : Ladder) → instant_of l l.next ≡ next_at_of l
unfolding next_at_of remaining
next_instant l = instant_first l l.next
