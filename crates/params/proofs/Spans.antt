-- The offset of the last resend of a doubling schedule with no end, in closed form.
use Rattle.std.specs.Prelude.{ℕ, zero, suc, ◌≤◌, ◌<◌, ◌+◌, ◌-◌, ◌*◌, ◌^◌, ◌≡◌, refl, List, [], ◌∷◌, map, ◌⊎◌, take}
use Rattle.std.proofs.Common.{sym, ◌∙◌, ap, inl, inr, add-zero, arith, le-leb, pow_mono}
use Rattle.time.specs.declared.When.{When}
use Rattle.time.specs.Lists.{fold, range, kept}
use Rattle.time.specs.Time.{end, none, at, least, most, sat_mul}
use Rattle.time.specs.Laws.{least-left, least-right, least-le, decide}
use Rattle.ladder.specs.Schedule.{max_rungs, send, cut, doubled, before, made_of, doubling_of, last_of, last_send_of}
use Rattle.ladder.proofs.Laws.{plan-most}
use Rattle.ladder.proofs.Rungs.{rungs-laid}
use Rattle.params.specs.Params.{value_or, last_offset, msg1_span}

-- without an end every offset is kept
all-kept : (l : List ℕ) → kept (before none) l ≡ l
unfolding kept
all-kept [] = refl
all-kept (t ∷ l) = ap (λ v. t ∷ v) (all-kept l)

take-map : {A B : Type 0} (f : A → B) (n : ℕ) (l : List A) → take n (map f l) ≡ map f (take n l)
take-map f zero l = refl
take-map f (suc n) [] = refl
take-map f (suc n) (a ∷ l) = ap (λ v. f a ∷ v) (take-map f n l)

take_range : (k i n : ℕ) → take k (range i n) ≡ range i (least n k)
unfolding range
take_range zero i n = rw (least-right {a = n} {b = 0} (omega arith))
take_range (suc k) i zero = rw (least-left {a = 0} {b = suc k} (omega arith))
take_range (suc k) i (suc n) = ap (λ v. i ∷ v) (take_range k (i + 1) n) ∙ sym (ap (range i) (both (decide n k)))
  where
    both : (n ≤ k) ⊎ (k < n) → least (suc n) (suc k) ≡ suc (least n k)
    both (inl h) = least-left {a = suc n} {b = suc k} (omega arith) ∙ ap suc (sym (least-left {a = n} {b = k} h))
    both (inr h) =
        least-right {a = suc n} {b = suc k} (omega arith) ∙ ap suc (sym (least-right {a = n} {b = k} (omega arith)))

-- the last of some sends
last_of_lem : (f : ℕ → ℕ) (w : When) (i k : ℕ) → fold last_of w (map send (map f (range i (suc k)))) ≡ at (f (i + k))
unfolding fold last_of range
last_of_lem f w i zero = rw (add-zero i)
last_of_lem f w i (suc k) =
    let e : i + 1 + k ≡ i + suc k = omega arith in
    last_of_lem f (at (f i)) (i + 1) k ∙ ap (λ n. at (f n)) e

-- an offset that a schedule can reach fits
offset-fits : (k : ℕ) → k < max_rungs → doubled 1000 k ≡ 1000 * (2 ^ (k + 1) - 1)
unfolding doubled sat_mul
offset-fits k h =
    let p : 2 ^ (k + 1) ≤ 2 ^ max_rungs = pow_mono {i = k + 1} {j = max_rungs} (omega arith) in
    rw (le-leb (1000 * (2 ^ (k + 1) - 1)) end (omega arith))

-- the sends of `doubling` with no end
sends : (n : ℕ) → (doubling_of max_rungs 1000 n none).rungs ≡ map send (map (doubled 1000) (range 0 (least n max_rungs)))
unfolding doubling_of cut most
sends n =
    simp (all-kept, take-map send, take-map (doubled 1000), take_range)

by_count : (k : ℕ) → k ≤ max_rungs → value_or 0 (last_send_of (map send (map (doubled 1000) (range 0 k)))) ≡ 1000 * (2 ^ k - 1)
unfolding last_send_of range fold
by_count zero h = refl
by_count (suc k) h =
    let e : 0 + k ≡ k = omega arith in
    let s : k + 1 ≡ suc k = omega arith in
    ap (value_or 0) (last_of_lem (doubled 1000) none 0 k) ∙ ap (doubled 1000) e ∙ offset-fits k (omega arith) ∙ ap (λ m. 1000 * (2 ^ m - 1)) s

-- one second, doubled and summed, for each resend that finds room
pub span-closed : (n : ℕ) → msg1_span n ≡ 1000 * (2 ^ least n max_rungs - 1)
unfolding msg1_span last_offset made_of
span-closed n =
    ap (λ l. value_or 0 (last_send_of l))
    (rungs-laid max_rungs (doubling_of max_rungs 1000 n none).rungs (plan-most max_rungs 1000 n none).0 ∙ sends n)
    ∙ by_count (least n max_rungs) (least-le n max_rungs).1
