-- The rungs of a schedule as a list, and that a plan laid out is read back as it was.
use Rattle.std.specs.Prelude.{ℕ, ◌≤◌, ◌+◌, ◌-◌, ◌*◌, ◌/◌, ◌%◌, ◌^◌, Bool, true, false, ◌≡◌, refl, List, [], ◌∷◌, ◌++◌, map, eqb, drop, replicate}
use Rattle.std.proofs.Common.{◌∙◌, ap, ap₂, append_assoc, eq-eqb, length-append, take_at, arith, zero-add, div-one}
use Rattle.std.proofs.lemmas.List.{map-append, length-map, get_or_at}
use Rattle.std.proofs.Math.ListN.{length}
use Rattle.std.proofs.Math.Seq.{slice, append_snoc}
use Rattle.std.proofs.Math.Nat.{pow-succ', div-div-eq-div-mul}
use Rattle.time.specs.Pick.{pick}
use Rattle.time.specs.Lists.{range, length-range, drop-map, drop-range}
use Rattle.time.specs.Laws.{least-left, least-le}
use Rattle.ladder.specs.declared.Schedule.{Schedule}
use Rattle.ladder.specs.Schedule.{Rung, bits_of, laid, rung_at, held_of, rungs_of}

pub held-most : (limit : ℕ) (s : Schedule) → held_of limit s ≤ limit
unfolding held_of
held-most limit s = (least-le s.len limit).1

-- the rungs from i on
pub rungs-from : (limit : ℕ) (s : Schedule) (i : ℕ) → drop i (rungs_of limit s) ≡ map (rung_at s) (range i (held_of limit s - i))
unfolding rungs_of
rungs-from limit s i =
    drop-map (rung_at s) i (range 0 (held_of limit s))
    ∙ ap (map (rung_at s)) (drop-range i 0 (held_of limit s) ∙ ap (λ j. range j (held_of limit s - i)) (zero-add i))

pub length-rungs : (limit : ℕ) (s : Schedule) → length (rungs_of limit s) ≡ held_of limit s
unfolding rungs_of
length-rungs limit s = length-map (range 0 (held_of limit s)) (rung_at s) ∙ length-range 0 (held_of limit s)

module _ (limit : ℕ) (l : List Rung) (h : length l ≤ limit) where
  pub held-laid : held_of limit (laid limit l) ≡ length l
  unfolding held_of laid
  held-laid = least-left h

  -- the offsets of a plan laid out are its own
  pub offsets-laid : slice 0 (held_of limit (laid limit l)) (laid limit l).at ≡ map (λ r. r.offset) l
  unfolding laid held_of
  offsets-laid =
      rw (least-left {a = length l} {b = limit} h)
      (take_at (map (λ r. r.offset) l) (replicate (limit - length l) 0) (length l) (length-map l (λ r. r.offset)))

-- the map past the rungs of p is the map of the rest
bits_rest : (p q : List Rung) → bits_of (p ++ q) / 2 ^ length p ≡ bits_of q
unfolding bits_of
bits_rest [] q = div-one (bits_of q)
bits_rest (r ∷ p) q = rw (pow-succ' 2 (length p), ← div-div-eq-div-mul (pick r.silent 1 0 + 2 * bits_of (p ++ q)) 2 (2 ^ length p), halved r.silent) (bits_rest p q)
  where
    halved : (b : Bool) → (pick b 1 0 + 2 * bits_of (p ++ q)) / 2 ≡ bits_of (p ++ q)
    halved true = omega arith
    halved false = omega arith

lowest : (b : Bool) (n : ℕ) → eqb ((pick b 1 0 + 2 * n) % 2) 1 ≡ b
lowest true n = eq-eqb ((1 + 2 * n) % 2) 1 (omega arith)
lowest false n = let e : (0 + 2 * n) % 2 ≡ 0 = omega arith in rw e

rung_seam : (limit : ℕ) (p : List Rung) (r : Rung) (q : List Rung) → rung_at (laid limit (p ++ r ∷ q)) (length p) ≡ r
unfolding rung_at laid bits_of
rung_seam limit p r q =
    ap₂ (λ t b. record { offset = t; silent = b })
    (rw (map-append (λ x. x.offset) p (r ∷ q), append_assoc (map (λ x. x.offset) p) (r.offset ∷ map (λ x. x.offset) q) (replicate (limit - length (p ++ r ∷ q)) 0))
    (get_or_at (map (λ x. x.offset) p) r.offset (map (λ x. x.offset) q ++ replicate (limit - length (p ++ r ∷ q)) 0) 0 (length p) (length-map p (λ x. x.offset))))
    (rw (bits_rest p (r ∷ q)) (lowest r.silent (bits_of q)))

read_from : (limit : ℕ) (p q : List Rung) → map (rung_at (laid limit (p ++ q))) (range (length p) (length q)) ≡ q
unfolding range
read_from limit p [] = refl
read_from limit p (r ∷ q) =
    let n : length (p ++ (r ∷ [])) ≡ length p + 1 = length-append p (r ∷ []) in
    let rest : map (rung_at (laid limit (p ++ r ∷ q))) (range (length p + 1) (length q)) ≡ q = rw (append_snoc p r q, n) at (read_from limit (p ++ (r ∷ [])) q) in
    ap₂ (λ x l. x ∷ l) (rung_seam limit p r q) rest

-- a plan laid out is read back as it was
pub rungs-laid : (limit : ℕ) (l : List Rung) → length l ≤ limit → rungs_of limit (laid limit l) ≡ l
unfolding rungs_of
rungs-laid limit l h = ap (λ n. map (rung_at (laid limit l)) (range 0 n)) (held-laid limit l h) ∙ read_from limit [] l
