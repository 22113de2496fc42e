-- What is placed stands in the state.
use Rattle.std.specs.Prelude.{ℕ, zero, suc, ◌<◌, ◌+◌, ◌≡◌, refl, List, [], ◌∷◌, ◌++◌, map, length, get_or, set}
use Rattle.std.proofs.Common.{ap, ap₂, sym, arith, ◌∙◌, add-zero, zero-add, get_or-set_other, ne_of_lt}
use Rattle.std.proofs.lemmas.List.{get_or-set_same, map-append}
use borrow.Author.Tests.{lt-ltb}
use Rattle.time.specs.Lists.{range}
use Rattle.time.specs.Laws.{least-left}
use Rattle.cycle.specs.declared.PendI.{PendI}
use Rattle.cycle.specs.declared.PendR.{PendR}
use Rattle.cycle.specs.declared.Cycle.{Cycle}
use Rattle.candidates.specs.declared.Candidates.{Candidates}
use Rattle.candidates.specs.Held.{held_of, cand_at, held_by}
use Rattle.state.specs.Parts.{pending_of}
use Rattle.runs_placing.specs.Placed.{completed, answered, arrived, added}

pub completed-stands : (c : Cycle) (p : PendI) → pending_of (completed c p) ≡ (p.ep ∷ [])
unfolding completed pending_of
completed-stands c p = refl

pub answered-stands : (c : Cycle) (r : PendR) → pending_of (answered c r) ≡ (r.ep ∷ [])
unfolding answered pending_of
answered-stands c r = refl

blanked : (l : List ℕ) (i : ℕ) → get_or (set l i 0) i 0 ≡ 0
blanked [] i = refl
blanked (x ∷ l) zero = refl
blanked (x ∷ l) (suc i) = blanked l i

range-last : (i n : ℕ) → range i (suc n) ≡ range i n ++ ((i + n) ∷ [])
unfolding range
range-last i zero = ap (λ j. j ∷ []) (sym (add-zero i))
range-last i (suc n) = ap (λ l. i ∷ l) (range-last (i + 1) n ∙ ap (λ j. range (i + 1) n ++ (j ∷ [])) (omega arith))

same-range : {A : Type 0} (f g : ℕ → A) (i n : ℕ) → ((j : ℕ) → j < i + n → f j ≡ g j) → map f (range i n) ≡ map g (range i n)
unfolding range
same-range f g i zero h = refl
same-range f g i (suc n) h =
    ap₂ (λ a l. a ∷ l) (h i (omega arith)) (same-range f g (i + 1) n (λ j k. h j (omega arith)))

module _ (v : Candidates) (now end : ℕ) (room : v.len < 32) where
  -- those before it
  before : (j : ℕ) → j < v.len → cand_at (added v now end) j ≡ cand_at v j
  unfolding cand_at added
  before j h =
      let o : (l : List ℕ) (x : ℕ) → get_or (set l v.len x) j 0 ≡ get_or l j 0 = λ l x. get_or-set_other l v.len j x 0 (ne_of_lt h) in
      rw (lt-ltb v.len 32 room, o v.hs 0, o v.msg1 0, o v.ack 0, o v.carrier 0, o v.route 0, o v.born now, o v.deadline end, o v.bounded 0, o v.bound 0, o v.seq v.next)

  -- the new one
  last : length v.born ≡ 32 → length v.deadline ≡ 32 → length v.seq ≡ 32 → cand_at (added v now end) v.len ≡ arrived v.next now end
  unfolding cand_at added arrived
  last b d s =
      rw (
        lt-ltb v.len 32 room,
        blanked v.hs v.len,
        blanked v.msg1 v.len,
        blanked v.ack v.len,
        blanked v.carrier v.len,
        blanked v.route v.len,
        get_or-set_same v.born v.len now 0 (omega (arith, room, b)),
        get_or-set_same v.deadline v.len end 0 (omega (arith, room, d)),
        blanked v.bounded v.len,
        blanked v.bound v.len,
        get_or-set_same v.seq v.len v.next 0 (omega (arith, room, s)),
      )

  count : held_of (added v now end).len ≡ suc v.len
  unfolding held_of added
  count = rw (lt-ltb v.len 32 room) (least-left {a = v.len + 1} {b = 32} (omega (arith, room)) ∙ omega arith)

  -- one more is held, behind those before it
  pub added-stands : length v.born ≡ 32 → length v.deadline ≡ 32 → length v.seq ≡ 32 → held_by (added v now end) ≡ held_by v ++ (arrived v.next now end ∷ [])
  unfolding held_by held_of
  added-stands b d s =
      ap (λ n. map (cand_at (added v now end)) (range 0 n)) count
      ∙ (ap (map (cand_at (added v now end))) (range-last 0 v.len ∙ ap (λ n. range 0 v.len ++ (n ∷ [])) (zero-add v.len))
      ∙ (map-append (cand_at (added v now end)) (range 0 v.len) (v.len ∷ [])
      ∙ (ap₂ (λ l a. l ++ (a ∷ [])) (same-range (cand_at (added v now end)) (cand_at v) 0 v.len (λ j h. before j (omega (arith, h)))) (last b d s)
      ∙ ap (λ n. map (cand_at v) (range 0 n) ++ (arrived v.next now end ∷ [])) (sym (least-left (omega (arith, room)))))))
