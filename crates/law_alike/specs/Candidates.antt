-- Candidates: what an operation leaves stands by what stood.
use Rattle.std.specs.Prelude.{ℕ, ◌≤◌, ◌≡◌, refl, List, [], ◌∷◌, map, eqb, length}
use Rattle.std.proofs.Math.Path.{sym, ap}
use Rattle.std.proofs.Common.{◌∙◌, ap₂, subst, arith}
use Rattle.std.proofs.Math.Dec.{ltb}
use Rattle.std.proofs.lemmas.List.{length-map}
use Rattle.time.specs.Lists.{kept, range, length-range}
use Rattle.time.specs.Laws.{least-left}
use Rattle.candidates.specs.declared.Candidates.{Candidates}
use Rattle.candidates.specs.Held.{Candidate, held_of, held_by, cand_at, without, expired_in, born_after, spot_of, choosing, removed_of, younger, kept_after, cleared_of, expire_of}
use Rattle.candidates.proofs.Laws.{held-most, held_removed, held_kept, held_cleared, kept-most}
use Rattle.state.specs.Stands.{CandidateView, candidate_view, CandidatesView, candidates_view}
use Rattle.law_alike.specs.Optional.{Same, choose}
use Rattle.law_alike.specs.Due.{numbers-alike}

pub record AlikeCands (v w : Candidates) : Type 0 where
  pub count : v.len ≡ w.len
  pub list : map candidate_view (held_by v) ≡ map candidate_view (held_by w)
  pub next : v.next ≡ w.next

pub cands_fields : {v w : Candidates} → Same candidates_view v w → AlikeCands v w
unfolding candidates_view
cands_fields e =
    record { count = ap (λ (c : CandidatesView). c.count) e.eq; list = ap (λ (c : CandidatesView). c.list) e.eq; next = ap (λ (c : CandidatesView). c.next) e.eq }

pub cands-whole : {v w : Candidates} → AlikeCands v w → Same candidates_view v w
unfolding candidates_view
cands-whole h = record { eq = cc }

-- ---- lists with the same views

abbrev head_or : CandidateView → List CandidateView → CandidateView
head_or d [] = d
head_or d (x ∷ l) = x

abbrev tail_of : List CandidateView → List CandidateView
tail_of [] = []
tail_of (x ∷ l) = l

abbrev IsCons : List CandidateView → Type 0
IsCons [] = ⊥
IsCons (x ∷ l) = Unit {0}

-- an operation that goes through a list and reads views gives the same
module _ {B : Type 0} (f : List Candidate → B) (step : (x y : Candidate) (l m : List Candidate) → candidate_view x ≡ candidate_view y → map candidate_view l ≡ map candidate_view m → f l ≡ f m → f (x ∷ l) ≡ f (y ∷ m)) where
  through : (l m : List Candidate) → map candidate_view l ≡ map candidate_view m → f l ≡ f m
  through [] [] e = refl
  through [] (y ∷ m) e = absurd (subst IsCons (sym e) tt)
  through (x ∷ l) [] e = absurd (subst IsCons e tt)
  through (x ∷ l) (y ∷ m) e =
      step x y l m (ap (head_or (candidate_view x)) e) (ap tail_of e) (through l m (ap tail_of e))

module _ (x y : Candidate) (e : candidate_view x ≡ candidate_view y) where
  seq-alike : x.seq ≡ y.seq
  unfolding candidate_view
  seq-alike = ap (λ (c : CandidateView). c.seq) e

  deadline-alike : x.deadline ≡ y.deadline
  unfolding candidate_view
  deadline-alike = ap (λ (c : CandidateView). c.deadline) e

  born-alike : x.born ≡ y.born
  unfolding candidate_view
  born-alike = ap (λ (c : CandidateView). c.born) e

expired-list : (s now : ℕ) (l m : List Candidate) → map candidate_view l ≡ map candidate_view m → expired_in s now l ≡ expired_in s now m
unfolding expired_in
expired-list s now = through (expired_in s now) (λ x y l m h e ih. cc (seq-alike x y h, deadline-alike x y h, ih))

without-list : (s : ℕ) (l m : List Candidate) → map candidate_view l ≡ map candidate_view m → map candidate_view (without s l) ≡ map candidate_view (without s m)
unfolding without
without-list s =
    through (λ l. map candidate_view (without s l))
    (λ x y l m h e ih. choose (map candidate_view) (ap (λ n. eqb n s) (seq-alike x y h)) (λ _. e) (λ _. ap₂ (λ a b. a ∷ b) h ih))

kept-list : (t : ℕ) (l m : List Candidate) → map candidate_view l ≡ map candidate_view m → map candidate_view (kept (born_after t) l) ≡ map candidate_view (kept (born_after t) m)
unfolding kept
kept-list t =
    through (λ l. map candidate_view (kept (born_after t) l))
    (λ x y l m h e ih. choose (map candidate_view) (ap (λ n. ltb t n) (born-alike x y h)) (λ _. ap₂ (λ a b. a ∷ b) h ih) (λ _. ih))

-- ---- the operations

-- how many are held, where no more than 32 are counted
counted : (v : Candidates) → v.len ≤ 32 → length (map candidate_view (held_by v)) ≡ v.len
unfolding held_by held_of
counted v h =
    length-map (held_by v) candidate_view
    ∙ length-map (range 0 (held_of v.len)) (cand_at v)
    ∙ length-range 0 (held_of v.len)
    ∙ least-left h

kept-few : (v : Candidates) (t : ℕ) → (kept_after v t).len ≤ 32
unfolding kept_after choosing cand_at
kept-few v t =
    omega (arith, kept-most (λ i. born_after t (cand_at v i)) (range 0 (held_of v.len)), length-range 0 (held_of v.len), held-most v.len, same)
  where
    same : length (younger t (held_of v.len) v.born) ≡ length (kept (λ i. born_after t (cand_at v i)) (range 0 (held_of v.len)))
    same = refl

kept_next : (v : Candidates) (t : ℕ) → (kept_after v t).next ≡ v.next
unfolding kept_after choosing
kept_next v t = refl

module _ {v w : Candidates} (e : Same candidates_view v w) where
  pub expired-alike : (s now : ℕ) → expired_in s now (held_by v) ≡ expired_in s now (held_by w)
  expired-alike s now = expired-list s now _ _ (cands_fields e).list

  spot-alike : (s : ℕ) → spot_of v s ≡ spot_of w s
  spot-alike s = rw (numbers-alike e)

  pub removed_alike : (s : ℕ) → Same candidates_view (removed_of v s) (removed_of w s)
  unfolding removed_of choosing
  removed_alike s =
      let h = cands_fields e in
      let test : ltb (spot_of v s) (held_of v.len) ≡ ltb (spot_of w s) (held_of w.len) = cc (spot-alike s, h.count) in
      cands-whole (record {
        count = choose (λ (c : Candidates). c.len) test (λ _. cc (spot-alike s, h.count)) (λ _. h.count);
        list = ap (map candidate_view) (held_removed v s) ∙ without-list s _ _ h.list ∙ ap (map candidate_view) (sym (held_removed w s));
        next = choose (λ (c : Candidates). c.next) test (λ _. h.next) (λ _. h.next);
      })

  pub kept-alike : (t : ℕ) → Same candidates_view (kept_after v t) (kept_after w t)
  kept-alike t =
      let h = cands_fields e in
      let l : map candidate_view (held_by (kept_after v t)) ≡ map candidate_view (held_by (kept_after w t)) =
      ap (map candidate_view) (held_kept v t) ∙ kept-list t _ _ h.list ∙ ap (map candidate_view) (sym (held_kept w t)) in
      cands-whole (record {
        count = sym (counted (kept_after v t) (kept-few v t)) ∙ ap length l ∙ counted (kept_after w t) (kept-few w t);
        list = l;
        next = kept_next v t ∙ h.next ∙ sym (kept_next w t);
      })

  pub cleared_alike : Same candidates_view (cleared_of v) (cleared_of w)
  unfolding cleared_of choosing
  cleared_alike =
      cands-whole (record { count = refl; list = ap (map candidate_view) (held_cleared v ∙ sym (held_cleared w)); next = (cands_fields e).next })

  pub expire_alike : (s now : ℕ) → Same candidates_view (expire_of v s now).cands (expire_of w s now).cands
  unfolding expire_of
  expire_alike s now = record { eq = choose candidates_view (expired-alike s now) (λ _. (removed_alike s).eq) (λ _. e.eq) }

  pub gone-alike : (s now : ℕ) → (expire_of v s now).gone ≡ (expire_of w s now).gone
  unfolding expire_of
  gone-alike s now = expired-alike s now
