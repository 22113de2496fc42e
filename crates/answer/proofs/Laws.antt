-- That the log which a call fills is what `Written` says, and laws of the two ways out of a call.
use Rattle.std.specs.Prelude.{ℕ, suc, ◌≤◌, ◌+◌, ◌*◌, Bool, ◌≡◌, drop, set}
use Rattle.std.proofs.Math.Bool.{true, false}
use Rattle.std.proofs.Math.Path.{refl, sym, ap, ap₂}
use Rattle.std.proofs.Common.{◌∙◌, subst, arith, zero-add, length-append, length-drop}
use mathlib.Core.List.{List, [], ◌∷◌, ◌++◌, map}
use borrow.Author.Tests.{eq-eqb, ne_eqb, eqb-true, eqb-false}
use Rattle.std.proofs.Math.Dec.{eqb}
use Rattle.std.proofs.Math.ListN.{length, get_or}
use Rattle.std.proofs.lemmas.List.Edits.{sets, sets-eq}
use Rattle.time.specs.declared.When.{When}
use Rattle.time.specs.Pick.{pick}
use Rattle.time.specs.Laws.{least-left}
use Rattle.time.specs.Lists.{fold, range, kept}
use Rattle.events.specs.Events.{Event, words_of}
use Rattle.events.proofs.Laws.{eight-words}
use Rattle.events.specs.Log.{Log, at, stored, pushed, logged, place_of, taken_of, held}
use Rattle.events.proofs.Laws.{at_len, at_words}
use Rattle.events.proofs.Laws.{stored_at, stored-len, stored-behind, same-on, held-taken, held-empty, answer-len, held-answer}
use Rattle.events.specs.Withdraw.{words_stay, stays, sifted, withdrawn}
use Rattle.state.specs.declared.State.{State}
use Rattle.refusal.specs.Refused.{Refused}
use Rattle.answer.specs.Outcome.{Outcome, refused_of, sent_back, outcome_by}
use Rattle.answer.specs.Written.{words_in, over, Written}

-- ---- the words of events

length-words : (es : List Event) → length (words_in es) ≡ length es * 8
unfolding words_in
length-words [] = refl
length-words (e ∷ es) = simp length-append (omega (arith, eight-words e, length-words es))

pub length_over : (es : List Event) (ws : List ℕ) → length es ≤ 96 → length ws ≡ 768 → length (over es ws) ≡ 768
unfolding over
length_over es ws h k = simp (length-append, length-drop) (omega (arith, length-words es))

-- words put in after others are put in with them
sets_more : (a b l : List ℕ) (i : ℕ) → sets (sets l i a) (i + length a) b ≡ sets l i (a ++ b)
sets_more [] b l i = let e : i + 0 ≡ i = omega arith in rw e
sets_more (x ∷ a) b l i =
    let e : i + suc (length a) ≡ suc i + length a = omega arith in
    rw e (sets_more a b (set l i x) (suc i))

logged_sets : (n : ℕ) (ws : List ℕ) (es : List Event) → n + length es ≤ 96 → logged (at n ws) es ≡ at (n + length es) (sets ws (n * 8) (words_in es))
unfolding words_in pushed at
logged_sets n ws [] h = let e : n + 0 ≡ n = omega arith in rw e
logged_sets n ws (e ∷ es) h =
    let s : stored (at n ws) (words_of e) ≡ at (n + 1) (sets ws (n * 8) (words_of e)) = stored_at (at n ws) (words_of e) (omega arith) in
    let p : (n + 1) * 8 ≡ n * 8 + length (words_of e) = omega (arith, eight-words e) in
    let q : n + 1 + length es ≡ n + suc (length es) = omega arith in
    ap (λ v. logged v es) s
    ∙ (logged_sets (n + 1) (sets ws (n * 8) (words_of e)) es (omega arith)
    ∙ ap₂ at q (ap (λ i. sets (sets ws (n * 8) (words_of e)) i (words_in es)) p ∙ sets_more (words_of e) (words_in es) ws (n * 8)))

-- an answer of at most 96 events is written over the front of the words
pub logged-over : (ws : List ℕ) (es : List Event) → length es ≤ 96 → length ws ≡ 768 → logged (at 0 ws) es ≡ at (length es) (over es ws)
unfolding over
logged-over ws es h k =
    logged_sets 0 ws es (omega arith)
    ∙ ap₂ at (zero-add (length es)) (sets-eq (words_in es) ws 0 (omega (arith, length-words es)) ∙ ap (λ n. words_in es ++ drop n ws) (zero-add (length (words_in es)) ∙ length-words es))

-- ---- withdrawn prompts

-- the events that stay are written over all of them
module _ (p : List ℕ → Bool) where
  sift_logged : (es : List Event) (i : ℕ) (v : Log) → v.len ≤ i → i + length es ≤ 96 → map (place_of v.words) (range i (length es)) ≡ map words_of es → fold (sifted p) v (range i (length es)) ≡ logged v (kept (λ e. p (words_of e)) es)
  unfolding fold range sifted kept pushed
  sift_logged [] i v h r m = refl
  sift_logged (e ∷ es) i v h r m =
      ap (λ x. fold (sifted p) (pick (p x) (stored v x) v) (range (i + 1) (length es))) (ap (λ (l : List (List ℕ)). get_or l 0 []) m)
      ∙ under (sift_logged es (i + 1)) (p (words_of e))
    where
      rest : map (place_of v.words) (range (i + 1) (length es)) ≡ map words_of es
      rest = ap (drop 1) m

      under :
          ((u : Log) → u.len ≤ i + 1 → i + 1 + length es ≤ 96 → map (place_of u.words) (range (i + 1) (length es)) ≡ map words_of es → fold (sifted p) u (range (i + 1) (length es)) ≡ logged u (kept (λ e. p (words_of e)) es))
          → (t : Bool)
          → fold (sifted p) (pick t (stored v (words_of e)) v) (range (i + 1) (length es)) ≡ logged v (pick t (e ∷ kept (λ e. p (words_of e)) es) (kept (λ e. p (words_of e)) es))
      under ih true =
          let l : (stored v (words_of e)).len ≡ v.len + 1 = stored-len v (words_of e) (omega arith) in
          ih (stored v (words_of e)) (omega arith) (omega arith)
          (same-on (place_of (stored v (words_of e)).words) (place_of v.words) (i + 1) (length es) (λ j a b. stored-behind v (words_of e) j (eight-words e) (omega arith)) ∙ rest)
      under ih false = ih v (omega arith) (omega arith) rest

pub withdrawn-over : (cur pend : When) (ws : List ℕ) (es : List Event) → length es ≤ 96 → length ws ≡ 768 → withdrawn cur pend (logged (at 0 ws) es) ≡ logged (at 0 (over es ws)) (kept (stays cur pend) es)
unfolding withdrawn taken_of at
withdrawn-over cur pend ws es h k =
    ap (withdrawn cur pend) (logged-over ws es h k)
    ∙ (ap (λ n. fold (sifted (words_stay cur pend)) (at 0 (over es ws)) (range 0 n)) (least-left h)
    ∙ sift_logged (words_stay cur pend) es 0 (at 0 (over es ws)) (omega arith) (omega arith) places)
  where
    places : map (place_of (over es ws)) (range 0 (length es)) ≡ map words_of es
    places = sym (held-taken (at (length es) (over es ws)) h) ∙ (ap held (sym (logged-over ws es h k)) ∙ held-answer ws es h k)

-- ---- what a call leaves

-- one that tells nothing leaves every word
pub written_none : (number : ℕ) (ws : List ℕ) → Written number [] [] 0 ws ws
unfolding over words_in
written_none number ws = record { many = refl; few = omega arith; events = held-empty ws; words = refl; untouched = λ n. refl }

module _ (number : ℕ) (first out : List Event) (len : ℕ) (ws ws' : List ℕ) where
  pub written :
      length ws ≡ 768 → length first ≤ 96 → length out ≤ 96
      → at len ws' ≡ logged (at 0 (over first ws)) out
      → ((number ≡ 0 → ⊥) → (first ≡ []) × (out ≡ []))
      → Written number first out len ws ws'
  unfolding over words_in
  written k f o e b =
      record {
        many = many;
        few = omega (arith, many);
        events = ap held e ∙ held-answer (over first ws) out o long;
        words = words;
        untouched = λ n. words ∙ ap₂ (λ f o. over o (over f ws)) (b n).0 (b n).1 ∙ nothing;
      }
    where
      long : length (over first ws) ≡ 768
      long = length_over first ws f k

      many : len ≡ length out
      many = sym (at_len len ws') ∙ (ap (λ (v : Log). v.len) e ∙ answer-len (over first ws) out o)

      words : ws' ≡ over out (over first ws)
      words =
          sym (at_words len ws')
          ∙ (ap (λ (v : Log). v.words) (e ∙ logged-over (over first ws) out o long) ∙ at_words (length out) (over out (over first ws)))

      nothing : over [] (over [] ws) ≡ ws
      nothing = refl

-- and one that withdraws nothing
pub written_all : (number : ℕ) (out : List Event) (len : ℕ) (ws ws' : List ℕ) → length ws ≡ 768 → length out ≤ 96 → at len ws' ≡ logged (at 0 ws) out → ((number ≡ 0 → ⊥) → out ≡ []) → Written number [] out len ws ws'
unfolding over words_in
written_all number out len ws ws' k o e b = written number [] out len ws ws' k (omega arith) o e (λ n. (refl, b n))

-- ---- the two ways out

module _ (r : Refused) (s : State) (o : Outcome) where
  pub by-back : (r.number ≡ 0 → ⊥) → outcome_by r s o ≡ sent_back r s
  unfolding outcome_by
  by-back n = ap (λ b. pick b o (sent_back r s)) (ne_eqb r.number 0 n)

  pub by-taken : r.number ≡ 0 → outcome_by r s o ≡ o
  unfolding outcome_by
  by-taken z = ap (λ b. pick b o (sent_back r s)) (eq-eqb r.number 0 z)

  -- what holds of both holds of the outcome
  pub by-test : (P : Outcome → Type 0) → P (sent_back r s) → (eqb r.number 0 ≡ true → P o) → P (outcome_by r s o)
  unfolding outcome_by
  by-test P x y = under (eqb r.number 0) refl
    where
      under : (b : Bool) → eqb r.number 0 ≡ b → P (pick b o (sent_back r s))
      under true e = y e
      under false e = x

  pub by-either : (P : Outcome → Type 0) → P (sent_back r s) → P o → P (outcome_by r s o)
  by-either P x y = by-test P x (λ e. y)

  -- number and place are those of the tests, where tests that give no number give no place
  pub by-refused : o.number ≡ 0 → o.place ≡ 0 → (r.number ≡ 0 → r.place ≡ 0) → refused_of (outcome_by r s o) ≡ r
  unfolding outcome_by
  by-refused n p f = under (eqb r.number 0) refl
    where
      under : (b : Bool) → eqb r.number 0 ≡ b → refused_of (pick b o (sent_back r s)) ≡ r
      under true e =
          let z = eqb-true r.number 0 e in
          ap₂ (λ a b. record { number = a; place = b }) (n ∙ sym z) (p ∙ sym (f z))
      under false e = refl

  -- and what holds of them holds of the outcome's
  pub by_tests : (P : Refused → Type 0) → o.number ≡ 0 → o.place ≡ 0 → (r.number ≡ 0 → r.place ≡ 0) → P r → P (refused_of (outcome_by r s o))
  by_tests P n p f x = subst P (sym (by-refused n p f)) x

  -- the number decides which of the two it is
  pub by_zero : o.number ≡ 0 → (outcome_by r s o).number ≡ 0 → r.number ≡ 0
  by_zero n z = under (eqb r.number 0) refl z
    where
      under : (b : Bool) → eqb r.number 0 ≡ b → (outcome_by r s o).number ≡ 0 → r.number ≡ 0
      under true e z = eqb-true r.number 0 e
      under false e z = sym (ap (λ (q : Outcome). q.number) (by-back (eqb-false r.number 0 e))) ∙ z

  -- sent back, it is the number alone
  pub by_nonzero : o.number ≡ 0 → ((outcome_by r s o).number ≡ 0 → ⊥) → outcome_by r s o ≡ sent_back r s
  by_nonzero n h = by-back (λ z. h (ap (λ (q : Outcome). q.number) (by-taken z) ∙ n))
