-- What the code of every call promises: the answer, field by field, and the words of the log.
use Rattle.std.specs.Prelude.{ℕ, ◌≡◌, refl, List, [], Err}
use Rattle.std.proofs.Common.{sym, ◌∙◌, ap, subst}
use Rattle.state.specs.declared.State.{State}
use Rattle.refusal.specs.declared.Refusal.{Refusal}
use Rattle.refusal.specs.Refused.{Refused, refused_of}
use Rattle.refusal.specs.Refusal.{accepted}
use Rattle.refusal.proofs.Parts.{numbered_one}
use Rattle.answer.specs.declared.Answer.{Answer}
use Rattle.answer.specs.Outcome.{Outcome, done, outcome_by}
use Rattle.answer.specs.Written.{Written}
use Rattle.answer.proofs.Laws.{written_none, by-back, by-taken}
use Rattle.answer.specs.Answers.{Answers, back_with, taken_with}

module _ (r : Refused) (s : State) (o : Outcome) (back : Refused) (b : back ≡ r) (a : Answer) where
  -- sent back: no word is written
  pub answers_back : (back.number ≡ 0 → ⊥) → a ≡ back_with back s → (ws : List ℕ) → Answers (outcome_by r s o) a ws ws
  answers_back n e ws =
      subst (λ (x : Outcome). Answers x a ws ws) (sym (by-back r s o (λ z. n (ap (λ (q : Refused). q.number) b ∙ z))))
      (record {
        number = ap (λ (q : Answer). q.number) e ∙ ap (λ (q : Refused). q.number) b;
        place = ap (λ (q : Answer). q.place) e ∙ ap (λ (q : Refused). q.place) b;
        state = ap (λ (q : Answer). q.state) e;
        count = ap (λ (q : Answer). q.count) e;
        log = subst (λ n. Written r.number [] [] n ws ws) (sym (ap (λ (q : Answer). q.len) e)) (written_none r.number ws);
      })

  -- accepted: what it wrote is what it tells
  pub answers-on :
      back.number ≡ 0 → (left : State) (len count : ℕ) → a ≡ taken_with left len count
      → o.number ≡ 0 → o.place ≡ 0 → left ≡ o.state → count ≡ o.count
      → (ws ws' : List ℕ) → Written 0 o.written o.out len ws ws'
      → Answers (outcome_by r s o) a ws ws'
  answers-on z left len count e n p h k ws ws' w =
      subst (λ (x : Outcome). Answers x a ws ws') (sym (by-taken r s o (ap (λ (q : Refused). q.number) (sym b) ∙ z)))
      (record {
        number = ap (λ (q : Answer). q.number) e ∙ sym n;
        place = ap (λ (q : Answer). q.place) e ∙ sym p;
        state = ap (λ (q : Answer). q.state) e ∙ h;
        count = ap (λ (q : Answer). q.count) e ∙ k;
        log =
            subst (λ m. Written m o.written o.out a.len ws ws') (sym n)
            (subst (λ m. Written 0 o.written o.out m ws ws') (sym (ap (λ (q : Answer). q.len) e)) w);
      })

  -- accepted, of a call that is lent no log
  pub answers_unlent : back.number ≡ 0 → (left : State) → a ≡ taken_with left 0 0 → o ≡ done left [] → Answers (outcome_by r s o) a [] []
  answers_unlent z left e k =
      answers-on z left 0 0 e (ap (λ (q : Outcome). q.number) k) (ap (λ (q : Outcome). q.place) k) (sym (ap (λ (q : Outcome). q.state) k)) (sym (ap (λ (q : Outcome). q.count) k)) [] []
      (subst (λ (q : Outcome). Written 0 q.written q.out 0 [] []) (sym k) (written_none 0 []))

-- the same where the tests give a result: sent back by a refusal, ..
module _ (r : Refused) (s : State) (o : Outcome) (a : Answer) where
  pub answers_refused : (e : Refusal) → refused_of (Err e) ≡ r → a ≡ back_with (refused_of (Err e)) s → (ws : List ℕ) → Answers (outcome_by r s o) a ws ws
  answers_refused e b h ws = answers_back r s o (refused_of (Err e)) b a (numbered_one e) h ws

  -- .. or accepted
  pub answers_accepted :
      accepted ≡ r → (left : State) (len count : ℕ) → a ≡ taken_with left len count
      → o.number ≡ 0 → o.place ≡ 0 → left ≡ o.state → count ≡ o.count
      → (ws ws' : List ℕ) → Written 0 o.written o.out len ws ws'
      → Answers (outcome_by r s o) a ws ws'
  answers_accepted b left len count e n p h k ws ws' w =
      answers-on r s o accepted b a refl left len count e n p h k ws ws' w

  -- of a call that is lent no log
  pub answers_silent : accepted ≡ r → (left : State) → a ≡ taken_with left 0 0 → o ≡ done left [] → Answers (outcome_by r s o) a [] []
  answers_silent b left e k = answers_unlent r s o accepted b a refl left e k
