-- Laws of the calls by number.
use Rattle.std.specs.Prelude.{ℕ, ◌≡◌, refl, List, [], ◌∷◌, length}
use Rattle.std.proofs.Common.{sym, ap, subst, arith, length-append}
use borrow.Author.Tests.{ne_eqb}
use Rattle.events.specs.Events.{Event}
use Rattle.events.proofs.Laws.{eight-words}
use Rattle.answer.specs.declared.Answer.{Answer}
use Rattle.answer.specs.Outcome.{Outcome}
use Rattle.answer.specs.Written.{Written, words_in, over}
use Rattle.answer.specs.Answers.{Answers}
use Rattle.answer.proofs.Laws.{written_none}
use Rattle.text_notices.specs.Notices.{notice_on}
use Rattle.text_calls.specs.declared.Link.{Link}
use Rattle.text_calls.specs.Calls.{open_on, poll_on, frame_on, target_on, reply_on, sent_on, answer_on, left_on, call_open, call_poll, call_frame, call_reply, call_sent}

-- ---- a call that is lent no log leaves every word of one

-- events have words
filled : (e : Event) (es : List Event) (ws : List ℕ) → [] ≡ over (e ∷ es) ws → ⊥
unfolding over words_in
filled e es ws h = omega (arith, simp length-append at (ap length h), eight-words e)

none_written : (number : ℕ) (first out : List Event) (len : ℕ) (ws : List ℕ) → Written number first out len [] [] → Written number first out len ws ws
unfolding over words_in
none_written number first (e ∷ es) len ws w = absurd (filled e es (over first []) w.words)
none_written number (e ∷ es) [] len ws w = absurd (filled e es [] w.words)
none_written number [] [] len ws w = subst (λ n. Written number [] [] n ws ws) (sym w.many) (written_none number ws)

pub unlent : (o : Outcome) (r : Answer) (ws : List ℕ) → Answers o r [] [] → Answers o r ws ws
unlent o r ws h =
    record {
      number = h.number;
      place = h.place;
      state = h.state;
      count = h.count;
      log = none_written o.number o.written o.out r.len ws h.log;
    }

-- ---- what each call promises is what its number does

module _ (call : ℕ) (l : Link) (a source target : List ℕ) (r : Answer) (ws ws' : List ℕ) where
  pub by_open : call ≡ call_open → Answers (open_on l a) r ws ws' → Answers (answer_on call l a source target) r ws ws' × (target ≡ left_on call l a source target)
  unfolding answer_on left_on
  by_open e h = rw e (h, refl)

  pub by-poll : call ≡ call_poll → Answers (poll_on l a) r ws ws' → Answers (answer_on call l a source target) r ws ws' × (target ≡ left_on call l a source target)
  unfolding answer_on left_on
  by-poll e h = rw e (h, refl)

  pub by-frame : (left : List ℕ) → call ≡ call_frame → Answers (frame_on l a source target) r ws ws' → left ≡ target_on l a source target → Answers (answer_on call l a source target) r ws ws' × (left ≡ left_on call l a source target)
  unfolding answer_on left_on
  by-frame left e h k = rw e (h, k)

  pub by-notice :
      (call ≡ call_open → ⊥) → (call ≡ call_poll → ⊥) → (call ≡ call_frame → ⊥) → (call ≡ call_reply → ⊥) → (call ≡ call_sent → ⊥)
      → Answers (notice_on call l.state l.cfg l.profile a) r ws ws'
      → Answers (answer_on call l a source target) r ws ws' × (target ≡ left_on call l a source target)
  unfolding answer_on left_on
  by-notice o p f q t h =
      rw (ne_eqb call call_open o, ne_eqb call call_poll p, ne_eqb call call_frame f, ne_eqb call call_reply q, ne_eqb call call_sent t)
      (h, refl)

module _ (call : ℕ) (l : Link) (a source target : List ℕ) (r : Answer) (ws : List ℕ) where
  pub by-reply : call ≡ call_reply → Answers (reply_on l a) r [] [] → Answers (answer_on call l a source target) r ws ws × (target ≡ left_on call l a source target)
  unfolding answer_on left_on
  by-reply e h = rw e (unlent (reply_on l a) r ws h, refl)

  pub by-sent : call ≡ call_sent → Answers (sent_on l a) r [] [] → Answers (answer_on call l a source target) r ws ws × (target ≡ left_on call l a source target)
  unfolding answer_on left_on
  by-sent e h = rw e (unlent (sent_on l a) r ws h, refl)
