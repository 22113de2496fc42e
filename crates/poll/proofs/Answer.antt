-- What the poll's code promises, on its two ways out: the answer with the words of the log.
use Rattle.std.specs.Prelude.{ℕ, ◌≤◌, Bool, ◌≡◌, List, ℤ, length, Err}
use Rattle.std.proofs.Math.Path.{refl, subst}
use Rattle.std.proofs.Common.{◌∙◌, ap, arith}
use Rattle.settings.specs.declared.Config.{Config}
use Rattle.state.specs.declared.State.{State}
use Rattle.state.specs.declared.Profile.{Profile}
use Rattle.state.specs.declared.Given.{Given}
use Rattle.events.specs.Log.{at, logged}
use Rattle.events.specs.declared.Log.{Log}
use Rattle.refusal.specs.declared.Refusal.{Refusal}
use Rattle.refusal.specs.Refused.{refused_of}
use Rattle.refusal.specs.Refusal.{accepted, before_poll}
use Rattle.answer.specs.declared.Answer.{Answer}
use Rattle.answer.specs.Written.{Written}
use Rattle.answer.proofs.Laws.{written}
use Rattle.answer.specs.Answers.{Answers, back_with, taken_with}
use Rattle.answer.proofs.Answers.{answers_refused, answers_accepted}
use Rattle.poll_loop.specs.Passes.{Ended, three_passes, Leaves}
use Rattle.poll_close.specs.Closing.{unsealed, closing}
use Rattle.poll_close.specs.Logs.{Becomes, closed_log, unsealed-most, closed-told}
use Rattle.poll.specs.Poll.{given_to, settled, accepted_poll, poll_of}
use Rattle.law_poll.specs.Most.{passes-most}
use Rattle.law_poll.specs.After.{closing-most}

module _ (s : State) (cfg : Config) (p : Profile) (now : ℕ) (workers : Bool) (spread : ℤ) (extra : ℕ) (a : Answer) where
  abbrev g : Given
  g = given_to cfg p now workers extra

  -- a poll that is sent back
  pub poll-back :
      (e : Refusal) → refused_of (Err e) ≡ before_poll s cfg p spread extra → a ≡ back_with (refused_of (Err e)) s
      → (ws : List ℕ) → Answers (poll_of s cfg p now workers spread extra) a ws ws
  unfolding poll_of
  poll-back e b h ws = answers_refused (before_poll s cfg p spread extra) s (accepted_poll s g spread) a e b h ws

  -- one that is accepted
  module _ (left : State) (ended : Bool) (count : ℕ) (l₀ l l' : Log) (ws ws' : List ℕ) (first : l₀.words.now ≡ ws) (last : l'.words.now ≡ ws') (long : length ws ≡ 768) where
    pub poll-on :
        accepted ≡ before_poll s cfg p spread extra → l₀.len ≡ 0
        → Leaves (three_passes s g spread) l₀ left ended count l
        → Becomes (closed_log left g ended) l l'
        → a ≡ taken_with left l'.len count
        → Answers (poll_of s cfg p now workers spread extra) a ws ws'
    unfolding poll_of accepted_poll
    poll-on b z h c e =
        subst (λ v. Answers (poll_of s cfg p now workers spread extra) a ws v) last
        (subst (λ v. Answers (poll_of s cfg p now workers spread extra) a v l'.words.now) first
        (answers_accepted (before_poll s cfg p spread extra) s (settled g t) a b left l'.len count e refl refl h.state h.counts l₀.words.now l'.words.now all))
      where
        t : Ended
        t = three_passes s g spread

        v : List ℕ
        v = l₀.words.now

        wide : length v ≡ 768
        wide = ap length first ∙ long

        room : length t.work.out ≤ 88
        room = omega (arith, passes-most s g spread)

        closed : at l'.len l'.words.now ≡ closed_log t.work.state g t.work.ended (logged (at 0 v) t.work.out)
        closed =
            c.log
            ∙ (ap (λ x. closed_log x g ended (at l.len l.words.now)) h.state
            ∙ (ap (λ x. closed_log t.work.state g x (at l.len l.words.now)) h.ends
            ∙ ap (closed_log t.work.state g t.work.ended) (h.tells.appends ∙ ap (λ n. logged (at n v) t.work.out) z)))

        all : Written 0 (unsealed t.work.state g t.work.ended t.work.out) (closing t.work.state g t.work.ended t.work.out) l'.len v l'.words.now
        all =
            written 0 (unsealed t.work.state g t.work.ended t.work.out) (closing t.work.state g t.work.ended t.work.out) l'.len v l'.words.now wide
            (omega (arith, room, unsealed-most t.work.state g t.work.ended t.work.out))
            (omega (arith, room, closing-most t.work.state g t.work.ended t.work.out))
            (closed ∙ closed-told v wide t.work.state g t.work.ended t.work.out room)
            (λ f. absurd (f refl))
