-- The two ways out of a poll and of an `open`, for any record that says what the tests said, over the words of a log
-- and the number of its events.
use Rattle.std.specs.Prelude.{ℕ, ◌≤◌, Bool, ◌≡◌, List, ℤ, length}
use Rattle.std.proofs.Math.Path.{refl, subst}
use Rattle.std.proofs.Common.{◌∙◌, ap, arith}
use Rattle.settings.specs.declared.Config.{Config}
use Rattle.epoch.specs.declared.Index.{Index}
use Rattle.state.specs.declared.State.{State}
use Rattle.state.specs.declared.Profile.{Profile}
use Rattle.state.specs.declared.Given.{Given}
use Rattle.events.specs.Log.{at, logged, Appends}
use Rattle.refusal.specs.Refused.{Refused}
use Rattle.refusal.specs.Refusal.{before_poll, before_open}
use Rattle.answer.specs.declared.Answer.{Answer}
use Rattle.answer.specs.Written.{Written}
use Rattle.answer.proofs.Laws.{written, written_all}
use Rattle.answer.specs.Answers.{Answers, back_with, taken_with}
use Rattle.answer.proofs.Answers.{answers_back, answers-on}
use Rattle.poll_loop.specs.Passes.{Ended, three_passes}
use Rattle.poll_close.specs.Closing.{unsealed, closing}
use Rattle.poll_close.specs.Logs.{closed_log, unsealed-most, closed-told}
use Rattle.law_poll.specs.Most.{passes-most}
use Rattle.law_poll.specs.After.{closing-most}
use Rattle.poll.specs.Poll.{given_to, settled, accepted_poll, poll_of}
use Rattle.call_open.specs.Open.{first_epoch, fresh_state, blank_state, install_out, opened, open_of}
use Rattle.call_open.proofs.Laws.{few}
use Rattle.law_worked.specs.Lent.{Leaves}

-- ---- a poll

module _
    (s : State) (cfg : Config) (p : Profile) (now : ℕ) (workers : Bool) (spread : ℤ) (extra : ℕ)
    (z : ℤ) (y : z ≡ spread) (back : Refused) (b₀ : back ≡ before_poll s cfg p z extra) (a : Answer)
  where
    -- z is the spread as the callees were given it
    b : back ≡ before_poll s cfg p spread extra
    b = b₀ ∙ ap (λ x. before_poll s cfg p x extra) y

    abbrev g : Given
    g = given_to cfg p now workers extra

    -- a poll that is sent back
    pub poll-back : (back.number ≡ 0 → ⊥) → a ≡ back_with back s → (ws : List ℕ) → Answers (poll_of s cfg p now workers spread extra) a ws ws
    unfolding poll_of
    poll-back n e ws = answers_back (before_poll s cfg p spread extra) s (accepted_poll s g spread) back b a n e ws

    -- one that is accepted
    module _ (zero : back.number ≡ 0) (left : State) (len : ℕ) (ended : Bool) (count : ℕ) (ws ws' ws'' : List ℕ) (n : ℕ) (wide : length ws ≡ 768) where
      pub poll-on :
          a ≡ taken_with left n count
          → Leaves (three_passes s g z) ws left len ended count ws'
          → at n ws'' ≡ closed_log left g ended (at len ws')
          → Answers (poll_of s cfg p now workers spread extra) a ws ws''
      unfolding poll_of accepted_poll
      poll-on e l₀ c =
          answers-on (before_poll s cfg p spread extra) s (settled g t) back b a zero left n count e refl refl l.state l.counts ws ws'' all
        where
          l : Leaves (three_passes s g spread) ws left len ended count ws'
          l = subst (λ x. Leaves (three_passes s g x) ws left len ended count ws') y l₀

          t : Ended
          t = three_passes s g spread

          room : length t.work.out ≤ 88
          room = omega (arith, passes-most s g spread)

          closed : at n ws'' ≡ closed_log t.work.state g t.work.ended (logged (at 0 ws) t.work.out)
          closed =
              c
              ∙ (ap (λ x. closed_log x g ended (at len ws')) l.state
              ∙ (ap (λ x. closed_log t.work.state g x (at len ws')) l.ends
              ∙ ap (closed_log t.work.state g t.work.ended) l.log))

          all : Written 0 (unsealed t.work.state g t.work.ended t.work.out) (closing t.work.state g t.work.ended t.work.out) n ws ws''
          all =
              written 0 (unsealed t.work.state g t.work.ended t.work.out) (closing t.work.state g t.work.ended t.work.out) n ws ws'' wide
              (omega (arith, room, unsealed-most t.work.state g t.work.ended t.work.out))
              (omega (arith, room, closing-most t.work.state g t.work.ended t.work.out))
              (closed ∙ closed-told ws wide t.work.state g t.work.ended t.work.out room)
              (λ f. absurd (f refl))

-- ---- an `open`

module _ (cfg : Config) (p : Profile) (responder : Bool) (transport : ℕ) (lease : Index) (workers : Bool) (spread : ℤ) (time : ℕ) where
  -- one that is accepted
  pub open-on :
      (back : Refused) → back ≡ before_open cfg p spread → (a : Answer) → back.number ≡ 0
      → (left : State) (len : ℕ) → a ≡ taken_with left len 0 → left ≡ fresh_state responder transport lease spread time
      → (ws ws' : List ℕ) → length ws ≡ 768 → Appends (install_out (first_epoch responder transport lease time) workers) 0 ws len ws'
      → Answers (open_of cfg p responder transport lease workers spread time) a ws ws'
  unfolding open_of opened
  open-on back b a z left len e h ws ws' k w =
      answers-on (before_open cfg p spread) blank_state (opened responder transport lease workers spread time) back b a z left len 0 e refl refl h refl ws ws'
      (written_all 0 (install_out (first_epoch responder transport lease time) workers) len ws ws' k (omega (arith, few (first_epoch responder transport lease time) workers)) w (λ n. absurd (n refl)))

  -- one that is sent back: no link is made, and no word is written
  pub open-back :
      (back : Refused) → back ≡ before_open cfg p spread → (a : Answer) → (back.number ≡ 0 → ⊥) → a ≡ back_with back blank_state
      → (ws : List ℕ) → Answers (open_of cfg p responder transport lease workers spread time) a ws ws
  unfolding open_of
  open-back back b a n e ws =
      answers_back (before_open cfg p spread) blank_state (opened responder transport lease workers spread time) back b a n e ws
