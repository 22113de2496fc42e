-- Laws of a start reply.
use Rattle.std.specs.Prelude.{ℕ, ◌≤◌, ◌+◌, Bool, not, ◌&&◌, ◌≡◌, [], ◌∷◌, eqb, ltb}
use Rattle.std.proofs.Math.Bool.{true, false}
use Rattle.std.proofs.Math.Path.{refl, ap}
use Rattle.std.proofs.Common.{◌∙◌, le-ltb}
use Rattle.time.specs.declared.When.{When}
use Rattle.time.specs.Pick.{pick}
use Rattle.time.specs.Time.{least}
use Rattle.settings.specs.declared.Config.{Config}
use Rattle.numbers.specs.Numbers.{refused_no_start}
use Rattle.state.specs.declared.Memory.{Memory}
use Rattle.state.specs.declared.State.{State}
use Rattle.state.specs.declared.Profile.{Profile}
use Rattle.start.specs.Start.{silence_interval, start_kind, called_for}
use Rattle.refusal.specs.Refusal.{first, by, numbered, given_tests, state_tests, link_tests, before_link}
use Rattle.refusal.specs.First.{rising}
use Rattle.refusal.proofs.First.{first-append}
use Rattle.answer.specs.Outcome.{done}
use Rattle.answer.proofs.Laws.{by-either}
use Rattle.call_reply.specs.declared.StartReply.{StartReply}
use Rattle.call_reply.specs.Reply.{raises_silence, silence_after, started_of, taken_of, replied_tests, reply_refused, reply_of}

module _ (s : State) (cfg : Config) (p : Profile) (now : ℕ) where
  own_ten : first (by refused_no_start (not (called_for s cfg p now)) ∷ []) ≡ numbered (pick (called_for s cfg p now) 0 refused_no_start)
  unfolding first
  own_ten = under (called_for s cfg p now)
    where
      under : (b : Bool) → pick (not b) (numbered 10) (numbered 0) ≡ numbered (pick b 0 10)
      under true = refl
      under false = refl

  -- 1 to 6 come first
  pub reply-refused : reply_refused s cfg p now ≡ pick (eqb (before_link s cfg p).number 0) (numbered (pick (called_for s cfg p now) 0 refused_no_start)) (before_link s cfg p)
  unfolding reply_refused replied_tests link_tests given_tests state_tests rising
  reply-refused =
      first-append (link_tests s cfg p) (by refused_no_start (not (called_for s cfg p now)) ∷ []) 0 refl
      ∙ ap (λ r. pick (eqb (before_link s cfg p).number 0) r (before_link s cfg p)) own_ten

  -- at `hard` no start is called for, and so no reply is taken
  pub none-at-hard : cfg.hard ≤ s.cur.ep.sent → called_for s cfg p now ≡ false
  unfolding called_for
  none-at-hard h = both (start_kind s cfg p now).some (le-ltb s.cur.ep.sent cfg.hard h)
    where
      both : (b : Bool) {x : Bool} → x ≡ false → b && x ≡ false
      both true e = e
      both false e = refl

  -- a start that opened nothing leaves the state, refused or not
  pub unopened : (r : StartReply) → r.opened ≡ false → (reply_of s cfg p now r).state ≡ s
  unfolding reply_of taken_of
  unopened r e =
      by-either (reply_refused s cfg p now) s (done (pick r.opened (started_of s cfg p now r) s) []) (λ o. o.state ≡ s) refl
      (ap (λ b. pick b (started_of s cfg p now r) s) e)

-- an interval that has reached `after` leaves the silence count
pub silence-kept : (m : Memory) (cfg : Config) (kind : When) → cfg.after ≤ silence_interval m cfg → silence_after m cfg kind ≡ m.silence
unfolding silence_after raises_silence
silence-kept m cfg kind h =
    under (eqb kind.at 1) (ltb (silence_interval m cfg) cfg.after) (le-ltb (silence_interval m cfg) cfg.after h)
  where
    under : (b x : Bool) → x ≡ false → pick (b && x) (least (m.silence + 1) 255) m.silence ≡ m.silence
    under true x e = ap (λ q. pick q (least (m.silence + 1) 255) m.silence) e
    under false x e = refl
