-- The link keeps the laws, so demand 3 holds of it.
use mathlib.Core.Path.{◌≡◌, refl, sym, ◌∙◌, ap, ap₂, subst}
use mathlib.Core.Bool.{Bool, true, false, ◌&&◌, false≢true}
use mathlib.Core.List.{List, [], ◌∷◌}
use mathlib.Core.Logic.{◌⊎◌, inl, inr}
use mathlib.Core.Option.{none, some}
use Prim.Native.Nat.{ℕ, zero, suc, ◌≤◌, ◌<◌}
use native.Mathlib.Omega.{arith}
use borrow.Author.Tests.{lt-leb}
use lib.Dec.{leb}
use Rattle.time.specs.declared.When.{When}
use Rattle.time.specs.Pick.{pick}
use Rattle.time.specs.Time.{reached_of}
use Rattle.state.specs.declared.State.{State}
use Rattle.events.specs.Events.{Event}
use Rattle.wake.specs.Due.{some_in}
use Rattle.wake.specs.Wake.{wake_of}
use Rattle.wake.specs.Quiet.{quiet_of, held_something}
use Rattle.refusal.specs.Refusal.{state_back}
use Rattle.law_refusal.specs.Sound.{sound}
use Rattle.answer.specs.Outcome.{Outcome}
use Rattle.law_early.specs.Early.{Early}
use Rattle.law_alike.specs.Whole.{alike, stood}
use Rattle.law_alike.specs.Due.{quiet-alike, wake-alike, held-alike}
use Rattle.law_agree.specs.Replies.{woke_alike, status_alike}
use Rattle.law_runs.specs.Agree.{poll-alike}
use Rattle.poll.specs.Poll.{poll_of}
use Rattle.poll.proofs.Exact.{poll_exact}
use Rattle.poll.proofs.Laws.{poll-accepted, poll-ages, poll-still, poll-speaks}
use Rattle.law_runs.specs.Late.{poll-late}
use Rattle.law_runs.specs.Runs.{Kind, poll, named, gave, back, Laws, Late, logged, goes_on, quiet, accepted, heard as heard_by}
use Rattle.law_runs.specs.Served.{Name, no_buffers, answer_of}
use Rattle.law_runs.specs.Others.{refused, said}
use Rattle.law_runs.proofs.Woken.{taken, woke-accepted, status-accepted}
use Rattle.law_runs.specs.Link.{Call, a_poll, other, served, kind_of, at_of, step, given, instant_of, wake_for, workers_of, link, TwoRuns}
use Rattle.law_runs.proofs.TwoRuns.{demand3}

abbrev IsPoll : Kind Name → Type 0
IsPoll poll = Unit {0}
IsPoll (named n) = ⊥

kept : (c : Call) (s : State) → state_back s ≡ 0 → state_back (step c s).next ≡ 0
kept (a_poll cfg p now workers spread extra) s o = poll-accepted s cfg p now workers spread extra o
kept (other v) s o = (served v).kept s o

ages : (c : Call) (s : State) (t : ℕ) → state_back s ≡ 0 → at_of c ≤ t → Early s t → Early (step c s).next t
ages (a_poll cfg p now workers spread extra) s t o h e = poll-ages s cfg p now workers spread extra t h (sound s o) e
ages (other v) s t o h e = (served v).ages s t o h e

-- ---- a poll by its number

silent : (n place : ℕ) (out : List Event) (count : ℕ) → n ≡ 0 → out ≡ [] → count ≡ 0 → logged (answer_of n place out (some count)) ≡ false
silent n place out count a b c = rw (a, b, c)

spoken : (out : List Event) (count : ℕ) → (some_in out ≡ true) ⊎ (0 < count) → logged (gave out (some count)) ≡ true
spoken (e ∷ out) count h = refl
spoken [] zero (inl h) = absurd (false≢true h)
spoken [] zero (inr h) = absurd (omega arith)
spoken [] (suc n) h = refl

-- refused, or spoken
heard : (n place : ℕ) (out : List Event) (count : ℕ) (b : Bool) → goes_on (answer_of n place out (some count)) && b ≡ false → (n ≡ 0 → b ≡ false → (some_in out ≡ true) ⊎ (0 < count)) → logged (answer_of n place out (some count)) ≡ true
heard zero place out count b q h = spoken out count (h refl q)
heard (suc n) place out count b q h = refl

-- a wake that is absent or later is not reached
unreached : (w : When) (t : ℕ) → Late (instant_of w) t → reached_of w t ≡ false
unreached w t l = under w.some l
  where
    under : (b : Bool) → Late (pick b (some w.at) none) t → pick b (leb w.at t) false ≡ false
    under true h = lt-leb w.at t h
    under false h = refl

still : (c : Call) (s : State) → kind_of c ≡ poll → quiet link c s ≡ true → (logged (step c s).said ≡ false) × ((step c s).next ≡ s)
unfolding quiet_of
still (a_poll cfg p now workers spread extra) s k q =
    let a = poll_of s cfg p now workers spread extra in
    let t = taken a.number a.place a.out (some a.count) (quiet_of s cfg p now workers) q in
    let r = poll-still s cfg p now workers spread extra t.0 t.1 in
    (silent a.number a.place a.out a.count t.0 (ap (λ (x : Outcome). x.out) r) (ap (λ (x : Outcome). x.count) r), ap (λ (x : Outcome). x.state) r)
still (other v) s k q = absurd (subst IsPoll (sym k) tt)

speaks : (c : Call) (s : State) → kind_of c ≡ poll → quiet link c s ≡ false → logged (step c s).said ≡ true
unfolding quiet_of
speaks (a_poll cfg p now workers spread extra) s k q =
    let a = poll_of s cfg p now workers spread extra in
    heard a.number a.place a.out a.count (quiet_of s cfg p now workers) q (poll-speaks s cfg p now workers spread extra)
speaks (other v) s k q = absurd (subst IsPoll (sym k) tt)

-- ---- sent back

leaves : (c : Call) (s : State) → accepted link c s ≡ false → ((step c s).next ≡ s) × ((step c s).bytes ≡ given c)
leaves (a_poll cfg p now workers spread extra) s q = (((poll_exact s cfg p spread extra now workers).back (refused _ _ _ _ q)).0, refl)
leaves (other v) s q = (served v).leaves s q

late :
    (c : Call) (s : State) → state_back s ≡ 0 → Early s (at_of c) → kind_of c ≡ poll → accepted link c s ≡ true → workers_of c ≡ false
    → held_something s ≡ true → Late (wake_for c s) (at_of c) → quiet link c s ≡ true
unfolding quiet_of
late (a_poll cfg p now workers spread extra) s o e k a w h l =
    let q : quiet_of s cfg p now workers ≡ true =
    ap (quiet_of s cfg p now) w ∙ poll-late s cfg p now (sound s o) e h (unreached (wake_of s cfg p) now l) in
    ap (λ b. b && quiet_of s cfg p now workers) a ∙ q
late (other v) s o e k a w h l = absurd (subst IsPoll (sym k) tt)

-- ---- what stands decides

one :
    (c : Call) (s t : State) → link.stands s ≡ link.stands t
    → (heard_by link c s ≡ heard_by link c t) × (link.stands (step c s).next ≡ link.stands (step c t).next)
    × (quiet link c s ≡ quiet link c t) × (link.wake c s ≡ link.wake c t) × (link.held s ≡ link.held t)
unfolding quiet_of
one (a_poll cfg p now workers spread extra) s t e =
    let a = alike (record { eq = e }) in
    let r = poll-alike a cfg p now workers spread extra in
    let h = said r.number r.place r.out (ap some r.count) in
    (ap (λ x. record { said = x; bytes = no_buffers }) h, (stood r.state).eq, ap₂ (λ b q. b && q) (ap goes_on h) (quiet-alike a cfg p now workers), ap (λ w. instant_of w) (wake-alike a cfg p), cc (held-alike a))
one (other v) s t e =
    let k = (served v).one s t e in
    (ap₂ (λ x b. record { said = x; bytes = b }) k.0 k.1, k.2, ap (λ b. goes_on b && true) k.0, refl, cc (held-alike (alike (record { eq = e }))))

laws : Laws link
laws = record { kept = kept; ages = ages; still = still; speaks = speaks; back = leaves; one = one; late = late }

pub two_runs : TwoRuns
two_runs =
    record {
      holds = demand3 link laws;
      words = λ s t e cfg p now workers spread extra. (poll-alike (alike (record { eq = e })) cfg p now workers spread extra).written;
      woken = λ s t e cfg p. woke_alike (alike (record { eq = e })) cfg p;
      shown = λ s t e cfg p now. status_alike (alike (record { eq = e })) cfg p now;
      names = λ s cfg p now workers spread extra a. woke-accepted s cfg p now workers spread extra a;
      lines = λ s cfg p now workers spread extra t a. status-accepted s cfg p now workers spread extra t a;
    }
