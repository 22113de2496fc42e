-- Rungs taken one by one from a lent ladder: what was taken so far, with what is still due, is all that is taken.
use Rattle.std.specs.Prelude.{ℕ, ◌+◌, ◌<◌, Bool, true, false, ◌≡◌, ◌∷◌, leb, length, Option, Some, None, IfSome}
use Rattle.std.proofs.Common.{refl, sym, ◌∙◌, ap, ap₂, arith}
use Rattle.time.specs.Lists.{fold}
use Rattle.time.specs.Time.{reached_of}
use Rattle.ladder.specs.declared.Ladder.{Ladder}
use Rattle.ladder.specs.declared.Taken.{Taken}
use Rattle.ladder.specs.Schedule.{max_rungs, rung_at}
use Rattle.ladder.specs.Took.{took_of, so_far, count_of}
use Rattle.ladder.specs.Ladder.{moved_to, due_of, due_rungs, due_from, remaining, instant_of, taking, told, untaken, take_of}
use Rattle.ladder.proofs.Laws.{next_instant, due_all, due_below, due-step, due-done}
use Rattle.ladder.proofs.Counted.{cursor-after}

-- l0 is the ladder at first, l the ladder now, t what was taken
pub record Ahead (l0 l : Ladder) (t : Option Taken) (now : ℕ) : Type 0 where
  pub moved : l ≡ moved_to l0 l.next
  pub all : fold taking (untaken l0) (due_rungs l0 now) ≡ fold taking (so_far l t) (due_rungs l now)
  pub count : count_of t + l0.next ≡ l.next
  pub last : IfSome t (λ x. x.last ≡ leb l.sched.len l.next)

pub nothing-yet : (l : Ladder) (now : ℕ) → Ahead l l None now
nothing-yet l now = record { moved = refl; all = refl; count = omega arith; last = tt }

module _ (l : Ladder) (now : ℕ) (b : Bool) (d : due_of l now ≡ b) where
  -- the code's test is on the instant of the next rung
  tested : reached_of (instant_of l l.next) now ≡ b
  unfolding due_of
  tested = ap (λ w. reached_of w now) (next_instant l) ∙ d

pub next-below : (l : Ladder) (now : ℕ) → due_of l now ≡ true → l.next < max_rungs
next-below l now d = due_below l l.next now (tested l now true d)

pub one-more : (l0 l m : Ladder) (t : Option Taken) (r : Taken) (now : ℕ) → Ahead l0 l t now → due_of l now ≡ true → m ≡ moved_to l (l.next + 1) → so_far m (Some r) ≡ taking (so_far l t) (rung_at l.sched l.next) → r.taken ≡ count_of t + 1 → r.last ≡ leb l.sched.len (l.next + 1) → Ahead l0 m (Some r) now
unfolding fold due_from due_rungs remaining
one-more l0 l m t r now a d p q n e =
    let step : due_rungs l now ≡ rung_at l.sched l.next ∷ due_rungs m now = due-step l l.next now (tested l now true d) ∙ ap (λ v. rung_at l.sched l.next ∷ due_rungs v now) (sym p) in
    record {
      moved = p ∙ ap (λ v. moved_to v (l.next + 1)) a.moved ∙ ap (λ v. moved_to l0 v.next) (sym p);
      all = a.all ∙ ap (fold taking (so_far l t)) step ∙ ap (λ v. fold taking v (due_rungs m now)) (sym q);
      count = rw p (omega (arith, n, a.count));
      last = rw p e;
    }

pub none-left : (l0 l : Ladder) (t : Option Taken) (now : ℕ) → Ahead l0 l t now → due_of l now ≡ false → took_of l t ≡ take_of l0 now
unfolding fold take_of
none-left l0 l t now a d = whole t a.last ∙ ap₂ (told l0) (sym number) (sym all)
  where
    all : fold taking (untaken l0) (due_rungs l0 now) ≡ so_far l t
    all = a.all ∙ ap (fold taking (so_far l t)) (sym (due_all l now) ∙ due-done l l.next now (tested l now false d))

    cursor : (t : Option Taken) → (so_far l t).next ≡ l.next
    cursor None = refl
    cursor (Some r) = refl

    number : length (due_rungs l0 now) ≡ count_of t
    number = omega (arith, ap (λ v. v.next) all, cursor t, cursor-after (untaken l0) (due_rungs l0 now), a.count)

    whole : (t : Option Taken) → IfSome t (λ x. x.last ≡ leb l.sched.len l.next) → took_of l t ≡ told l0 (count_of t) (so_far l t)
    whole None e = ap (λ v. took_of v None) a.moved
    whole (Some r) e =
        ap₂ (λ v b. record { ladder = v; any = true; taken = r.taken; send = r.send; latest = r.latest; last = b }) a.moved
        (e ∙ ap (λ v. leb v.sched.len l.next) a.moved)
