-- 6. "A ladder has more than 16 rungs, or stands past its last": neither taking rungs nor a schedule
-- made anew gives such a ladder.
use Rattle.std.specs.Prelude.{ℕ, suc, ◌≤◌, ◌-◌, Bool, true, false, List, [], ◌∷◌, length, drop}
use Rattle.std.proofs.Common.{arith, length-take, length-drop}
use Rattle.time.specs.declared.When.{When}
use Rattle.time.specs.Pick.{pick}
use Rattle.time.specs.Lists.{take_while}
use Rattle.time.specs.Time.{none, at}
use Rattle.time.specs.Laws.{least-le}
use Rattle.ladder.specs.declared.Ladder.{Ladder}
use Rattle.ladder.specs.declared.Schedule.{Schedule}
use Rattle.ladder.specs.Schedule.{Rung, Plan, max_rungs, cut, doubling_of, probes_of, laid, made_of, rungs_of, held_of}
use Rattle.ladder.proofs.Rungs.{length-rungs}
use Rattle.ladder.specs.Ladder.{remaining, is_due, due_rungs, untaken, take_of}
use Rattle.ladder.proofs.Counted.{cursor-after}
use Rattle.settings.specs.declared.Config.{Config}
use Rattle.params.specs.Params.{budget_of, first_made, elicit_made, revert_made}
use Rattle.law_refusal.specs.Sound.{Within}

-- ---- taking

while_most : (p : Rung → Bool) (l : List Rung) → length (take_while p l) ≤ length l
unfolding take_while
while_most p [] = omega arith
while_most p (r ∷ l) = under (p r) (while_most p l)
  where
    under : (q : Bool) → length (take_while p l) ≤ length l → length (pick q (r ∷ take_while p l) []) ≤ suc (length l)
    under true h = omega arith
    under false h = omega arith

held-len : (s : Schedule) → held_of max_rungs s ≤ s.len
unfolding held_of
held-len s = (least-le s.len max_rungs).0

due-most : (l : Ladder) (now : ℕ) → length (due_rungs l now) ≤ l.sched.len - l.next
unfolding due_rungs remaining
due-most l now =
    omega (
      arith,
      while_most (is_due l.origin now) (drop l.next (rungs_of max_rungs l.sched)),
      length-drop l.next (rungs_of max_rungs l.sched),
      length-rungs max_rungs l.sched,
      held-len l.sched,
    )

-- the cursor does not pass the last rung
pub take_within : (l : Ladder) (now : ℕ) → Within l.sched.len l.next → Within (take_of l now).ladder.sched.len (take_of l now).ladder.next
unfolding take_of
take_within l now w =
    record { rungs = w.rungs; cursor = omega (arith, cursor-after (untaken l) (due_rungs l now), due-most l now, w.cursor) }

-- ---- schedules made anew

cut_most : (limit : ℕ) (l : List Rung) (d : ℕ) → length (cut limit l d).rungs ≤ limit
unfolding cut
cut_most limit l d = simp length-take (omega arith)

doubling_most : (limit first count : ℕ) (end : When) → length (doubling_of limit first count end).rungs ≤ limit
unfolding doubling_of
doubling_most limit first count end = cut_most limit _ _

probes-most : (limit first count end gap : ℕ) → length (probes_of limit first count end gap).rungs ≤ limit
unfolding probes_of
probes-most limit first count end gap = cut_most limit _ _

made-within : (p : Plan) → length p.rungs ≤ max_rungs → Within (made_of max_rungs p).sched.len 0
unfolding made_of laid
made-within p h = record { rungs = h; cursor = omega arith }

-- resends that double
pub doubling_within : (first count : ℕ) (end : When) → Within (made_of max_rungs (doubling_of max_rungs first count end)).sched.len 0
doubling_within first count end = made-within (doubling_of max_rungs first count end) (doubling_most max_rungs first count end)

-- a first message's
pub first-within : (cfg : Config) → Within (first_made cfg).sched.len 0
unfolding first_made
first-within cfg = doubling_within 1000 cfg.resends (at (budget_of cfg))

-- prompt repeats after a cutover
pub elicit-within : (cfg : Config) → Within (elicit_made cfg).sched.len 0
unfolding elicit_made
elicit-within cfg = doubling_within 1000 2 none

-- probes after a revert
pub revert-within : (cfg : Config) → Within (revert_made cfg).sched.len 0
unfolding revert_made
revert-within cfg = made-within _ (probes-most max_rungs 1000 3 cfg.revert _)
