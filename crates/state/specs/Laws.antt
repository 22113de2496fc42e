-- Laws of what stands in a state.
use Rattle.std.specs.Prelude.{ℕ, zero, suc, ◌≤◌, ◌<◌, ◌+◌, true, false, ◌≡◌, refl, ◌∷◌, map, set}
use Rattle.std.proofs.Common.{ap, ap₂, arith, get_or-set_other}
use Rattle.time.specs.Lists.{range}
use Rattle.time.specs.Time.{least}
use Rattle.time.specs.Laws.{least-le}
use Rattle.ladder.specs.declared.Ladder.{Ladder}
use Rattle.ladder.specs.Schedule.{max_rungs, rung_at, held_of as rung_count, rungs_of}
use Rattle.epoch.specs.declared.Drain.{Drain}
use Rattle.cycle.specs.declared.PendI.{PendI}
use Rattle.cycle.specs.declared.PendR.{PendR}
use Rattle.cycle.specs.Kind.{is_init}
use Rattle.candidates.specs.declared.Candidates.{Candidates}
use Rattle.candidates.specs.Held.{held_of, cand_at, held_by}
use Rattle.candidates.proofs.Laws.{held-most}
use Rattle.state.specs.declared.State.{State}
use Rattle.state.specs.Parts.{put_drain, put_cycle}
use Rattle.state.specs.Stands.{candidate_view, candidates_view, cycle_view, ladder_view, stands}

-- what is behind a flag that is off
pub absent-drain : (s : State) (d : Drain) → s.drain.some ≡ false → d.some ≡ false → stands (put_drain s d) ≡ stands s
unfolding stands
absent-drain s d h e = rw (h, e)

-- the records of the cases that the cycle is not in
pub other_cases : (s : State) (p : PendI) (r : PendR) → is_init s.cycle.kind ≡ true → stands (put_cycle s (record { kind = s.cycle.kind; init = s.cycle.init; pendi = p; pendr = r })) ≡ stands s
unfolding stands cycle_view
other_cases s p r h = rw h

same-range : {A : Type 0} (f g : ℕ → A) (i n : ℕ) → ((j : ℕ) → j < i + n → f j ≡ g j) → map f (range i n) ≡ map g (range i n)
unfolding range
same-range f g i zero h = refl
same-range f g i (suc n) h =
    ap₂ (λ a l. a ∷ l) (h i (omega arith)) (same-range f g (i + 1) n (λ j k. h j (omega arith)))

-- a candidate's place from the count on
pub past-count : (v : Candidates) (i n : ℕ) → v.len ≤ i → candidates_view (record { hs = v.hs; msg1 = v.msg1; ack = v.ack; carrier = v.carrier; route = v.route; born = v.born; deadline = set v.deadline i n; bounded = v.bounded; bound = v.bound; seq = v.seq; len = v.len; next = v.next }) ≡ candidates_view v
unfolding candidates_view held_by cand_at
past-count v i n h =
    ap (λ l. record { count = v.len; list = map candidate_view l; next = v.next })
    (same-range _ _ 0 (held_of v.len)
    (λ j k. rw (get_or-set_other v.deadline i j n 0 (λ e. absurd (omega (arith, held-most v.len))))))

-- an offset from the schedule's length on
pub past-length : (l : Ladder) (i t : ℕ) → l.sched.len ≤ i → ladder_view (record { origin = l.origin; sched = record { at = set l.sched.at i t; keepalive = l.sched.keepalive; len = l.sched.len }; next = l.next }) ≡ ladder_view l
unfolding ladder_view rungs_of rung_at rung_count
past-length l i t h =
    ap (λ r. record { origin = l.origin; len = l.sched.len; rungs = r; next = l.next })
    (same-range _ _ 0 (least l.sched.len max_rungs)
    (λ j k. rw (get_or-set_other l.sched.at i j t 0 (λ e. absurd (omega (arith, least-le l.sched.len max_rungs))))))
