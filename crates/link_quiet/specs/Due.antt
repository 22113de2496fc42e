-- Whether the least of some instants is reached, part by part.
use Rattle.std.specs.Prelude.{ℕ, ◌≤◌, ◌<◌, ◌+◌, true, false, ◌||◌, ◌≡◌, List, [], ◌∷◌, ◌++◌, leb, get_or}
use Rattle.std.proofs.Common.{sym, ◌∙◌, ap, le-leb, arith}
use Rattle.time.specs.Pick.{pick}
use Rattle.time.specs.Time.{least, reached_of}
use Rattle.ladder.specs.declared.Ladder.{Ladder}
use Rattle.ladder.specs.Schedule.{Rung}
use Rattle.ladder.specs.Ladder.{remaining, first_at, next_at_of, instant_of}
use Rattle.ladder.proofs.Laws.{next_instant}
use Rattle.candidates.specs.Held.{held_of, between, firsts, earliest_of}
use Rattle.candidates.specs.Repeats.{repeated, rises}
use Rattle.candidates.proofs.Places.{rises-once}
use Rattle.candidates.proofs.Places.{between_next, between-end}
use Rattle.state.specs.Parts.{listed}
use Rattle.state.specs.declared.State.{State}
use Rattle.start.specs.Start.{instants}
use Rattle.wake.specs.Due.{ladder_instants, cycle_due, current_instants, standing, due_instants, any_due}
use Rattle.wake.proofs.Earliest.{earliest_nil, earliest_one, reached-append, reached-cons}
use Rattle.wake.proofs.Laws.{due-reached}

pub ladder-least : (l : Ladder) → earliest_of (ladder_instants l) ≡ next_at_of l
unfolding ladder_instants next_at_of
ladder-least l = under (remaining l)
  where
    under : (rs : List Rung) → earliest_of (instants (first_at l.origin rs)) ≡ first_at l.origin rs
    under [] = earliest_nil
    under (r ∷ rs) = earliest_one _

pub nothing-due : (now : ℕ) → reached_of (earliest_of []) now ≡ false
nothing-due now = ap (λ w. reached_of w now) earliest_nil

pub one-due : (t now : ℕ) → reached_of (earliest_of (t ∷ [])) now ≡ leb t now
one-due t now = ap (λ w. reached_of w now) (earliest_one t)

module _ (i n : ℕ) (l : List ℕ) (now : ℕ) (h : i < n) where
  -- the first of the rest is reached
  pub here : leb (get_or l i 0) now ≡ true → reached_of (earliest_of (between i n l)) now ≡ true
  here e =
      ap (λ k. reached_of (earliest_of k) now) (between_next i n l h)
      ∙ (reached-cons (get_or l i 0) (between (i + 1) n l) now ∙ ap (λ b. b || reached_of (earliest_of (between (i + 1) n l)) now) e)

  -- it is not
  pub there : leb (get_or l i 0) now ≡ false → reached_of (earliest_of (between i n l)) now ≡ reached_of (earliest_of (between (i + 1) n l)) now
  there e =
      ap (λ k. reached_of (earliest_of k) now) (between_next i n l h)
      ∙ (reached-cons (get_or l i 0) (between (i + 1) n l) now ∙ ap (λ b. b || reached_of (earliest_of (between (i + 1) n l)) now) e)

pub past : (i n : ℕ) (l : List ℕ) (now : ℕ) → n ≤ i → reached_of (earliest_of (between i n l)) now ≡ false
past i n l now h = ap (λ k. reached_of (earliest_of k) now) (between-end i n l h) ∙ nothing-due now

-- up to 32 are all held
pub held_all : (n : ℕ) → n ≤ 32 → held_of n ≡ n
unfolding held_of least
held_all n h = ap (λ b. pick b n 32) (le-leb n 32 h)

pub none-held : (n : ℕ) (l : List ℕ) → n ≡ 0 → firsts n l ≡ []
none-held n l e =
    ap (λ k. firsts k l) e ∙ (ap (λ k. between 0 k l) (held_all 0 (omega arith)) ∙ between-end 0 0 l (omega arith))

-- deadlines and numbers of up to 32 candidates
module _ (n : ℕ) (d q : List ℕ) (now : ℕ) (h : n ≤ 32) where
  pub found : reached_of (earliest_of (between 0 n d)) now ≡ true → true ≡ (reached_of (earliest_of (firsts n d)) now || repeated (firsts n q))
  found e = rw (held_all n h, e)

  -- numbers that rise hold none twice
  pub none_found :
      reached_of (earliest_of (between 0 n d)) now ≡ false → rises (between 0 n q) ≡ true → false ≡ (reached_of (earliest_of (firsts n d)) now || repeated (firsts n q))
  none_found e r = rw (held_all n h, e, rises-once (between 0 n q) r)

-- a ladder's next rung, as the code finds it
pub rung-due : (l : Ladder) (now : ℕ) → reached_of (earliest_of (ladder_instants l)) now ≡ reached_of (instant_of l l.next) now
rung-due l now = ap (λ w. reached_of w now) (ladder-least l ∙ sym (next_instant l))

-- the four parts
pub due-parts :
    (s : State) (now : ℕ)
    → any_due s now
    ≡ (reached_of (earliest_of (listed s.drain.some s.drain.deadline)) now
    || (reached_of (earliest_of (firsts s.cands.len s.cands.deadline)) now
    || (reached_of (earliest_of (cycle_due s.cycle)) now || reached_of (earliest_of (current_instants s.cur)) now)))
unfolding due_instants standing
due-parts s now =
    due-reached s now
    ∙ (reached-append (listed s.drain.some s.drain.deadline) (firsts s.cands.len s.cands.deadline ++ (cycle_due s.cycle ++ current_instants s.cur)) now
    ∙ ap (λ b. reached_of (earliest_of (listed s.drain.some s.drain.deadline)) now || b)
    (reached-append (firsts s.cands.len s.cands.deadline) (cycle_due s.cycle ++ current_instants s.cur) now
    ∙ ap (λ b. reached_of (earliest_of (firsts s.cands.len s.cands.deadline)) now || b)
    (reached-append (cycle_due s.cycle) (current_instants s.cur) now)))
