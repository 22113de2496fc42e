-- Laws of a ladder lent for change.
use Rattle.std.specs.Prelude.{ℕ, ◌≡◌, Option, Some, None}
use Rattle.std.proofs.Math.Path.{refl, ap}
use Rattle.std.proofs.Common.{sym, ◌∙◌}
use Rattle.ladder.specs.declared.Ladder.{Ladder}
use Rattle.ladder.specs.declared.Taken.{Taken}
use Rattle.ladder.specs.Took.{took_of}
use Rattle.ladder.specs.Ladder.{take_of, moved_to}
use Rattle.ladder.specs.Lent.{next_after, told_by, taken_of}

-- only the next index moves
pub moved-taken : (l : Ladder) (now : ℕ) → moved_to l (next_after l now) ≡ (take_of l now).ladder
unfolding take_of
moved-taken l now = refl

told : (m : Ladder) (t : Option Taken) → t ≡ told_by (took_of m t)
told m None = refl
told m (Some t) = refl

-- what `take` answers is what was taken, and the ladder that it leaves is the old one with another next index
pub take-lent : (l m : Ladder) (now : ℕ) (t : Option Taken) → took_of m t ≡ take_of l now → (t ≡ taken_of l now) × (m ≡ moved_to l (next_after l now))
take-lent l m now t e = (told m t ∙ ap told_by e, ladder t ∙ ap (λ k. k.ladder) e ∙ sym (moved-taken l now))
  where
    ladder : (t : Option Taken) → m ≡ (took_of m t).ladder
    ladder None = refl
    ladder (Some t) = refl

-- a ladder whose next index alone moves to that of the taken one is the taken one
pub lent_take : (l m : Ladder) (now : ℕ) (t : Option Taken) → took_of m t ≡ take_of l now → took_of (moved_to l m.next) t ≡ take_of l now
lent_take l m now t e = ap (λ k. took_of k t) (sym (whole l m now t e)) ∙ e
  where
    whole : (l m : Ladder) (now : ℕ) (t : Option Taken) → took_of m t ≡ take_of l now → m ≡ moved_to l m.next
    whole l m now t e = let q = (take-lent l m now t e).1 in q ∙ ap (λ k. moved_to l k.next) (sym q)
