-- A take where no rung is due leaves the ladder as it was.
use Rattle.std.specs.Prelude.{ℕ, false, ◌≡◌, List, [], ◌∷◌, None}
use Rattle.std.proofs.Common.{refl, sym, ◌∙◌, ap}
use Rattle.std.proofs.lemmas.Bool.{false≢true}
use Rattle.time.specs.Lists.{fold}
use Rattle.ladder.specs.declared.Ladder.{Ladder}
use Rattle.ladder.specs.Schedule.{Rung}
use Rattle.ladder.specs.Took.{Took, took_of}
use Rattle.ladder.specs.Ladder.{due_rungs, taking, untaken, take_of}
use Rattle.ladder.proofs.Counted.{any-after}

stays : (l : Ladder) (v : List Rung) → (fold taking (untaken l) v).any ≡ false → (fold taking (untaken l) v).next ≡ l.next
unfolding fold taking
stays l [] e = refl
stays l (r ∷ v) e = absurd (false≢true (sym e ∙ any-after (taking (untaken l) r) v refl))

pub none_taken : (l m : Ladder) (now : ℕ) → took_of m None ≡ take_of l now → m ≡ l
unfolding take_of
none_taken l m now e =
    ap (λ (t : Took). t.ladder) e
    ∙ ap (λ n. record { origin = l.origin; sched = l.sched; next = n }) (stays l (due_rungs l now) (sym (ap (λ (t : Took). t.any) e)))
