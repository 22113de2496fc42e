-- A row filled along a list of arguments.
use Rattle.std.proofs.Common.{ℕ, ◌≡◌, ◌+◌, ◌≤◌, List, ◌∷◌, drop, length, ◌∙◌, refl, arith}
use Rattle.text_words.specs.declared.Argument.{Argument}
use Rattle.text_words.specs.Places.{width_of, widths}
use Rattle.text_form.specs.declared.arguments.Row.{Row}
use Rattle.text_form.specs.Rows.{Moves}

-- nothing stands in the places of a value but what stood there
pub moves-none : (n : ℕ) (r : Row) → Moves n r r
moves-none n r = record { at = omega arith; behind = λ k h. refl; size = refl; same_reference = refl }

-- two values, one after the other
pub moves_then : (m n : ℕ) (a b c : Row) → Moves m a b → Moves n b c → Moves (m + n) a c
moves_then m n a b c p q =
    record {
      at = let x = p.at in let y = q.at in omega arith;
      behind = λ k h. q.behind k (let x = p.at in omega arith) ∙ p.behind k (omega arith);
      size = q.size ∙ p.size;
      same_reference = q.same_reference ∙ p.same_reference;
    }

-- Only the first `total` places of a row may differ from those at the beginning, and those of the arguments that are
-- left are among them.
pub record Within (total : ℕ) (first : Row) (r : Row) (left : List Argument) : Type 0 where
  pub at : r.at + widths left ≤ total
  pub behind : (k : ℕ) → total ≤ k → drop k r.numbers.now ≡ drop k first.numbers.now
  pub size : length r.numbers.now ≡ length first.numbers.now
  pub same_reference : r.numbers.ghost_name ≡ first.numbers.ghost_name

pub within-first : (r : Row) (l : List Argument) → r.at ≡ 0 → Within (widths l) r r l
within-first r l e = record { at = omega arith; behind = λ k h. refl; size = refl; same_reference = refl }

pub within-next : (total : ℕ) (first r r' : Row) (a : Argument) (l : List Argument) → Within total first r (a ∷ l) → Moves (width_of a.kind) r r' → Within total first r' l
within-next total first r r' a l w m =
    let x = w.at in
    let y = m.at in
    record {
      at = omega arith;
      behind = λ k h. m.behind k (omega arith) ∙ w.behind k h;
      size = m.size ∙ w.size;
      same_reference = m.same_reference ∙ w.same_reference;
    }
