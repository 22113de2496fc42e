-- Pieces put by one call after another. Assumes nothing.
use Rattle.std.proofs.Common.{ℕ, ◌∙◌, ◌≡◌, refl, sym, List, [], ◌∷◌, ◌++◌, append_assoc}
use Rattle.std.specs.Prelude.{Option, Some, None}
use Rattle.text_lines.specs.declared.output.Output.{Output}
use Rattle.text_lines.specs.Outputs.{held, held_to, spaced, spaced_to, spaced_or, spaced_or_to}
use Rattle.text_lines.specs.Puts.{all_held, all_held_to, Puts, Begins, Leaves, number_text, optional_text}

pub all_held-append : (d : List ℕ) (at : ℕ) (a b : List (List ℕ)) → all_held d at (a ++ b) ≡ all_held (all_held d at a) (all_held_to d at a) b
all_held-append d at [] b = refl
all_held-append d at (s ∷ a) b = all_held-append (held d at s) (held_to d at s) a b

pub all_held_to-append : (d : List ℕ) (at : ℕ) (a b : List (List ℕ)) → all_held_to d at (a ++ b) ≡ all_held_to (all_held d at a) (all_held_to d at a) b
all_held_to-append d at [] b = refl
all_held_to-append d at (s ∷ a) b = all_held_to-append (held d at s) (held_to d at s) a b

pub puts_none : {R : Type 0} (o : Output R) → Puts [] o o
puts_none o = record { same_reference = refl; buffer = refl; at = refl }

pub puts_then : {R : Type 0} (a b : List (List ℕ)) (o o' o'' : Output R) → Puts a o o' → Puts b o' o'' → Puts (a ++ b) o o''
puts_then a b o o' o'' p q =
    record {
      same_reference = q.same_reference ∙ p.same_reference;
      buffer = q.buffer ∙ rw (p.buffer, p.at, all_held-append o.buffer.now o.at a b) refl;
      at = q.at ∙ rw (p.buffer, p.at, all_held_to-append o.buffer.now o.at a b) refl;
    }

pub puts_bytes : {R : Type 0} (s : List ℕ) (o o' : Output R) → o'.buffer.ghost_name ≡ o.buffer.ghost_name → o'.buffer.now ≡ held o.buffer.now o.at s → o'.at ≡ held_to o.buffer.now o.at s → Puts (s ∷ []) o o'
puts_bytes s o o' e f g = record { same_reference = e; buffer = f; at = g }

pub puts_number : {R : Type 0} (n : ℕ) (o o' : Output R) → o'.buffer.ghost_name ≡ o.buffer.ghost_name → o'.buffer.now ≡ spaced o.buffer.now o.at n → o'.at ≡ spaced_to o.buffer.now o.at n → Puts (number_text n) o o'
puts_number n o o' e f g = record { same_reference = e; buffer = f; at = g }

pub puts_optional : {R : Type 0} (n : Option ℕ) (none : List ℕ) (o o' : Output R) → o'.buffer.ghost_name ≡ o.buffer.ghost_name → o'.buffer.now ≡ spaced_or o.buffer.now o.at n none → o'.at ≡ spaced_or_to o.buffer.now o.at n none → Puts (optional_text n none) o o'
puts_optional (Some n) none o o' e f g = record { same_reference = e; buffer = f; at = g }
puts_optional None none o o' e f g = record { same_reference = e; buffer = f; at = g }

pub begins_then : {R : Type 0} (a b : List (List ℕ)) (o o' o'' : Output R) → Puts a o o' → Begins b o' o'' → Begins (a ++ b) o o''
begins_then a b o o' o'' p q = record { more = q.more; puts = rw (append_assoc a b q.more) (puts_then a (b ++ q.more) o o' o'' p q.puts) }

pub begins_more : {R : Type 0} (a b : List (List ℕ)) (o o' o'' : Output R) → Begins a o o' → Begins b o' o'' → Begins a o o''
begins_more a b o o' o'' p q = record { more = p.more ++ (b ++ q.more); puts = rw (append_assoc a p.more (b ++ q.more)) at (puts_then (a ++ p.more) (b ++ q.more) o o' o'' p.puts q.puts) }

pub begins_none : {R : Type 0} (o : Output R) → Begins [] o o
begins_none o = record { more = []; puts = puts_none o }

pub leaves_whole : {R : Type 0} (a : List (List ℕ)) (o : Output R) → Leaves a a o o
leaves_whole a o = record { same_reference = refl; buffer = refl; at = refl }

pub leaves_rest : {R : Type 0} (a rest whole : List (List ℕ)) (start o o' : Output R) → Puts a o o' → Leaves (a ++ rest) whole start o → Leaves rest whole start o'
leaves_rest a rest whole start o o' p q =
    record {
      same_reference = p.same_reference ∙ q.same_reference;
      buffer = rw (p.buffer, p.at) (sym (all_held-append o.buffer.now o.at a rest) ∙ q.buffer);
      at = rw (p.buffer, p.at) (sym (all_held_to-append o.buffer.now o.at a rest) ∙ q.at);
    }

pub leaves_none : {R : Type 0} (whole : List (List ℕ)) (start o : Output R) → Leaves [] whole start o → Puts whole start o
leaves_none whole start o q = record { same_reference = q.same_reference; buffer = q.buffer; at = q.at }
