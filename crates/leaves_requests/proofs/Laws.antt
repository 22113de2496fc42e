-- What the proofs of the requests use.
use Rattle.std.proofs.Common.{ℕ, Bool, true, false, cond, ◌≡◌, refl, sym, ◌∙◌, ap, List, [], ◌∷◌, map, eqb, Option, Some, None, IfSome}
use Rattle.std.specs.Str.{bytes_eq}
use Rattle.std.specs.List.{find}
use Rattle.std.specs.Option.{option_map}
use Rattle.std.proofs.lemmas.Slice.Eq.{bytes_eq-Decides}
use Rattle.text.specs.declared.field.Field.{Field}
use Rattle.text.specs.Fields.{field_at, bytes_of}
use Rattle.text.specs.Scans.{entry_of, entry_in, entry_at, accept_at, is_word}
use Rattle.settings.specs.declared.Check.{Check}
use Rattle.settings.specs.declared.Check.TheVariants as check
use Rattle.settings.specs.declared.Config.{Config}
use Rattle.settings.specs.Checks.{check_place}
use Rattle.settings.specs.Settings.{place_of}
use Rattle.params.specs.declared.Params.{Params}
use Rattle.params.specs.Params.{params_of, new_of}
use Rattle.leaves_requests.specs.Answers.{Said, Derived, Refused, accepted_or}
use Rattle.leaves_requests.specs.Words.{name_of}
use Rattle.leaves_requests.specs.declared.requests.Word.{Word}
use Rattle.leaves_requests.specs.declared.requests.Word.TheVariants as word

-- a check that refuses has a place
place_not_zero : (c : Check) → eqb (check_place c) 0 ≡ false
place_not_zero check.NoMessages = refl
place_not_zero check.MessagesPastSoft = refl
place_not_zero check.AfterWithinJitter = refl
place_not_zero check.AfterBelowFloor = refl
place_not_zero check.AfterTooLong = refl
place_not_zero check.NoCheck = refl
place_not_zero check.NoHold = refl
place_not_zero check.NoRevert = refl
place_not_zero check.NoTtl = refl
place_not_zero check.NoSilence = refl
place_not_zero check.HandshakeTooShort = refl
place_not_zero check.DrainTooShort = refl
place_not_zero check.RetentionBelowDrain = refl
place_not_zero check.HoldTooShort = refl
place_not_zero check.SoftPastHard = refl

said_refused : (c : Check) (p : ℕ) (a : Said) → check_place c ≡ p → Refused (check_place c) ≡ accepted_or p a
said_refused c p a e =
    let refuses : eqb p 0 ≡ false = sym (ap (λ q. eqb q 0) e) ∙ place_not_zero c in
    ap Refused e ∙ sym (ap (λ t. cond t a (Refused p)) refuses)

said_accepted : (p : ℕ) (x a : Said) → p ≡ 0 → x ≡ a → x ≡ accepted_or p a
said_accepted p x a e k = k ∙ sym (ap (λ q. accepted_or q a) e)

-- what `Params::new` gives, as an answer
pub said_new : (cfg : Config) (p : Params) → record { place = 0; params = p } ≡ new_of cfg → Derived p ≡ accepted_or (place_of cfg) (Derived (params_of cfg))
unfolding new_of
said_new cfg p e = said_accepted (place_of cfg) (Derived p) (Derived (params_of cfg)) (sym (ap (λ n. n.place) e)) (ap (λ n. Derived n.params) e)

pub refused_new : (cfg : Config) (c : Check) → check_place c ≡ (new_of cfg).place → Refused (check_place c) ≡ accepted_or (place_of cfg) (Derived (params_of cfg))
unfolding new_of
refused_new cfg c e = said_refused c (place_of cfg) (Derived (params_of cfg)) e

-- a table's row of a word
abbrev pub row_of : Word → List ℕ × Word
row_of x = (name_of x, x)

-- the words in the order of the table
abbrev pub words : List Word
words = word.Later ∷ word.Since ∷ word.Backoff ∷ word.Span ∷ word.Doubling ∷ word.Probes ∷ word.Take ∷ word.Check ∷ word.Hold ∷ word.Wait ∷ word.Params ∷ []

-- what is found among rows of words has the name that was looked for
named : (xs : List Word) (w : List ℕ) → IfSome (entry_of (map row_of xs) w) (λ x. bytes_eq w (name_of x) ≡ true)
named [] w = tt
named (x ∷ xs) w = by (bytes_eq (name_of x) w) refl (named xs w)
  where
    by : (t : Bool) → bytes_eq (name_of x) w ≡ t
        → IfSome (entry_of (map row_of xs) w) (λ y. bytes_eq w (name_of y) ≡ true)
        → IfSome (option_map (λ row. row.1) (cond t (Some (row_of x)) (find (λ row. bytes_eq row.0 w) (map row_of xs)))) (λ y. bytes_eq w (name_of y) ≡ true)
    by true e p = (bytes_eq-Decides w (name_of x)).1 (sym ((bytes_eq-Decides (name_of x) w).0 e))
    by false e p = p

pub named_at : (xs : List Word) (line : List ℕ) (at : ℕ) → IfSome (entry_at line at (map row_of xs)) (λ x. accept_at line at (name_of x) ≡ true)
named_at xs line at = within (field_at line at)
  where
    within : (f : Option Field) → IfSome (entry_in (map row_of xs) line f) (λ x. is_word line (name_of x) f ≡ true)
    within None = tt
    within (Some f) = named xs (bytes_of line f)
