-- A call that no number sends back has an accepted state.
use Rattle.std.specs.Prelude.{Bool, true, false, ◌||◌, ◌≡◌, refl, List, [], ◌∷◌, ◌++◌, eqb}
use Rattle.std.proofs.Common.{true≢false, sym, ◌∙◌, eqb-true}
use Rattle.std.proofs.lemmas.Bool.{false≢true}
use Rattle.time.specs.Pick.{pick}
use Rattle.settings.specs.declared.Config.{Config}
use Rattle.state.specs.declared.State.{State}
use Rattle.state.specs.declared.Profile.{Profile}
use Rattle.refusal.specs.Refusal.{Test, any_of, first, given_tests, state_tests, state_back}
use Rattle.law_refusal.specs.Sound.{Sound, sound}

-- no test of a list answers with number 0
abbrev Numbered : List Test → Type 0
Numbered l = any_of (λ t. eqb t.answer.number 0) l ≡ false

or_rest : (a b : Bool) → a || b ≡ false → (a ≡ false) × (b ≡ false)
or_rest true b e = absurd (true≢false e)
or_rest false b e = (refl, e)

-- where no test of two lists sends back, none of either does
both_pass : (l m : List Test) → Numbered l → eqb (first (l ++ m)).number 0 ≡ true → (eqb (first l).number 0 ≡ true) × (eqb (first m).number 0 ≡ true)
unfolding first any_of
both_pass [] m p e = (refl, e)
both_pass (t ∷ l) m p e =
    let k = or_rest (eqb t.answer.number 0) (any_of (λ t. eqb t.answer.number 0) l) p in
    under t.back k.0 (both_pass l m k.1) e
  where
    under :
        (b : Bool) → eqb t.answer.number 0 ≡ false
        → (eqb (first (l ++ m)).number 0 ≡ true → (eqb (first l).number 0 ≡ true) × (eqb (first m).number 0 ≡ true))
        → eqb (pick b t.answer (first (l ++ m))).number 0 ≡ true
        → (eqb (pick b t.answer (first l)).number 0 ≡ true) × (eqb (first m).number 0 ≡ true)
    under true k ih q = absurd (false≢true (sym k ∙ q))
    under false k ih q = ih q

given-numbered : (cfg : Config) (p : Profile) → Numbered (given_tests cfg p)
unfolding given_tests any_of
given-numbered cfg p = refl

state-numbered : (s : State) → Numbered (state_tests s)
unfolding state_tests any_of
state-numbered s = refl

-- tests of the state, and then others
pub told-sound : (s : State) (m : List Test) → eqb (first (state_tests s ++ m)).number 0 ≡ true → Sound s
unfolding state_back
told-sound s m e = sound s (eqb-true (state_back s) 0 (both_pass (state_tests s) m (state-numbered s) e).0)

-- those of settings and profile before them
pub taken-sound : (s : State) (cfg : Config) (p : Profile) (m : List Test) → eqb (first (given_tests cfg p ++ (state_tests s ++ m))).number 0 ≡ true → Sound s
taken-sound s cfg p m e = told-sound s m (both_pass (given_tests cfg p) (state_tests s ++ m) (given-numbered cfg p) e).1
