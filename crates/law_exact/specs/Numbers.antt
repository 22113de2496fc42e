-- "A call tests, in this order, those that concern what it was given": the number of a call by the
-- words of its tests.
use Rattle.std.specs.Prelude.{ℕ, ◌≤◌, ◌<◌, Bool, not, ◌&&◌, ◌↔◌, ◌⊎◌, ◌≡◌, ltb, eqb}
use Rattle.std.proofs.Math.Bool.{true, false}
use Rattle.std.proofs.lemmas.Bool.{false≢true, eqb-false, not-false}
use Rattle.std.proofs.Common.{inl, inr, ⊎_elim, sym, ◌∙◌, arith, ltb-true, eqb-true}
use Rattle.std.proofs.Math.Logic.Iff
use Rattle.std.proofs.Math.Path.{refl, ap}
use mathlib.Core.List.{List, [], ◌∷◌, ◌++◌}
use Rattle.time.specs.Pick.{pick, of_choice}
use Rattle.settings.specs.declared.Config.{Config}
use Rattle.settings.specs.Settings.{place_of}
use Rattle.settings.specs.Accepted.{Accepted}
use Rattle.numbers.specs.Numbers.{refused_settings, refused_profile, refused_candidates, refused_no_current, refused_shared, refused_ladder}
use Rattle.state.specs.declared.State.{State}
use Rattle.state.specs.declared.Profile.{Profile}
use Rattle.state.specs.Parts.{ladders_of}
use Rattle.refusal.specs.Refused.{Refused}
use Rattle.refusal.specs.Refusal.{any_of, profile_bad, cands_bad, epochs_bad, numbers_bad, ladders_bad, Test, accepted, first, numbered, by, by_settings, given_tests, state_tests, link_tests, state_back}
use Rattle.refusal.specs.First.{rising}
use Rattle.refusal.proofs.First.{or_left, or_right, first-append}
use Rattle.law_refusal.specs.Sound.{Sound, sound, sounding}
use Rattle.law_exact.specs.Reads.{Reads, Some}
use Rattle.law_exact.specs.Words.{SettingsFail, FailsAt, fails-at, ProfileOut, GivenOk, TooMany, CountOk, WithoutCurrent, WithCurrent, Shared, Different, LadderOut, StateOk, reads_settings, reads_profile, reads_many, reads_current, reads_shared, reads_ladders}

-- ---- what the numbers of a call say

-- 1 and 2: each exactly where its sentence holds and no earlier one does
pub record GivenNumbers (n : ℕ) (cfg : Config) (p : Profile) : Type 0 where
  pub settings : (n ≡ refused_settings) ↔ SettingsFail cfg
  pub profile : (n ≡ refused_profile) ↔ (Accepted cfg × ProfileOut p)

-- 3 to 6 the same; Before is that what is tested before them passes
pub record StateNumbers (n : ℕ) (Before : Type 0) (s : State) : Type 0 where
  pub candidates : (n ≡ refused_candidates) ↔ (Before × TooMany s)
  pub current : (n ≡ refused_no_current) ↔ (Before × CountOk s × WithoutCurrent s)
  pub numbers : (n ≡ refused_shared) ↔ (Before × CountOk s × WithCurrent s × Shared s)
  pub ladders : (n ≡ refused_ladder) ↔ (Before × CountOk s × WithCurrent s × Different s × Some LadderOut (ladders_of s))

-- 1 to 6 pass
pub record LinkOk (s : State) (cfg : Config) (p : Profile) : Type 0 where
  pub given : GivenOk cfg p
  pub state : StateOk s

-- "The answer is the number alone, with the check's place in 1"
pub record Placed (n place : ℕ) (cfg : Config) : Type 0 where
  pub check : n ≡ refused_settings → FailsAt cfg place
  pub none : (n ≡ refused_settings → ⊥) → place ≡ 0

-- ---- one test, of number k, and the rest, which gives f

-- no number, or one above k
abbrev pub Above : ℕ → ℕ → Type 0
Above k f = (f ≡ 0) ⊎ (k < f)

pub above-pick : (b : Bool) {j k f : ℕ} → j < k → Above k f → Above j (pick b k f)
above-pick true h a = inr h
above-pick false h (inl e) = inl e
above-pick false h (inr a) = inr (omega arith)

pub and_then : {A B C D : Type 0} → A ↔ (B × C) → C ↔ D → A ↔ (B × D)
and_then f g = (λ a. let x = f.0 a in (x.0, g.0 x.1), λ y. f.1 (y.0, g.1 y.1))

module _ {b : Bool} {Holds Fails : Type 0} (r : Reads b Holds Fails) (k f : ℕ) where
  -- its own number
  pub here : 0 < k → Above k f → (pick b k f ≡ k) ↔ Holds
  here z a = under b r
    where
      other : f ≡ k → ⊥
      other e = ⊎_elim (λ q. omega arith) (λ q. omega arith) a

      under : (b : Bool) {Holds Fails : Type 0} → Reads b Holds Fails → (pick b k f ≡ k) ↔ Holds
      under true r = (λ e. r.holds.0 refl, λ h. refl)
      under false r = (λ e. absurd (other e), λ h. absurd (false≢true (r.holds.1 h)))

  -- another one
  pub past : (m : ℕ) → (k ≡ m → ⊥) → (pick b k f ≡ m) ↔ (Fails × (f ≡ m))
  past m n = under b r
    where
      under : (b : Bool) {Holds Fails : Type 0} → Reads b Holds Fails → (pick b k f ≡ m) ↔ (Fails × (f ≡ m))
      under true r = (λ e. absurd (n e), λ h. absurd (false≢true (sym (r.fails.1 h.0))))
      under false r = (λ e. (r.fails.0 refl, e), λ h. h.1)

-- ---- earlier tests and later ones

-- a number of earlier tests, or where they give none one of later tests
abbrev pub or_else : ℕ → ℕ → ℕ
or_else a b = pick (eqb a 0) b a

module _ (a b k : ℕ) (low : a ≤ k) (high : Above k b) where
  pub early : (m : ℕ) → 0 < m → m ≤ k → (or_else a b ≡ m) ↔ (a ≡ m)
  early m z h = under (eqb a 0) refl
    where
      never : b ≡ m → ⊥
      never e = ⊎_elim (λ q. omega arith) (λ q. omega arith) high

      under : (q : Bool) → eqb a 0 ≡ q → (pick q b a ≡ m) ↔ (a ≡ m)
      under true e = (λ q. absurd (never q), λ q. absurd (omega (arith, eqb-true a 0 e)))
      under false e = (λ q. q, λ q. q)

  pub late : (m : ℕ) → Above k m → (or_else a b ≡ m) ↔ ((a ≡ 0) × (b ≡ m))
  late m h = under (eqb a 0) refl
    where
      never : (a ≡ 0 → ⊥) → a ≡ m → ⊥
      never n e = ⊎_elim (λ q. n (e ∙ q)) (λ q. omega arith) h

      under : (q : Bool) → eqb a 0 ≡ q → (pick q b a ≡ m) ↔ ((a ≡ 0) × (b ≡ m))
      under true e = (λ q. (eqb-true a 0 e, q), λ q. q.1)
      under false e = (λ q. absurd (never (eqb-false a 0 e) q), λ q. absurd (eqb-false a 0 e q.0))

-- ---- 1 and 2

module _ (cfg : Config) (p : Profile) where
  -- the number that they give
  unfoldable pub given_number : ℕ
  given_number = (first (given_tests cfg p)).number

  abbrev two : ℕ
  two = pick (profile_bad p) 2 0

  one-two : given_number ≡ pick (by_settings cfg).back 1 two
  unfolding given_number given_tests first
  one-two = under (by_settings cfg).back (profile_bad p)
    where
      under : (a b : Bool) → (pick a (by_settings cfg).answer (pick b (numbered 2) accepted)).number ≡ pick a 1 (pick b 2 0)
      under true b = refl
      under false true = refl
      under false false = refl

  given-low : given_number ≤ 2
  given-low = rw one-two (of_choice (λ n. n ≤ 2) (by_settings cfg).back 1 two (omega arith) (of_choice (λ n. n ≤ 2) (profile_bad p) 2 0 (omega arith) (omega arith)))

  above-two : Above 1 two
  above-two = above-pick (profile_bad p) (omega arith) (inl refl)

  pub given-numbers : GivenNumbers given_number cfg p
  given-numbers =
      rw one-two
      (record {
        settings = here (reads_settings cfg) 1 two (omega arith) above-two;
        profile = and_then (past (reads_settings cfg) 1 two 2 (λ e. omega arith)) (here (reads_profile p) 2 0 (omega arith) (inl refl));
      })

  -- where n is the number of all
  pub given-from : (n : ℕ) → ((m : ℕ) → 0 < m → m ≤ 2 → (n ≡ m) ↔ (given_number ≡ m)) → GivenNumbers n cfg p
  given-from n f =
      record {
        settings = Iff.trans (f 1 (omega arith) (omega arith)) given-numbers.settings;
        profile = Iff.trans (f 2 (omega arith) (omega arith)) given-numbers.profile;
      }

  pub given-none : (given_number ≡ 0) ↔ GivenOk cfg p
  given-none =
      rw one-two
      (Iff.trans (and_then (past (reads_settings cfg) 1 two 0 (λ e. omega arith)) (past (reads_profile p) 2 0 0 (λ e. omega arith)))
      (λ x. record { settings = x.0; profile = x.1.0 }, λ o. (o.settings, (o.profile, refl))))

-- ---- 3 to 6

module _ (s : State) where
  abbrev six : ℕ
  six = pick (ladders_bad s) 6 0

  abbrev five : ℕ
  five = pick (numbers_bad s) 5 six

  abbrev four : ℕ
  four = pick (epochs_bad s) 4 five

  three-six : state_back s ≡ pick (cands_bad s) 3 four
  unfolding state_back state_tests first
  three-six = under (cands_bad s) (epochs_bad s) (numbers_bad s) (ladders_bad s)
    where
      under : (a b c d : Bool) → (pick a (numbered 3) (pick b (numbered 4) (pick c (numbered 5) (pick d (numbered 6) accepted)))).number ≡ pick a 3 (pick b 4 (pick c 5 (pick d 6 0)))
      under true b c d = refl
      under false true c d = refl
      under false false true d = refl
      under false false false true = refl
      under false false false false = refl

  state-low : state_back s ≤ 6
  state-low =
      rw three-six
      (of_choice (λ n. n ≤ 6) (cands_bad s) 3 four (omega arith)
      (of_choice (λ n. n ≤ 6) (epochs_bad s) 4 five (omega arith)
      (of_choice (λ n. n ≤ 6) (numbers_bad s) 5 six (omega arith)
      (of_choice (λ n. n ≤ 6) (ladders_bad s) 6 0 (omega arith) (omega arith)))))

  above-six : Above 5 six
  above-six = above-pick (ladders_bad s) (omega arith) (inl refl)

  above-five : Above 4 five
  above-five = above-pick (numbers_bad s) (omega arith) above-six

  above-four : Above 3 four
  above-four = above-pick (epochs_bad s) (omega arith) above-five

  pub state-high : Above 2 (state_back s)
  state-high = rw three-six (above-pick (cands_bad s) (omega arith) above-four)

  after-three : (m : ℕ) → (3 ≡ m → ⊥) → (state_back s ≡ m) ↔ (CountOk s × (four ≡ m))
  after-three m n = rw three-six (past (reads_many s) 3 four m n)

  after-four : (m : ℕ) → (4 ≡ m → ⊥) → (four ≡ m) ↔ (WithCurrent s × (five ≡ m))
  after-four m n = past (reads_current s) 4 five m n

  after-five : (m : ℕ) → (5 ≡ m → ⊥) → (five ≡ m) ↔ (Different s × (six ≡ m))
  after-five m n = past (reads_shared s) 5 six m n

  is-three : (state_back s ≡ 3) ↔ TooMany s
  is-three = rw three-six (here (reads_many s) 3 four (omega arith) above-four)

  is-four : (state_back s ≡ 4) ↔ (CountOk s × WithoutCurrent s)
  is-four = and_then (after-three 4 (λ e. omega arith)) (here (reads_current s) 4 five (omega arith) above-five)

  is-five : (state_back s ≡ 5) ↔ (CountOk s × (WithCurrent s × Shared s))
  is-five = and_then (after-three 5 (λ e. omega arith)) (and_then (after-four 5 (λ e. omega arith)) (here (reads_shared s) 5 six (omega arith) above-six))

  is-six : (state_back s ≡ 6) ↔ (CountOk s × (WithCurrent s × (Different s × Some LadderOut (ladders_of s))))
  is-six =
      and_then (after-three 6 (λ e. omega arith))
      (and_then (after-four 6 (λ e. omega arith))
      (and_then (after-five 6 (λ e. omega arith)) (here (reads_ladders s) 6 0 (omega arith) (inl refl))))

  pub state-none : (state_back s ≡ 0) ↔ StateOk s
  state-none =
      Iff.trans
      (and_then (after-three 0 (λ e. omega arith))
      (and_then (after-four 0 (λ e. omega arith))
      (and_then (after-five 0 (λ e. omega arith)) (past (reads_ladders s) 6 0 0 (λ e. omega arith))))) (
        λ x. record { count = x.0; current = x.1.0; different = x.1.1.0; ladders = x.1.1.1.0 },
        λ o. (o.count, (o.current, (o.different, (o.ladders, refl)))),
      )

  -- the words are those of a sound state, place by place
  pub sound-words : Sound s ↔ StateOk s
  sound-words = (λ o. state-none.0 (sounding s o), λ o. sound s (state-none.1 o))

  -- where the tests before them pass, and n is the number of all
  pub state-numbers : {Before : Type 0} (n : ℕ) → ((m : ℕ) → 2 < m → m ≤ 6 → (n ≡ m) ↔ (Before × (state_back s ≡ m))) → StateNumbers n Before s
  state-numbers n f =
      record {
        candidates = and_then (f 3 (omega arith) (omega arith)) is-three;
        current = Iff.trans (and_then (f 4 (omega arith) (omega arith)) is-four) (λ x. (x.0, x.1.0, x.1.1), λ x. (x.0, (x.1, x.2)));
        numbers = Iff.trans (and_then (f 5 (omega arith) (omega arith)) is-five) (λ x. (x.0, x.1.0, x.1.1.0, x.1.1.1), λ x. (x.0, (x.1, (x.2, x.3))));
        ladders =
            Iff.trans (and_then (f 6 (omega arith) (omega arith)) is-six)
            (λ x. (x.0, x.1.0, x.1.1.0, x.1.1.1.0, x.1.1.1.1), λ x. (x.0, (x.1, (x.2, (x.3, x.4)))));
      }

-- ---- any tests

both_left : (a b : Bool) → a && b ≡ true → a ≡ true
both_left true b h = refl
both_left false b h = h

both_right : (a b : Bool) → a && b ≡ true → b ≡ true
both_right true b h = h
both_right false b h = absurd (false≢true h)

pub first_above : (l : List Test) (k : ℕ) → rising k l ≡ true → Above k (first l).number
unfolding first rising
first_above [] k r = inl refl
first_above (t ∷ l) k r =
    let m = t.answer.number in
    under t.back (ltb-true k m (both_left (ltb k m) (rising m l) r)) (first_above l m (both_right (ltb k m) (rising m l) r))
  where
    under : (b : Bool) → k < t.answer.number → Above t.answer.number (first l).number → Above k (pick b t.answer (first l)).number
    under true h a = inr h
    under false h (inl e) = inl e
    under false h (inr a) = inr (omega arith)

number-pick : (b : Bool) (q r : Refused) → (pick b q r).number ≡ pick b q.number r.number
number-pick true q r = refl
number-pick false q r = refl

-- tests after others
pub number_append : (l m : List Test) (k : ℕ) → rising k l ≡ true → (first (l ++ m)).number ≡ or_else (first l).number (first m).number
number_append l m k r =
    ap (λ q. q.number) (first-append l m k r) ∙ number-pick (eqb (first l).number 0) (first m) (first l)

pub number_more : (n : ℕ) (b : Bool) (l : List Test) → (first (by n b ∷ l)).number ≡ pick b n (first l).number
unfolding first
number_more n b l = number-pick b (numbered n) (first l)

-- one test alone
module _ {b : Bool} {Holds Fails : Type 0} (r : Reads b Holds Fails) (k : ℕ) (z : 0 < k) where
  alone : (first (by k b ∷ [])).number ≡ pick b k 0
  unfolding first
  alone = number_more k b []

  pub alone-holds : ((first (by k b ∷ [])).number ≡ k) ↔ Holds
  alone-holds = rw alone (here r k 0 z (inl refl))

  pub alone-fails : ((first (by k b ∷ [])).number ≡ 0) ↔ Fails
  alone-fails = rw alone (Iff.trans (past r k 0 0 (λ e. omega arith)) (λ x. x.0, λ f. (f, refl)))

-- ---- the place

-- some test gives a place
unfoldable pub any_place : List Test → Bool
any_place l = any_of (λ t. not (eqb t.answer.place 0)) l

placeless : (l : List Test) → any_place l ≡ false → (first l).place ≡ 0
unfolding any_of first any_place
placeless [] h = refl
placeless (t ∷ l) h = under t.back (placeless l (or_right (not (eqb t.answer.place 0)) (any_place l) h))
  where
    under : (b : Bool) → (first l).place ≡ 0 → (pick b t.answer (first l)).place ≡ 0
    under true e =
        eqb-true t.answer.place 0 (not-false (eqb t.answer.place 0) (or_left (not (eqb t.answer.place 0)) (any_place l) h))
    under false e = e

-- l is what is tested after the settings
pub placed : (cfg : Config) (l : List Test) → rising 1 l ≡ true → any_place l ≡ false → Placed (first (by_settings cfg ∷ l)).number (first (by_settings cfg ∷ l)).place cfg
unfolding first
placed cfg l up bare = under (eqb (place_of cfg) 0) refl
  where
    other : (first l).number ≡ 1 → ⊥
    other e = ⊎_elim (λ q. omega arith) (λ q. omega arith) (first_above l 1 up)

    under : (b : Bool) → eqb (place_of cfg) 0 ≡ b → Placed (pick (not b) (by_settings cfg).answer (first l)).number (pick (not b) (by_settings cfg).answer (first l)).place cfg
    under true e = record { check = λ q. absurd (other q); none = λ q. placeless l bare }
    under false e = record { check = λ q. fails-at cfg (eqb-false (place_of cfg) 0 e); none = λ q. absurd (q refl) }

-- ---- a call that is given a state, settings and a profile, and tests l after them

pub record Linked (r : Refused) (rest : ℕ) (s : State) (cfg : Config) (p : Profile) : Type 0 where
  pub given : GivenNumbers r.number cfg p
  pub state : StateNumbers r.number (GivenOk cfg p) s
  -- and the numbers of what is tested after them
  pub later : (m : ℕ) → Above 6 m → (r.number ≡ m) ↔ (LinkOk s cfg p × (rest ≡ m))
  pub place : Placed r.number r.place cfg

module _ (s : State) (cfg : Config) (p : Profile) (l : List Test) (up : rising 6 l ≡ true) (bare : any_place l ≡ false) where
  abbrev own : ℕ
  own = (first l).number

  abbrev whole : ℕ
  whole = or_else (given_number cfg p) (or_else (state_back s) own)

  in_layers : (first (link_tests s cfg p ++ l)).number ≡ whole
  unfolding link_tests given_tests state_tests state_back given_number rising
  in_layers =
      number_append (given_tests cfg p) (state_tests s ++ l) 0 refl
      ∙ ap (or_else (given_number cfg p)) (number_append (state_tests s) l 2 refl)

  inner_high : Above 2 (or_else (state_back s) own)
  inner_high = of_choice (Above 2) (eqb (state_back s) 0) own (state_back s) (⊎_elim (λ e. inl e) (λ h. inr (omega arith)) (first_above l 6 up)) (state-high s)

  of_given : (m : ℕ) → 0 < m → m ≤ 2 → (whole ≡ m) ↔ (given_number cfg p ≡ m)
  of_given = early (given_number cfg p) (or_else (state_back s) own) 2 (given-low cfg p) inner_high

  past-given : (m : ℕ) → Above 2 m → (whole ≡ m) ↔ (GivenOk cfg p × (or_else (state_back s) own ≡ m))
  past-given m h =
      Iff.trans (late (given_number cfg p) (or_else (state_back s) own) 2 (given-low cfg p) inner_high m h)
      (λ x. ((given-none cfg p).0 x.0, x.1), λ x. ((given-none cfg p).1 x.0, x.1))

  of_state : (m : ℕ) → 2 < m → m ≤ 6 → (whole ≡ m) ↔ (GivenOk cfg p × (state_back s ≡ m))
  of_state m h k =
      and_then (past-given m (inr h)) (early (state_back s) own 6 (state-low s) (first_above l 6 up) m (omega arith) k)

  of_rest : (m : ℕ) → Above 6 m → (whole ≡ m) ↔ (LinkOk s cfg p × (own ≡ m))
  of_rest m h =
      Iff.trans (and_then (past-given m (⊎_elim (λ e. inl e) (λ k. inr (omega arith)) h)) (late (state_back s) own 6 (state-low s) (first_above l 6 up) m h)) (
        λ x. (record { given = x.0; state = (state-none s).0 x.1.0 }, x.1.1),
        λ x. (x.0.given, ((state-none s).1 x.0.state, x.1)),
      )

  -- what is tested after the settings
  rest_up : rising 1 (by 2 (profile_bad p) ∷ (state_tests s ++ l)) ≡ true
  unfolding state_tests rising
  rest_up = up

  rest-bare : any_place (by 2 (profile_bad p) ∷ (state_tests s ++ l)) ≡ false
  unfolding state_tests any_place any_of
  rest-bare = bare

  pub linked : Linked (first (link_tests s cfg p ++ l)) (first l).number s cfg p
  unfolding link_tests given_tests
  linked =
      record {
        given = given-from cfg p _ (λ m z h. rw in_layers (of_given m z h));
        state = state-numbers s _ (λ m h k. rw in_layers (of_state m h k));
        later = λ m h. rw in_layers (of_rest m h);
        place = placed cfg (by 2 (profile_bad p) ∷ (state_tests s ++ l)) rest_up rest-bare;
      }

-- ---- a call that is given settings and a profile alone, and tests l after them

pub record Opening (r : Refused) (rest : ℕ) (cfg : Config) (p : Profile) : Type 0 where
  pub given : GivenNumbers r.number cfg p
  pub later : (m : ℕ) → Above 2 m → (r.number ≡ m) ↔ (GivenOk cfg p × (rest ≡ m))
  pub place : Placed r.number r.place cfg

pub opening : (cfg : Config) (p : Profile) (l : List Test) → rising 2 l ≡ true → any_place l ≡ false → Opening (first (given_tests cfg p ++ l)) (first l).number cfg p
unfolding given_tests given_number rising any_place any_of
opening cfg p l up bare =
    record {
      given = given-from cfg p _ (λ m z h. rw layers (early (given_number cfg p) (first l).number 2 (given-low cfg p) (first_above l 2 up) m z h));
      later = λ m h. rw layers (Iff.trans (late (given_number cfg p) (first l).number 2 (given-low cfg p) (first_above l 2 up) m h) (λ x. ((given-none cfg p).0 x.0, x.1), λ x. ((given-none cfg p).1 x.0, x.1)));
      place = placed cfg (by 2 (profile_bad p) ∷ l) up bare;
    }
  where
    layers : (first (given_tests cfg p ++ l)).number ≡ or_else (given_number cfg p) (first l).number
    layers = number_append (given_tests cfg p) l 0 refl

-- ---- a call that is given a state alone, and tests l after it

pub record Standing (n rest : ℕ) (s : State) : Type 0 where
  -- nothing is tested before 3
  pub state : StateNumbers n (Unit {0}) s
  pub later : (m : ℕ) → Above 6 m → (n ≡ m) ↔ (StateOk s × (rest ≡ m))

pub standing : (s : State) (l : List Test) → rising 6 l ≡ true → Standing (first (state_tests s ++ l)).number (first l).number s
unfolding state_tests state_back rising
standing s l up =
    record {
      state = state-numbers s _ (λ m h k. rw layers (Iff.trans (early (state_back s) (first l).number 6 (state-low s) (first_above l 6 up) m (omega arith) k) (λ e. (tt, e), λ x. x.1)));
      later = λ m h. rw layers (Iff.trans (late (state_back s) (first l).number 6 (state-low s) (first_above l 6 up) m h) (λ x. ((state-none s).0 x.0, x.1), λ x. ((state-none s).1 x.0, x.1)));
    }
  where
    layers : (first (state_tests s ++ l)).number ≡ or_else (state_back s) (first l).number
    layers = number_append (state_tests s) l 2 refl
