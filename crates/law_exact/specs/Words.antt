-- Refusals 1 to 7 in document 01's words: what sends a call back, and what passes.
use Rattle.std.specs.Prelude.{ℕ, zero, suc, ◌≤◌, ◌<◌, ◌+◌, Bool, true, false, not, ◌&&◌, ◌||◌, ◌⊎◌, ◌≡◌, refl, List, [], ◌∷◌, eqb, ℤ, pos, neg_ℤ, ◌≤ℤ◌, ◌<ℤ◌, get_or}
use Rattle.std.proofs.Common.{true≢false, inl, inr, ⊎_elim, sym, ◌∙◌, arith, eqb-true, eq-eqb}
use Rattle.std.proofs.lemmas.Bool.{false≢true}
use Rattle.ladder.specs.Schedule.{max_rungs}
use Rattle.ladder.specs.declared.Ladder.{Ladder}
use Rattle.settings.specs.declared.Config.{Config}
use Rattle.settings.specs.Settings.{failing, first_at, place_of}
use Rattle.settings.specs.Accepted.{Accepted}
use Rattle.settings.proofs.Accepted.{accepted, accepting}
use Rattle.state.specs.declared.State.{State}
use Rattle.state.specs.declared.Profile.{Profile}
use Rattle.state.specs.Parts.{ladders_of}
use Rattle.refusal.specs.Refusal.{profile_bad, cands_bad, is_pending, epochs_bad_of, epochs_bad, tags_of, seqs_of, numbers_bad, ladder_bad, ladders_bad, spread_bad, by_settings}
use Rattle.law_refusal.specs.Sound.{Within}
use Rattle.law_exact.specs.Reads.{Reads, Each, Some, Twice, Apart, reads_less, reads_same, reads_below, reads_not, reads_or, reads_as, reads_any, reads_twice}

-- ---- 1. "The settings fail a check of 004"

abbrev pub SettingsFail : Config → Type 0
SettingsFail cfg = Accepted cfg → ⊥

pub reads_settings : (cfg : Config) → Reads (by_settings cfg).back (SettingsFail cfg) (Accepted cfg)
reads_settings cfg = under (eqb (place_of cfg) 0) refl
  where
    under : (b : Bool) → eqb (place_of cfg) 0 ≡ b → Reads (not b) (SettingsFail cfg) (Accepted cfg)
    under true e =
        let a : Accepted cfg = accepted cfg (eqb-true (place_of cfg) 0 e) in
        record { holds = (λ q. absurd (false≢true q), λ f. absurd (f a)); fails = (λ q. a, λ q. refl) }
    under false e =
        let f : SettingsFail cfg = λ a. false≢true (sym e ∙ eq-eqb (place_of cfg) 0 (accepting cfg a)) in
        record { holds = (λ q. f, λ q. refl); fails = (λ q. absurd (true≢false q), λ a. absurd (f a)) }

-- "the first such check's place in file order, from 1, is given": an index counts from 0
pub record FailsAt (cfg : Config) (place : ℕ) : Type 0 where
  pub index : ℕ
  pub counted : place ≡ index + 1
  pub check : get_or (failing cfg) index false ≡ true
  pub before : (i : ℕ) → i < index → get_or (failing cfg) i false ≡ false

-- the first test of a list that holds, where the list's own first stands at place n
found : (n : ℕ) (l : List Bool) → (first_at n l ≡ 0 → ⊥) → (k : ℕ) × (first_at n l ≡ k + n) × (get_or l k false ≡ true) × ((i : ℕ) → i < k → get_or l i false ≡ false)
unfolding first_at
found n [] h = absurd (h refl)
found n (true ∷ l) h = (0, omega arith, refl, λ i j. absurd (omega arith))
found n (false ∷ l) h = let f = found (suc n) l h in (suc f.0, omega (arith, f.1), f.2, below f.0 f.3)
  where
    below : (k : ℕ) → ((i : ℕ) → i < k → get_or l i false ≡ false) → (i : ℕ) → i < suc k → get_or (false ∷ l) i false ≡ false
    below k b zero j = refl
    below k b (suc i) j = b i (omega arith)

pub fails-at : (cfg : Config) → (place_of cfg ≡ 0 → ⊥) → FailsAt cfg (place_of cfg)
unfolding place_of
fails-at cfg h = let f = found 1 (failing cfg) h in record { index = f.0; counted = f.1; check = f.2; before = f.3 }

-- ---- 2. "A profile value lies outside its range": "messages (2 or 3) .. and a floor of 0 to 64 bytes"

pub record ProfileOk (p : Profile) : Type 0 where
  pub messages : (p.messages ≡ 2) ⊎ (p.messages ≡ 3)
  pub floor : p.floor ≤ 64

abbrev pub ProfileOut : Profile → Type 0
ProfileOut p = ((p.messages ≡ 2 → ⊥) × (p.messages ≡ 3 → ⊥)) ⊎ (64 < p.floor)

pub reads_profile : (p : Profile) → Reads (profile_bad p) (ProfileOut p) (ProfileOk p)
unfolding profile_bad
reads_profile p =
    reads_as (reads_or (reads_not (reads_or (reads_same p.messages 2) (reads_same p.messages 3))) (reads_less 64 p.floor))
    (λ x. x, λ x. x)
    (λ x. record { messages = x.0; floor = x.1 }, λ o. (o.messages, o.floor))

-- 1 and 2 pass
pub record GivenOk (cfg : Config) (p : Profile) : Type 0 where
  pub settings : Accepted cfg
  pub profile : ProfileOk p

-- ---- 3. "The state holds more than 32 candidates."

abbrev pub TooMany : State → Type 0
TooMany s = 32 < s.cands.len

abbrev pub CountOk : State → Type 0
CountOk s = s.cands.len ≤ 32

pub reads_many : (s : State) → Reads (cands_bad s) (TooMany s) (CountOk s)
reads_many s = reads_less 32 s.cands.len

-- ---- 4. "A pending or drained epoch stands without a current one."

abbrev pub PendingOrDrained : State → Type 0
PendingOrDrained s = (is_pending s.cycle.kind ≡ true) ⊎ (s.drain.some ≡ true)

abbrev pub WithoutCurrent : State → Type 0
WithoutCurrent s = PendingOrDrained s × (s.cur.some ≡ false)

abbrev pub WithCurrent : State → Type 0
WithCurrent s = PendingOrDrained s → s.cur.some ≡ true

pub reads_current : (s : State) → Reads (epochs_bad s) (WithoutCurrent s) (WithCurrent s)
unfolding epochs_bad_of
reads_current s = under s.cur.some (is_pending s.cycle.kind) s.drain.some
  where
    under : (c p d : Bool) → Reads (not c && (p || d)) (((p ≡ true) ⊎ (d ≡ true)) × (c ≡ false)) ((p ≡ true) ⊎ (d ≡ true) → c ≡ true)
    under true p d =
        record { holds = (λ e. absurd (false≢true e), λ x. absurd (true≢false x.1)); fails = (λ e x. refl, λ x. refl) }
    under false true d =
        record { holds = (λ e. (inl refl, refl), λ x. refl); fails = (λ e. absurd (true≢false e), λ x. absurd (false≢true (x (inl refl)))) }
    under false false true =
        record { holds = (λ e. (inr refl, refl), λ x. refl); fails = (λ e. absurd (true≢false e), λ x. absurd (false≢true (x (inr refl)))) }
    under false false false =
        record {
          holds = (λ e. absurd (false≢true e), λ x. absurd (⊎_elim false≢true false≢true x.0));
          fails = (λ e x. absurd (⊎_elim false≢true false≢true x), λ x. refl);
        }

-- ---- 5. "Two epochs share a tag, or two candidates a sequence number."

abbrev pub Shared : State → Type 0
Shared s = Twice (tags_of s) ⊎ Twice (seqs_of s)

pub record Different (s : State) : Type 0 where
  pub tags : Apart (tags_of s)
  pub seqs : Apart (seqs_of s)

pub reads_shared : (s : State) → Reads (numbers_bad s) (Shared s) (Different s)
unfolding numbers_bad
reads_shared s =
    reads_as (reads_or (reads_twice (tags_of s)) (reads_twice (seqs_of s)))
    (λ x. x, λ x. x)
    (λ x. record { tags = x.0; seqs = x.1 }, λ o. (o.tags, o.seqs))

-- ---- 6. "A ladder has more than 16 rungs, or stands past its last."

abbrev pub LadderOut : Ladder → Type 0
LadderOut l = (max_rungs < l.sched.len) ⊎ (l.sched.len < l.next)

abbrev pub LadderOk : Ladder → Type 0
LadderOk l = Within l.sched.len l.next

pub reads_ladders : (s : State) → Reads (ladders_bad s) (Some LadderOut (ladders_of s)) (Each LadderOk (ladders_of s))
unfolding ladders_bad ladder_bad
reads_ladders s =
    reads_any (λ l. ladder_bad l.sched.len l.next) LadderOut LadderOk
    (λ l.
    reads_as (reads_or (reads_less max_rungs l.sched.len) (reads_less l.sched.len l.next))
    (λ x. x, λ x. x)
    (λ x. record { rungs = x.0; cursor = x.1 }, λ o. (o.rungs, o.cursor)))
    (ladders_of s)

-- 3 to 6 pass: "a state [is accepted] when 3 to 6 pass it"
pub record StateOk (s : State) : Type 0 where
  pub count : CountOk s
  pub current : WithCurrent s
  pub different : Different s
  pub ladders : Each LadderOk (ladders_of s)

-- ---- 7. "A draw lies outside its range." "Spread, from −J to J"; "Extra, from 0 to J"

pub record SpreadOk (j : ℕ) (spread : ℤ) : Type 0 where
  pub low : neg_ℤ (pos j) ≤ℤ spread
  pub high : spread ≤ℤ pos j

abbrev pub SpreadOut : ℕ → ℤ → Type 0
SpreadOut j spread = (spread <ℤ neg_ℤ (pos j)) ⊎ (pos j <ℤ spread)

pub reads_spread : (j : ℕ) (spread : ℤ) → Reads (spread_bad j spread) (SpreadOut j spread) (SpreadOk j spread)
unfolding spread_bad
reads_spread j spread =
    reads_as (reads_or (reads_below spread (neg_ℤ (pos j))) (reads_below (pos j) spread))
    (λ x. x, λ x. x)
    (λ x. record { low = x.0; high = x.1 }, λ o. (o.low, o.high))
