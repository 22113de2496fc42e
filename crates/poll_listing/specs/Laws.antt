-- Laws of offered items: one more, one list after another, and all that `due` names.
use Rattle.std.specs.Prelude.{ℕ, ◌≤◌, ◌<◌, ◌+◌, Bool, ◌||◌, ◌≡◌, List, [], ◌∷◌, ◌++◌, map, leb, ltb, length, get_or, min}
use Rattle.std.specs.Bool.{then_some}
use Rattle.std.proofs.Math.Bool.{true, false, not}
use Rattle.std.proofs.Math.Path.{refl, ap}
use Rattle.std.proofs.Common.{sym, ◌∙◌, ap₂, arith, le-leb, lt-ltb, subst}
use Rattle.std.proofs.Math.Nat.{sub-zero}
use Rattle.std.proofs.lemmas.Bool.{lt-leb}
use Rattle.time.specs.Options.{when_of}
use Rattle.time.specs.Pick.{pick}
use Rattle.time.proofs.Std.{min_least}
use Rattle.time.specs.Lists.{fold, range, kept, fold-append, range-next, range-end, kept_append}
use Rattle.numbers.specs.Numbers.{item_drain, item_candidate}
use Rattle.candidates.specs.Held.{held_of, held_by, cand_at}
use Rattle.items.specs.Items.{Item, item, insert, sorted, names, listed_in, untimed}
use Rattle.items.specs.Arrays.{most}
use Rattle.items.proofs.Sorted.{length-insert}
use Rattle.state.specs.declared.State.{State}
use Rattle.state.specs.Parts.{listed}
use Rattle.start.specs.Start.{instants}
use Rattle.wake.specs.Due.{items_at, drain_items, candidate_items, cycle_items, current_items, named, is_due, due_items}
use Rattle.poll_listing.specs.Listing.{unlisted, fresh, pass_items, offered, waiting_from, Offered}

-- the instant of an item does not matter to whether it is listed
timeless : (t u k x : ℕ) (l : List Item) → listed_in (item t k x) l ≡ listed_in (item u k x) l
unfolding listed_in
timeless t u k x [] = refl
timeless t u k x (y ∷ l) = ap (λ b. names y (item t k x) || b) (timeless t u k x l)

module _ (done : List Item) (now : ℕ) where
  offered-append : (have l m : List Item) → offered done now have (l ++ m) ≡ offered done now (offered done now have l) m
  unfolding offered
  offered-append have l m =
      ap (λ r. fold (λ s i. insert i s) have (unlisted done r)) (kept_append (is_due now) l m)
      ∙ (ap (fold (λ s i. insert i s) have) (kept_append (λ i. not (listed_in i done)) (kept (is_due now) l) (kept (is_due now) m))
      ∙ fold-append (λ s i. insert i s) have (unlisted done (kept (is_due now) l)) (unlisted done (kept (is_due now) m)))

  offered-none : (have : List Item) → offered done now have [] ≡ have
  unfolding offered kept fold
  offered-none have = refl

  module _ (have : List Item) (t k x : ℕ) where
    offered-one : (due old : Bool) → leb t now ≡ due → listed_in (item t k x) done ≡ old → offered done now have (item t k x ∷ []) ≡ pick due (pick old have (insert (item t k x) have)) have
    unfolding offered kept fold
    offered-one true true p q = rw (p, q)
    offered-one true false p q = rw (p, q)
    offered-one false old p q = rw p

module _ {done : List Item} {time : ℕ} {have : List Item} where
  -- nothing is offered
  pub offer-nothing : (k : ℕ) → Offered done time [] k have have
  offer-nothing k = record { items = sym (offered-none done time _); count = omega arith }

  -- fewer than there is room for
  pub offer-fewer : {l : List Item} {j : ℕ} (k : ℕ) {a : List Item} → j ≤ k → Offered done time l j have a → Offered done time l k have a
  offer-fewer k h o = record { items = o.items; count = omega (arith, o.count) }

  -- one list is offered after another
  pub offer-then :
      {l m : List Item} {j k : ℕ} {a b : List Item} → Offered done time l j have a → Offered done time m k a b
      → Offered done time (l ++ m) (j + k) have b
  offer-then {l} {m} {j} {k} {a} {b} o p =
      record {
        items = p.items ∙ (ap (λ s. offered done time s m) o.items ∙ sym (offered-append done time have l m));
        count = omega (arith, o.count, p.count);
      }

  module _ (i : Item) where
    -- an item that is not due
    pub offer-later : time < i.at → Offered done time (i ∷ []) 1 have have
    offer-later h = record { items = sym (offered-one done time have i.at i.kind i.key false (listed_in i done) (lt-leb i.at time h) refl); count = omega arith }

    -- one that an earlier pass listed
    pub offer-old : i.at ≤ time → listed_in (untimed i) done ≡ true → Offered done time (i ∷ []) 1 have have
    offer-old h e = record { items = sym (offered-one done time have i.at i.kind i.key true true (le-leb i.at time h) (timeless i.at 0 i.kind i.key done ∙ e)); count = omega arith }

    -- one that none listed
    pub offer-new :
        {a : List Item} → i.at ≤ time → listed_in (untimed i) done ≡ false → length have < most → a ≡ pick (ltb (length have) most) (insert i have) have
        → Offered done time (i ∷ []) 1 have a
    offer-new {a} h e b q =
        let there : a ≡ insert i have = q ∙ ap (λ c. pick c (insert i have) have) (lt-ltb (length have) most b) in
        record {
          items = there ∙ sym (offered-one done time have i.at i.kind i.key true false (le-leb i.at time h) (timeless i.at 0 i.kind i.key done ∙ e));
          count = omega (arith, ap length there, length-insert i have);
        }

-- ---- the candidates

module _ (deadline seq : List ℕ) (i n : ℕ) where
  pub waiting-next : i < n → waiting_from deadline seq i n ≡ item (get_or deadline i 0) item_candidate (get_or seq i 0) ∷ waiting_from deadline seq (i + 1) n
  unfolding waiting_from
  waiting-next h = rw (range-next i n h)

  pub waiting-end : n ≤ i → waiting_from deadline seq i n ≡ []
  unfolding waiting_from
  waiting-end h = rw (range-end i n h)

-- one candidate more is offered
module _ (done : List Item) (time : ℕ) (deadline seq : List ℕ) (start : List Item) (i n : ℕ) (have : List Item) where
  pub waiting_turn : {a : List Item} →
      offered done time start (waiting_from deadline seq 0 n) ≡ offered done time have (waiting_from deadline seq i n)
      → i < n → Offered done time (item (get_or deadline i 0) item_candidate (get_or seq i 0) ∷ []) 1 have a
      → offered done time start (waiting_from deadline seq 0 n) ≡ offered done time a (waiting_from deadline seq (i + 1) n)
  waiting_turn {a} e h o =
      e
      ∙ (ap (offered done time have) (waiting-next deadline seq i n h)
      ∙ (offered-append done time have (item (get_or deadline i 0) item_candidate (get_or seq i 0) ∷ []) (waiting_from deadline seq (i + 1) n)
      ∙ ap (λ s. offered done time s (waiting_from deadline seq (i + 1) n)) (sym o.items)))

  pub waiting-done :
      offered done time start (waiting_from deadline seq 0 n) ≡ offered done time have (waiting_from deadline seq i n)
      → n ≤ i → have ≡ offered done time start (waiting_from deadline seq 0 n)
  waiting-done e h = sym (e ∙ (ap (offered done time have) (waiting-end deadline seq i n h) ∙ offered-none done time have))

map-twice : {A B C : Type 0} (f : B → C) (g : A → B) (l : List A) → map f (map g l) ≡ map (λ a. f (g a)) l
map-twice f g [] = refl
map-twice f g (a ∷ l) = ap (λ r. f (g a) ∷ r) (map-twice f g l)

pub waiting-all : (s : State) → waiting_from s.cands.deadline s.cands.seq 0 (held_of s.cands.len) ≡ candidate_items s
unfolding waiting_from candidate_items held_by cand_at
waiting-all s =
    ap (λ m. map (λ j. item (get_or s.cands.deadline j 0) item_candidate (get_or s.cands.seq j 0)) (range 0 m)) (sub-zero (held_of s.cands.len))
    ∙ sym (map-twice (λ c. item c.deadline item_candidate c.seq) (cand_at s.cands) (range 0 (held_of s.cands.len)))

-- ---- all that `due` names

named-parts : (s : State) → named s ≡ drain_items s ++ (candidate_items s ++ (cycle_items s.cycle ++ current_items s.cur))
unfolding named
named-parts s = refl

pass_offered : (done : List Item) (s : State) (time : ℕ) → offered done time [] (named s) ≡ pass_items done s time
unfolding offered pass_items fresh due_items sorted
pass_offered done s time = refl

-- the parts that are offered one after another are those that `due` names
pub parts-named :
    (s : State) (m : ℕ) (a b : List Item) → m ≡ held_of s.cands.len → a ≡ cycle_items s.cycle → b ≡ current_items s.cur
    → items_at item_drain s.drain.ep.tag (listed s.drain.some s.drain.deadline) ++ (waiting_from s.cands.deadline s.cands.seq 0 m ++ (a ++ b)) ≡ drain_items s ++ (candidate_items s ++ (cycle_items s.cycle ++ current_items s.cur))
unfolding drain_items
parts-named s m a b h p q =
    ap (λ l. items_at item_drain s.drain.ep.tag (listed s.drain.some s.drain.deadline) ++ l)
    (ap₂ ◌++◌ (ap (waiting_from s.cands.deadline s.cands.seq 0) h ∙ waiting-all s) (ap₂ ◌++◌ p q))

-- every item of `due` offered to no item gives those of a pass
pub collected :
    {done : List Item} {time : ℕ} (s : State) {l : List Item} {k : ℕ} {a : List Item}
    → l ≡ drain_items s ++ (candidate_items s ++ (cycle_items s.cycle ++ current_items s.cur)) → Offered done time l k [] a → k ≤ most
    → (a ≡ pass_items done s time) × (length a ≤ most)
collected {done} {time} s e o h = (o.items ∙ (ap (offered done time []) (e ∙ sym (named-parts s)) ∙ pass_offered done s time), omega (arith, o.count, h))

pub drain-listed : (b : Bool) (t : ℕ) → instants (when_of (then_some b t)) ≡ listed b t
drain-listed true t = refl
drain-listed false t = refl

pub held-least : (n : ℕ) → min n 32 ≡ held_of n
unfolding held_of
held-least n = min_least n 32

-- an item made of a deadline has its key
pub both-named :
    {done : List Item} {time : ℕ} {have a : List Item} (kind : ℕ) (n : List ℕ) {i j : Item} → i ≡ j
    → Offered done time (items_at kind i.key n ++ (i ∷ [])) 2 have a → Offered done time (items_at kind j.key n ++ (j ∷ [])) 2 have a
both-named {done} {time} {have} {a} kind n e o = subst (λ (k : Item). Offered done time (items_at kind k.key n ++ (k ∷ [])) 2 have a) e o

pub one-named : {done : List Item} {time : ℕ} {have a : List Item} {i j : Item} → i ≡ j → Offered done time (i ∷ []) 1 have a → Offered done time (j ∷ []) 1 have a
one-named {done} {time} {have} {a} e o = subst (λ (k : Item). Offered done time (k ∷ []) 1 have a) e o
