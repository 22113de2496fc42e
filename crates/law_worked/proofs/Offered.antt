-- Laws of items offered to three lists of numbers: one more, one list after another, and all that `due` names.
use Rattle.std.specs.Prelude.{ℕ, ◌≤◌, ◌<◌, ◌+◌, Bool, ◌||◌, ◌≡◌, List, [], ◌∷◌, ◌++◌, leb, ltb, length, get_or}
use Rattle.std.proofs.Math.Bool.{true, false, not}
use Rattle.std.proofs.Math.Path.{refl, ap}
use Rattle.std.proofs.Common.{sym, ◌∙◌, ap₂, arith, le-leb, lt-ltb}
use Rattle.std.proofs.Math.Nat.{sub-zero}
use Rattle.std.proofs.lemmas.Bool.{lt-leb}
use Rattle.time.specs.Pick.{pick}
use Rattle.time.specs.Lists.{fold, kept, fold-append, kept_append}
use Rattle.numbers.specs.Numbers.{item_drain, item_candidate}
use Rattle.candidates.specs.Held.{held_of}
use Rattle.items.specs.Items.{Item, item, insert, sorted, names, listed_in}
use Rattle.items.specs.Arrays.{most}
use Rattle.state.specs.declared.State.{State}
use Rattle.state.specs.Parts.{listed}
use Rattle.wake.specs.Due.{items_at, drain_items, candidate_items, cycle_items, current_items, named, is_due, due_items}
use Rattle.poll_listing.specs.Listing.{unlisted, fresh, pass_items, offered, waiting_from}
use Rattle.poll_listing.specs.Laws.{waiting-next, waiting-end, waiting-all}
use Rattle.law_worked.specs.Arrays.{items_of, Inserted}
use Rattle.law_worked.specs.Offered.{Two, two_items, Offered, Collected}
use Rattle.law_worked.proofs.Arrays.{items-end, length-items}

-- the instant of an item does not matter to whether it is listed
timeless : (t u k x : ℕ) (l : List Item) → listed_in (item t k x) l ≡ listed_in (item u k x) l
unfolding listed_in
timeless t u k x [] = refl
timeless t u k x (y ∷ l) = ap (λ b. names y (item t k x) || b) (timeless t u k x l)

module _ (done : List Item) (now : ℕ) where
  offered-append : (have l m : List Item) → offered done now have (l ++ m) ≡ offered done now (offered done now have l) m
  unfolding offered
  offered-append have l m =
      ap (λ r. fold (λ s i. insert i s) have (unlisted done r)) (kept_append (is_due now) l m)
      ∙ (ap (fold (λ s i. insert i s) have) (kept_append (λ i. not (listed_in i done)) (kept (is_due now) l) (kept (is_due now) m))
      ∙ fold-append (λ s i. insert i s) have (unlisted done (kept (is_due now) l)) (unlisted done (kept (is_due now) m)))

  offered-none : (have : List Item) → offered done now have [] ≡ have
  unfolding offered kept fold
  offered-none have = refl

  module _ (have : List Item) (t k x : ℕ) where
    offered-one : (due old : Bool) → leb t now ≡ due → listed_in (item t k x) done ≡ old → offered done now have (item t k x ∷ []) ≡ pick due (pick old have (insert (item t k x) have)) have
    unfolding offered kept fold
    offered-one true true p q = rw (p, q)
    offered-one true false p q = rw (p, q)
    offered-one false old p q = rw p

module _ {done : List Item} {time : ℕ} where
  -- nothing is offered
  pub offer-nothing : (k : ℕ) {at kind key : List ℕ} {n : ℕ} → Offered done time [] k at kind key n at kind key n
  offer-nothing k = record { items = sym (offered-none done time _); count = omega arith }

  -- one list is offered after another
  pub offer-then :
      {l m : List Item} {j k : ℕ} {at kind key at' kind' key' at'' kind'' key'' : List ℕ} {n p r : ℕ}
      → Offered done time l j at kind key n at' kind' key' p → Offered done time m k at' kind' key' p at'' kind'' key'' r
      → Offered done time (l ++ m) (j + k) at kind key n at'' kind'' key'' r
  offer-then {l} {m} {j} {k} {at} {kind} {key} {at'} {kind'} {key'} {at''} {kind''} {key''} {n} {p} {r} a b =
      record {
        items = b.items ∙ (ap (λ s. offered done time s m) a.items ∙ sym (offered-append done time (items_of at kind key n) l m));
        count = let p : _ = a.count in let q : _ = b.count in omega arith;
      }

  module _ {at kind key : List ℕ} {n : ℕ} (t k x : ℕ) where
    -- an item that is not due
    pub offer-later : time < t → Offered done time (item t k x ∷ []) 1 at kind key n at kind key n
    offer-later h = record { items = sym (offered-one done time (items_of at kind key n) t k x false (listed_in (item t k x) done) (lt-leb t time h) refl); count = omega arith }

    -- one that an earlier pass listed
    pub offer-old : t ≤ time → listed_in (item 0 k x) done ≡ true → Offered done time (item t k x ∷ []) 1 at kind key n at kind key n
    offer-old h e = record { items = sym (offered-one done time (items_of at kind key n) t k x true true (le-leb t time h) (timeless t 0 k x done ∙ e)); count = omega arith }

    -- one that none listed
    pub offer-new :
        {at' kind' key' : List ℕ} {r : ℕ} → t ≤ time → listed_in (item 0 k x) done ≡ false → n < most → Inserted at kind key n (item t k x) at' kind' key' r
        → Offered done time (item t k x ∷ []) 1 at kind key n at' kind' key' r
    offer-new {at'} {kind'} {key'} {r} h e b i =
        let q : ltb n most ≡ true = lt-ltb n most b in
        record {
          items = i.items ∙ (ap (λ c. pick c (insert (item t k x) (items_of at kind key n)) (items_of at kind key n)) q ∙ sym (offered-one done time (items_of at kind key n) t k x true false (le-leb t time h) (timeless t 0 k x done ∙ e)));
          count = let s : r ≡ n + 1 = i.count ∙ ap (λ c. pick c (n + 1) n) q in omega arith;
        }

-- ---- the candidates

-- one candidate more is offered
module _ (done : List Item) (time : ℕ) (deadline seq : List ℕ) (start : List Item) (i n : ℕ) (at kind key : List ℕ) (p : ℕ) where
  pub waiting_turn : {at' kind' key' : List ℕ} {r : ℕ} →
      offered done time start (waiting_from deadline seq 0 n) ≡ offered done time (items_of at kind key p) (waiting_from deadline seq i n)
      → i < n → Offered done time (item (get_or deadline i 0) item_candidate (get_or seq i 0) ∷ []) 1 at kind key p at' kind' key' r
      → offered done time start (waiting_from deadline seq 0 n) ≡ offered done time (items_of at' kind' key' r) (waiting_from deadline seq (i + 1) n)
  waiting_turn {at'} {kind'} {key'} {r} e h o =
      e
      ∙ (ap (offered done time (items_of at kind key p)) (waiting-next deadline seq i n h)
      ∙ (offered-append done time (items_of at kind key p) (item (get_or deadline i 0) item_candidate (get_or seq i 0) ∷ []) (waiting_from deadline seq (i + 1) n)
      ∙ ap (λ s. offered done time s (waiting_from deadline seq (i + 1) n)) (sym o.items)))

  pub waiting-done :
      offered done time start (waiting_from deadline seq 0 n) ≡ offered done time (items_of at kind key p) (waiting_from deadline seq i n)
      → n ≤ i → items_of at kind key p ≡ offered done time start (waiting_from deadline seq 0 n)
  waiting-done e h = sym (e ∙ (ap (offered done time (items_of at kind key p)) (waiting-end deadline seq i n h) ∙ offered-none done time (items_of at kind key p)))

-- ---- all that `due` names

named-parts : (s : State) → named s ≡ drain_items s ++ (candidate_items s ++ (cycle_items s.cycle ++ current_items s.cur))
unfolding named
named-parts s = refl

pass_offered : (done : List Item) (s : State) (time : ℕ) → offered done time [] (named s) ≡ pass_items done s time
unfolding offered pass_items fresh due_items sorted
pass_offered done s time = refl

-- every item of `due` offered to no item gives those of a pass, and their number
pub collected :
    {done : List Item} {time : ℕ} (s : State) {l : List Item} {k : ℕ} {at kind key at' kind' key' : List ℕ} {r : ℕ}
    → l ≡ drain_items s ++ (candidate_items s ++ (cycle_items s.cycle ++ current_items s.cur))
    → Offered done time l k at kind key 0 at' kind' key' r → k ≤ most
    → Collected done s time at' kind' key' r
collected {done} {time} s {l} {k} {at} {kind} {key} {at'} {kind'} {key'} {r} e o h =
    let p : items_of at' kind' key' r ≡ pass_items done s time =
    o.items
    ∙ (ap₂ (offered done time) (items-end at kind key 0 0 (omega arith)) (e ∙ sym (named-parts s)) ∙ pass_offered done s time) in
    record { items = p; count = sym (length-items at' kind' key' 0 r ∙ sub-zero r) ∙ ap length p; room = let c : r ≤ 0 + k = o.count in omega arith }

-- what the code offers, part by part, is what `due` names
pub parts-named :
    (s : State) (m : ℕ) (t u : Two) → m ≡ held_of s.cands.len → two_items t ≡ cycle_items s.cycle → two_items u ≡ current_items s.cur
    → items_at item_drain s.drain.ep.tag (listed s.drain.some s.drain.deadline) ++ (waiting_from s.cands.deadline s.cands.seq 0 m ++ (two_items t ++ two_items u)) ≡ drain_items s ++ (candidate_items s ++ (cycle_items s.cycle ++ current_items s.cur))
unfolding drain_items
parts-named s m t u h p q = ap (λ l. items_at item_drain s.drain.ep.tag (listed s.drain.some s.drain.deadline) ++ l) (ap₂ ◌++◌ (ap (waiting_from s.cands.deadline s.cands.seq 0) h ∙ waiting-all s) (ap₂ ◌++◌ p q))
