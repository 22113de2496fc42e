-- Laws of items that stand as three lists of numbers: a place opened for one more, an item put in its place, and names
-- put after those listed.
use Prim.Native.Nat.{ℕ, suc, ◌≤◌, ◌<◌, ◌+◌, ◌-◌}
use Rattle.std.specs.Prelude.{true, false, ◌≡◌, refl, List, [], ◌∷◌, ◌++◌, map, set}
use Rattle.std.proofs.Common.{sym, ◌∙◌, zero-add, add-zero, take-suc, drop_at, get_or-drop, get_or-append-add, get_or-set_same, get_or-set_other, lt-ltb}
use Rattle.std.proofs.Math.Path.{ap, ap₂}
use Rattle.std.proofs.lemmas.List.{map-append, set_split}
use Rattle.std.proofs.Math.Nat.{sub-zero}
use Rattle.std.proofs.Math.Numerals.{add-one}
use native.Mathlib.Omega.{arith}
use Rattle.std.proofs.Math.ListN.{length, get_or, take, drop, length-map, get_or-append}
use Rattle.std.proofs.Math.Seq.{slice, append_snoc, get_or_at, get_or-take, length-take-le, take-set-le, slice_empty, length-slice, drop-append-le}
use Rattle.time.specs.Pick.{pick}
use Rattle.time.specs.Lists.{range, range-next, range-end, range-more, length-range}
use Rattle.time.specs.Time.{least}
use Rattle.time.specs.Laws.{least-left}
use Rattle.items.specs.Items.{Item, item, before, insert, names, listed_in, untimed}
use Rattle.items.specs.Arrays.{most, most_listed, place_for}
use Rattle.items.proofs.Laws.{place-most}
use Rattle.law_worked.specs.Arrays.{item_at, items_from, items_of, opened, list_at, list_from, list_of, Wide, Noted}
use Rattle.law_worked.specs.Ranges.{range_split, map_range, spot, insert_places}

-- ---- a place opened in a list

module _ (i n x : ℕ) (l : List ℕ) where
  pub opened-step : i < n → n < length l → opened i n x l ≡ opened i (n - 1) x (set l n (get_or l (n - 1) 0))
  unfolding opened
  opened-step h k =
      let v : ℕ = get_or l (n - 1) 0 in
      let m : n ≡ suc (n - 1) = omega arith in
      let e : n - 1 + 1 ≡ n = omega arith in
      let s : slice i n l ≡ slice i (n - 1) l ++ (v ∷ []) =
      ap (λ j. drop i (take j l)) m
      ∙ (ap (drop i) (take-suc l (n - 1) 0 (omega arith))
      ∙ drop-append-le i (take (n - 1) l) (v ∷ []) (rw (length-take-le (n - 1) l (omega arith)) (omega arith))) in
      let d : drop n (set l n v) ≡ v ∷ drop (n + 1) l =
      rw (set_split l n v k, add-one n) (drop_at (take n l) (v ∷ drop (suc n) l) n (length-take-le n l (omega arith))) in
      ap (λ r. take i l ++ (x ∷ (r ++ drop (n + 1) l))) s
      ∙ (ap (λ r. take i l ++ (x ∷ r)) (append_snoc (slice i (n - 1) l) v (drop (n + 1) l))
      ∙ rw (e, d, take-set-le i l n v (omega arith), take-set-le (n - 1) l n v (omega arith)))

  pub opened-done : n ≤ i → i ≤ n → i < length l → opened i n x l ≡ set l i x
  unfolding opened
  opened-done h k b =
      let e : n ≡ i = omega arith in
      rw (e, slice_empty i l, add-one i) (sym (set_split l i x b))

  pub opened-below : (j : ℕ) → i ≤ n → n < length l → j < i → get_or (opened i n x l) j 0 ≡ get_or l j 0
  unfolding opened
  opened-below j h k b =
      get_or-append (take i l) (x ∷ (slice i n l ++ drop (n + 1) l)) 0 j (rw (length-take-le i l (omega arith)) b)
      ∙ get_or-take i l j 0 b

  pub opened-here : i ≤ n → n < length l → get_or (opened i n x l) i 0 ≡ x
  unfolding opened
  opened-here h k = get_or_at (take i l) x (slice i n l ++ drop (n + 1) l) 0 i (length-take-le i l (omega arith))

  pub opened-above : (d : ℕ) → i ≤ n → n < length l → d < n - i → get_or (opened i n x l) (i + 1 + d) 0 ≡ get_or l (i + d) 0
  unfolding opened
  opened-above d h k b =
      let t : length (take i l) ≡ i = length-take-le i l (omega arith) in
      let e : i + 1 + d ≡ length (take i l) + suc d = rw t (omega arith) in
      ap (λ q. get_or (take i l ++ (x ∷ (slice i n l ++ drop (n + 1) l))) q 0) e
      ∙ (get_or-append-add (take i l) (x ∷ (slice i n l ++ drop (n + 1) l)) (suc d) 0
      ∙ (get_or-append (slice i n l) (drop (n + 1) l) 0 d (rw (length-slice i n l (omega arith)) b)
      ∙ (get_or-drop i (take n l) d 0 ∙ get_or-take n l (i + d) 0 (omega arith))))

-- ---- an item put in its place

module _ (at kind key : List ℕ) (i n : ℕ) where
  pub items-next : i < n → items_from at kind key i n ≡ item_at at kind key i ∷ items_from at kind key (i + 1) n
  unfolding items_from
  items-next h = rw (range-next i n h)

  pub items-end : n ≤ i → items_from at kind key i n ≡ []
  unfolding items_from
  items-end h = rw (range-end i n h)

  pub length-items : length (items_from at kind key i n) ≡ n - i
  unfolding items_from
  length-items = length-map (range i (n - i)) (item_at at kind key) ∙ length-range i (n - i)

  module _ (x : Item) where
    pub put-here : i < n → before x (item_at at kind key i) ≡ true → i + place_for x (items_from at kind key i n) ≡ i
    unfolding place_for
    put-here h e = rw (items-next h, e) (add-zero i)

    pub put_on : i < n → before x (item_at at kind key i) ≡ false → i + place_for x (items_from at kind key i n) ≡ i + 1 + place_for x (items_from at kind key (i + 1) n)
    unfolding place_for
    put_on h e = rw (items-next h, e) (omega arith)

    pub put-end : n ≤ i → i + place_for x (items_from at kind key i n) ≡ i
    unfolding place_for
    put-end h = rw (items-end h) (add-zero i)

  -- the items after a place is opened for one more
  pub opened-items : (x : Item) → Wide most at kind key → i ≤ n → n < most → items_of (opened i n x.at at) (opened i n x.kind kind) (opened i n x.key key) (n + 1) ≡ map (item_at at kind key) (range 0 i) ++ (x ∷ map (item_at at kind key) (range i (n - i)))
  unfolding items_from
  opened-items x w h k =
      let a : n < length at = omega (arith, w.at) in
      let b : n < length kind = omega (arith, w.kind) in
      let c : n < length key = omega (arith, w.key) in
      let m : n + 1 - i - 1 ≡ n - i = omega arith in
      let s : range 0 (n + 1 - 0) ≡ range 0 i ++ (i ∷ range (i + 1) (n - i)) =
      ap (range 0) (sub-zero (n + 1))
      ∙ (range_split 0 i (n + 1) (omega arith)
      ∙ ap (λ l. range 0 i ++ l) (ap (λ j. range j (n + 1 - i)) (zero-add i) ∙ (range-more i (n + 1 - i) (omega arith) ∙ ap (λ j. i ∷ range (i + 1) j) m))) in
      ap (map after) s
      ∙ (map-append after (range 0 i) (i ∷ range (i + 1) (n - i))
      ∙ ap₂ (λ p q. p ++ q)
      (map_range after before' 0 0 i (λ d l. let e : 0 + d < i = omega arith in rw (opened-below i n x.at at (0 + d) h a e, opened-below i n x.kind kind (0 + d) h b e, opened-below i n x.key key (0 + d) h c e)))
      (ap₂ (λ y l. y ∷ l)
      (rw (opened-here i n x.at at h a, opened-here i n x.kind kind h b, opened-here i n x.key key h c))
      (map_range after before' (i + 1) i (n - i) (λ d l. rw (opened-above i n x.at at d h a l, opened-above i n x.kind kind d h b l, opened-above i n x.key key d h c l)))))
    where
      before' : ℕ → Item
      before' = item_at at kind key

      after : ℕ → Item
      after = item_at (opened i n x.at at) (opened i n x.kind kind) (opened i n x.key key)

pub place-within : (at kind key : List ℕ) (n : ℕ) (x : Item) → place_for x (items_of at kind key n) ≤ n
place-within at kind key n x = rw (length-items, sub-zero) at (place-most x (items_of at kind key n))

-- an item put at its place among n is the item inserted
pub inserted : (at kind key : List ℕ) (n i : ℕ) (x : Item) → Wide most at kind key → n < most → i ≡ place_for x (items_of at kind key n) → items_of (opened i n x.at at) (opened i n x.kind kind) (opened i n x.key key) (n + 1) ≡ insert x (items_of at kind key n)
unfolding items_from
inserted at kind key n i x w h e =
    let k : i ≤ n = omega (arith, e, place-within at kind key n x) in
    opened-items at kind key i n x w k h ∙ sym same
  where
    all : items_of at kind key n ≡ map (item_at at kind key) (range 0 n)
    all = ap (λ m. map (item_at at kind key) (range 0 m)) (sub-zero n)

    here : spot (item_at at kind key) x 0 n ≡ i
    here = sym (e ∙ ap (place_for x) all)

    same : insert x (items_of at kind key n) ≡ map (item_at at kind key) (range 0 i) ++ (x ∷ map (item_at at kind key) (range i (n - i)))
    same =
        ap (insert x) all
        ∙ (insert_places (item_at at kind key) x 0 n
        ∙ ap₂ (λ p q. map (item_at at kind key) (range 0 p) ++ (x ∷ map (item_at at kind key) (range q (n - p)))) here (zero-add (spot (item_at at kind key) x 0 n) ∙ here))

-- ---- what earlier passes listed

pub list-next : (kind key : List ℕ) (i n : ℕ) → i < n → list_from kind key i n ≡ list_at kind key i ∷ list_from kind key (i + 1) n
unfolding list_from
list-next kind key i n h = rw (range-next i n h)

pub list-end : (kind key : List ℕ) (i n : ℕ) → n ≤ i → list_from kind key i n ≡ []
unfolding list_from
list-end kind key i n h = rw (range-end i n h)

module _ (kind key : List ℕ) (i n : ℕ) (x : Item) where
  pub listed_here : i < n → names (list_at kind key i) x ≡ true → listed_in x (list_from kind key i n) ≡ true
  unfolding listed_in
  listed_here h e = rw (list-next kind key i n h, e)

  pub listed-on : i < n → names (list_at kind key i) x ≡ false → listed_in x (list_from kind key i n) ≡ listed_in x (list_from kind key (i + 1) n)
  unfolding listed_in
  listed-on h e = rw (list-next kind key i n h, e)

  pub listed-end : n ≤ i → listed_in x (list_from kind key i n) ≡ false
  unfolding listed_in list_from
  listed-end h = rw (range-end i n h)

-- a name stored after n is the last of the list
pub noted : (kind key : List ℕ) (n : ℕ) (x : Item) → length kind ≡ most_listed → length key ≡ most_listed → n < most_listed → list_of (set kind n x.kind) (set key n x.key) (n + 1) ≡ list_of kind key n ++ (untimed x ∷ [])
unfolding list_from range
noted kind key n x a b h =
    let p : least (n + 1) most_listed ≡ n + 1 = least-left {a = n + 1} {b = most_listed} (omega arith) in
    let q : least n most_listed ≡ n = least-left {a = n} {b = most_listed} (omega arith) in
    let m : n + 1 - n ≡ 1 = omega arith in
    let s : range 0 (n + 1) ≡ range 0 n ++ (n ∷ []) =
    range_split 0 n (n + 1) (omega arith) ∙ ap₂ (λ j k. range 0 n ++ range j k) (zero-add n) m in
    rw (p, q, sub-zero (n + 1), sub-zero n)
    (ap (map after) s
    ∙ (map-append after (range 0 n) (n ∷ [])
    ∙ ap₂ (λ l y. l ++ (y ∷ []))
    (map_range after (list_at kind key) 0 0 n (λ d l. rw (get_or-set_other kind n (0 + d) x.kind 0 (λ e. omega arith), get_or-set_other key n (0 + d) x.key 0 (λ e. omega arith))))
    (rw (get_or-set_same kind n x.kind 0 (omega arith), get_or-set_same key n x.key 0 (omega arith)))))
  where
    after : ℕ → Item
    after = list_at (set kind n x.kind) (set key n x.key)

-- the instants of items do not matter to their names
pub untimed-items : (at kind key : List ℕ) (i n : ℕ) → map untimed (items_from at kind key i n) ≡ list_from kind key i n
unfolding items_from list_from
untimed-items at kind key i n = under (range i (n - i))
  where
    under : (l : List ℕ) → map untimed (map (item_at at kind key) l) ≡ map (list_at kind key) l
    under [] = refl
    under (j ∷ l) = ap (λ r. list_at kind key j ∷ r) (under l)

-- ---- the names of a pass's items

module _ (pk px : List ℕ) (m : ℕ) (all : List Item) (i : ℕ) (kind key : List ℕ) (n : ℕ) where
  -- one more is put after those listed
  pub note-turn :
      {kind' key' : List ℕ} {r : ℕ} → all ≡ list_of kind key n ++ list_from pk px i m → i < m → n < most_listed
      → Noted kind key n (item 0 (get_or pk i 0) (get_or px i 0)) kind' key' r → all ≡ list_of kind' key' r ++ list_from pk px (i + 1) m
  note-turn {kind'} {key'} {r} e h b o =
      let l : list_of kind' key' r ≡ list_of kind key n ++ (list_at pk px i ∷ []) =
      o.list ∙ ap (λ q. pick q (list_of kind key n ++ (list_at pk px i ∷ [])) (list_of kind key n)) (lt-ltb n most_listed b) in
      e
      ∙ (ap (λ q. list_of kind key n ++ q) (list-next pk px i m h)
      ∙ (sym (append_snoc (list_of kind key n) (list_at pk px i) (list_from pk px (i + 1) m))
      ∙ ap (λ q. q ++ list_from pk px (i + 1) m) (sym l)))

pub note_count : {kind key kind' key' : List ℕ} {n r : ℕ} {x : Item} → n < most_listed → Noted kind key n x kind' key' r → r ≡ n + 1
note_count {n = n} b o = o.count ∙ ap (λ q. pick q (n + 1) n) (lt-ltb n most_listed b)

-- nothing is listed where the number is 0
pub none-noted : least 0 most_listed ≤ 0
unfolding least
none-noted = omega arith
