-- Laws of the events, of a log and what is read back from it, and of prompts withdrawn.
use Rattle.std.specs.Prelude.{ℕ, ◌+◌, ◌-◌, ◌*◌, zero, suc, ◌≤◌, ◌<◌, Bool, true, false, List, [], ◌∷◌, ◌++◌, map, ◌≡◌, refl, eqb, ltb, leb, min, length, get_or, set, take, drop}
use Rattle.std.proofs.Common.{append_assoc, append-nil, sym, ◌∙◌, length-set, get_or-set_same, get_or-set_other, arith, add-one, zero-add, add-zero, lt-ltb, leb-true, leb-false}
use Rattle.std.proofs.lemmas.List.{map-append}
use Rattle.std.proofs.Math.Path.{ap}
use Rattle.time.specs.Pick.{pick}
use Rattle.time.specs.declared.When.{When}
use Rattle.numbers.specs.Numbers.{bit, event_send, event_prompt, event_deliver, event_bind, event_unbind, event_delegate, event_revoke, event_release, event_installed, event_retired, event_reverted, event_peer_restarted, event_rekeyed, event_reject, event_abandoned, event_teardown, event_mark, event_start}
use Rattle.events.specs.Events.{Abandoned, Bind, Delegate, Deliver, Ended, Event, Installed, Mark, PeerRestarted, Prompt, Reject, Rekeyed, Release, Retired, Reverted, Revoke, Send, Start, Teardown, Unbind, words_of}
use Rattle.std.proofs.lemmas.List.Edits.{sets, sets-eq, paste_all}
use Rattle.std.proofs.lemmas.Slice.{put_mid-paste}
use borrow.Rule.Slice.PartMut.{put_mid}
use Rattle.std.proofs.Math.Seq.{length-sets}
use Rattle.time.specs.Time.{least, none}
use Rattle.time.specs.Laws.{least-left, least-le}
use Rattle.time.specs.Lists.{range, range-next, range-end, fold}
use Rattle.events.specs.Log.{Log, at, logged, pushed, stored, place_of, taken_of, places_of, held}
use Rattle.std.proofs.Math.Nat.{sub-zero}
use Rattle.events.specs.Queries.{any_from, any_of, offered_in, offers, word_of, words_offer}
use Rattle.events.specs.Withdraw.{given, sealable, sifted, sifting, stays, withdrawn, words_stay}

pub eight-words : (e : Event) → length (words_of e) ≡ 8
eight-words (Send msg kind rungs) = refl
eight-words (Prompt tag rungs) = refl
eight-words (Deliver slot tag start end) = refl
eight-words (Bind transport index tag purpose) = refl
eight-words (Unbind transport index) = refl
eight-words (Delegate tag transport index session floor) = refl
eight-words (Revoke tag transport index) = refl
eight-words (Release index) = refl
eight-words (Installed tag responder evidence) = refl
eight-words (Retired tag) = refl
eight-words (Reverted tag) = refl
eight-words (PeerRestarted epoch) = refl
eight-words (Rekeyed responder) = refl
eight-words (Reject reason) = refl
eight-words (Abandoned cause) = refl
eight-words (Teardown why) = refl
eight-words (Mark tag counter) = refl
eight-words (Start kind) = refl
eight-words (Ended tag) = refl

abbrev when_of : ℕ → ℕ → When
when_of some n = record { some = eqb some 1; at = n }

-- the event that eight words tell of: the first that its number names
abbrev event_of : List ℕ → Event
event_of [] = Ended 0
event_of (n ∷ w) =
    pick (eqb n event_send) (Send (get_or w 0 0) (get_or w 1 0) (get_or w 2 0))
    (pick (eqb n event_prompt) (Prompt (get_or w 0 0) (get_or w 1 0))
    (pick (eqb n event_deliver) (Deliver (get_or w 0 0) (get_or w 1 0) (get_or w 2 0) (get_or w 3 0))
    (pick (eqb n event_bind) (Bind (get_or w 0 0) (get_or w 1 0) (when_of (get_or w 2 0) (get_or w 3 0)) (get_or w 4 0))
    (pick (eqb n event_unbind) (Unbind (get_or w 0 0) (get_or w 1 0))
    (pick (eqb n event_delegate) (Delegate (get_or w 0 0) (get_or w 1 0) (get_or w 2 0) (get_or w 3 0) (when_of (get_or w 4 0) (get_or w 5 0)))
    (pick (eqb n event_revoke) (Revoke (get_or w 0 0) (get_or w 1 0) (get_or w 2 0))
    (pick (eqb n event_release) (Release (get_or w 0 0))
    (pick (eqb n event_installed) (Installed (get_or w 0 0) (eqb (get_or w 1 0) 1) (get_or w 2 0))
    (pick (eqb n event_retired) (Retired (get_or w 0 0))
    (pick (eqb n event_reverted) (Reverted (get_or w 0 0))
    (pick (eqb n event_peer_restarted) (PeerRestarted (get_or w 0 0))
    (pick (eqb n event_rekeyed) (Rekeyed (eqb (get_or w 0 0) 1))
    (pick (eqb n event_reject) (Reject (get_or w 0 0))
    (pick (eqb n event_abandoned) (Abandoned (get_or w 0 0))
    (pick (eqb n event_teardown) (Teardown (get_or w 0 0))
    (pick (eqb n event_mark) (Mark (get_or w 0 0) (get_or w 1 0))
    (pick (eqb n event_start) (Start (get_or w 0 0))
    (Ended (get_or w 0 0)))))))))))))))))))

flagged : (b : Bool) → eqb (bit b) 1 ≡ b
flagged false = refl
flagged true = refl

told : (e : Event) → event_of (words_of e) ≡ e
told (Send msg kind rungs) = refl
told (Prompt tag rungs) = refl
told (Deliver slot tag start end) = refl
told (Bind transport index tag purpose) = ap (λ (b : Bool). Bind transport index (record { some = b; at = tag.at }) purpose) (flagged tag.some)
told (Unbind transport index) = refl
told (Delegate tag transport index session floor) = ap (λ (b : Bool). Delegate tag transport index session (record { some = b; at = floor.at })) (flagged floor.some)
told (Revoke tag transport index) = refl
told (Release index) = refl
told (Installed tag responder evidence) = ap (λ (b : Bool). Installed tag b evidence) (flagged responder)
told (Retired tag) = refl
told (Reverted tag) = refl
told (PeerRestarted epoch) = refl
told (Rekeyed responder) = ap Rekeyed (flagged responder)
told (Reject reason) = refl
told (Abandoned cause) = refl
told (Teardown why) = refl
told (Mark tag counter) = refl
told (Start kind) = refl
told (Ended tag) = refl

-- two events with the same words are the same
pub words_injective : (e f : Event) → words_of e ≡ words_of f → e ≡ f
words_injective e f p = sym (told e) ∙ (ap event_of p ∙ told f)

pub at_len : (n : ℕ) (ws : List ℕ) → (at n ws).len ≡ n
unfolding at
at_len n ws = refl

pub at_words : (n : ℕ) (ws : List ℕ) → (at n ws).words ≡ ws
unfolding at
at_words n ws = refl

pub logged-append : (v : Log) (a b : List Event) → logged v (a ++ b) ≡ logged (logged v a) b
logged-append v [] b = refl
logged-append v (e ∷ a) b = logged-append (pushed v e) a b

-- one event after what was known
pub after : {l m n : Log} (e : Event) → m ≡ l → n ≡ pushed m e → n ≡ pushed l e
after e p q = q ∙ ap (λ v. pushed v e) p

-- a list of events after what was known
pub after-all : {m n : Log} (l : Log) (a b : List Event) → m ≡ logged l a → n ≡ logged m b → n ≡ logged l (a ++ b)
after-all l a b p q = q ∙ (ap (λ v. logged v b) p ∙ sym (logged-append l a b))

-- ---- words put in from i on

before : (vs l : List ℕ) (i j : ℕ) → j < i → get_or (sets l i vs) j 0 ≡ get_or l j 0
before [] l i j h = refl
before (a ∷ vs) l i j h = before vs (set l i a) (suc i) j (omega arith) ∙ get_or-set_other l i j a 0 (λ e. omega arith)

behind : (vs l : List ℕ) (i j : ℕ) → i + length vs ≤ j → get_or (sets l i vs) j 0 ≡ get_or l j 0
behind [] l i j h = refl
behind (a ∷ vs) l i j h = behind vs (set l i a) (suc i) j (omega arith) ∙ get_or-set_other l i j a 0 (λ e. omega arith)

within : (vs l : List ℕ) (i k : ℕ) → k < length vs → i + length vs ≤ length l → get_or (sets l i vs) (i + k) 0 ≡ get_or vs k 0
within [] l i k h r = absurd (omega arith)
within (a ∷ vs) l i zero h r =
    let e : i + 0 ≡ i = omega arith in
    rw e (before vs (set l i a) (suc i) i (omega arith) ∙ get_or-set_same l i a 0 (omega arith))
within (a ∷ vs) l i (suc k) h r =
    let e : i + suc k ≡ suc i + k = omega arith in
    rw e (within vs (set l i a) (suc i) k (omega arith) (rw (length-set l i a) (omega arith)))

-- ---- places

eight : (w : List ℕ) → length w ≡ 8 → get_or w 0 0 ∷ get_or w 1 0 ∷ get_or w 2 0 ∷ get_or w 3 0 ∷ get_or w 4 0 ∷ get_or w 5 0 ∷ get_or w 6 0 ∷ get_or w 7 0 ∷ [] ≡ w
eight [] h = absurd (omega arith)
eight (a ∷ []) h = absurd (omega arith)
eight (a ∷ b ∷ []) h = absurd (omega arith)
eight (a ∷ b ∷ c ∷ []) h = absurd (omega arith)
eight (a ∷ b ∷ c ∷ d ∷ []) h = absurd (omega arith)
eight (a ∷ b ∷ c ∷ d ∷ e ∷ []) h = absurd (omega arith)
eight (a ∷ b ∷ c ∷ d ∷ e ∷ f ∷ []) h = absurd (omega arith)
eight (a ∷ b ∷ c ∷ d ∷ e ∷ f ∷ g ∷ []) h = absurd (omega arith)
eight (a ∷ b ∷ c ∷ d ∷ e ∷ f ∷ g ∷ k ∷ []) h = refl
eight (a ∷ b ∷ c ∷ d ∷ e ∷ f ∷ g ∷ k ∷ l ∷ m) h = absurd (omega arith)

module _ (ws w : List ℕ) (i : ℕ) (long : length w ≡ 8) where
  -- the eight words just put in are there
  placed : i * 8 + 8 ≤ length ws → place_of (sets ws (i * 8) w) i ≡ w
  placed r =
      let e : i * 8 ≡ i * 8 + 0 = omega arith in
      let word : (k : ℕ) → k < 8 → get_or (sets ws (i * 8) w) (i * 8 + k) 0 ≡ get_or w k 0 = λ k h. within w ws (i * 8) k (omega arith) (omega arith) in
      rw (ap (λ (n : ℕ). get_or (sets ws (i * 8) w) n 0) e ∙ word 0 (omega arith), word 1 (omega arith), word 2 (omega arith), word 3 (omega arith), word 4 (omega arith), word 5 (omega arith), word 6 (omega arith), word 7 (omega arith))
      (eight w long)

  -- every other place stays
  stays-before : (j : ℕ) → j < i → place_of (sets ws (i * 8) w) j ≡ place_of ws j
  stays-before j h =
      let word : (k : ℕ) → k < i * 8 → get_or (sets ws (i * 8) w) k 0 ≡ get_or ws k 0 = λ k p. before w ws (i * 8) k p in
      rw (word (j * 8) (omega arith), word (j * 8 + 1) (omega arith), word (j * 8 + 2) (omega arith), word (j * 8 + 3) (omega arith), word (j * 8 + 4) (omega arith), word (j * 8 + 5) (omega arith), word (j * 8 + 6) (omega arith), word (j * 8 + 7) (omega arith))

  stays-behind : (j : ℕ) → i < j → place_of (sets ws (i * 8) w) j ≡ place_of ws j
  stays-behind j h =
      let word : (k : ℕ) → i * 8 + 8 ≤ k → get_or (sets ws (i * 8) w) k 0 ≡ get_or ws k 0 = λ k p. behind w ws (i * 8) k (omega arith) in
      rw (word (j * 8) (omega arith), word (j * 8 + 1) (omega arith), word (j * 8 + 2) (omega arith), word (j * 8 + 3) (omega arith), word (j * 8 + 4) (omega arith), word (j * 8 + 5) (omega arith), word (j * 8 + 6) (omega arith), word (j * 8 + 7) (omega arith))

pub same-on : (f g : ℕ → List ℕ) (i n : ℕ) → ((j : ℕ) → i ≤ j → j < i + n → f j ≡ g j) → map f (range i n) ≡ map g (range i n)
unfolding range
same-on f g i zero h = refl
same-on f g i (suc n) h = rw (h i (omega arith) (omega arith), same-on f g (i + 1) n (λ j p q. h j (omega arith) (omega arith)))

range_last : (i n : ℕ) → range i (suc n) ≡ range i n ++ ((i + n) ∷ [])
unfolding range
range_last i zero = let e : i + 0 ≡ i = omega arith in rw e
range_last i (suc n) =
    let e : i + suc n ≡ i + 1 + n = omega arith in
    rw e (ap (λ (l : List ℕ). i ∷ l) (range_last (i + 1) n))

-- ---- one event

module _ (v : Log) (w : List ℕ) (room : v.len < 96) where
  pub stored_at : stored v w ≡ at (v.len + 1) (sets v.words (v.len * 8) w)
  unfolding stored
  stored_at = rw (lt-ltb _ _ room)

  pub stored-len : (stored v w).len ≡ v.len + 1
  unfolding at
  stored-len = ap (λ (l : Log). l.len) stored_at

  pub stored-words : (stored v w).words ≡ sets v.words (v.len * 8) w
  unfolding at
  stored-words = ap (λ (l : Log). l.words) stored_at

pub stored-long : (v : Log) (w : List ℕ) → length (stored v w).words ≡ length v.words
unfolding stored at
stored-long v w = under (ltb v.len 96)
  where
    under : (t : Bool) → length (pick t (at (v.len + 1) (sets v.words (v.len * 8) w)) v).words ≡ length v.words
    under true = length-sets v.words (v.len * 8) w
    under false = refl

-- a place other than the next one stays
pub stored-before : (v : Log) (w : List ℕ) (j : ℕ) → length w ≡ 8 → j < v.len → place_of (stored v w).words j ≡ place_of v.words j
unfolding stored at
stored-before v w j long h = under (ltb v.len 96)
  where
    under : (t : Bool) → place_of (pick t (at (v.len + 1) (sets v.words (v.len * 8) w)) v).words j ≡ place_of v.words j
    under true = stays-before v.words w v.len long j h
    under false = refl

pub stored-behind : (v : Log) (w : List ℕ) (j : ℕ) → length w ≡ 8 → v.len < j → place_of (stored v w).words j ≡ place_of v.words j
unfolding stored at
stored-behind v w j long h = under (ltb v.len 96)
  where
    under : (t : Bool) → place_of (pick t (at (v.len + 1) (sets v.words (v.len * 8) w)) v).words j ≡ place_of v.words j
    under true = stays-behind v.words w v.len long j h
    under false = refl

pub grows : (v : Log) (w : List ℕ) (j : ℕ) → j < v.len → j < (stored v w).len
unfolding stored at
grows v w j h = under (ltb v.len 96)
  where
    under : (t : Bool) → j < (pick t (at (v.len + 1) (sets v.words (v.len * 8) w)) v).len
    under true = omega arith
    under false = h

-- a copy of eight words to the next place puts them in
pub copied : (len : ℕ) (ws w w' : List ℕ) → len < 96 → length ws ≡ 768 → length w ≡ 8 → w' ≡ w → at (len + 1) (put_mid (len * 8) (len * 8 + 8 - len * 8) ws w') ≡ stored (at len ws) w
unfolding at
copied len ws w w' h k long e =
    let n : 8 ≡ len * 8 + 8 - len * 8 = omega arith in
    let r : put_mid (len * 8) (len * 8 + 8 - len * 8) ws w' ≡ sets ws (len * 8) w =
    put_mid-paste (len * 8) (len * 8 + 8 - len * 8) ws w' w (length w) e (long ∙ n) refl
    ∙ (paste_all ws (len * 8) w (length w) refl ∙ sym (sets-eq w ws (len * 8) (omega arith) ∙ append_assoc (take (len * 8) ws) w (drop (len * 8 + length w) ws))) in
    ap (at (len + 1)) r ∙ sym (stored_at (at len ws) w h)

-- ---- what is read back

-- a length that is no more than there are places counts as itself
pub held-taken : (v : Log) → v.len ≤ 96 → held v ≡ map (place_of v.words) (range 0 v.len)
unfolding held places_of taken_of
held-taken v h = rw (least-left h, sub-zero)

-- the code takes the lesser of the two
pub taken-min : (n : ℕ) → min n 96 ≡ taken_of n
unfolding taken_of least
taken-min n = under (leb n 96) refl
  where
    under : (t : Bool) → leb n 96 ≡ t → min n 96 ≡ pick t n 96
    under true e = let h : n ≤ 96 = leb-true n 96 e in omega arith
    under false e = let h : 96 < n = leb-false n 96 e in omega arith

pub taken-most : (n : ℕ) → taken_of n ≤ 96
unfolding taken_of
taken-most n = (least-le n 96).1

pub held-empty : (ws : List ℕ) → held (at 0 ws) ≡ []
unfolding at range
held-empty ws = held-taken (at 0 ws) (omega arith)

pub held-stored : (v : Log) (w : List ℕ) → v.len < 96 → length v.words ≡ 768 → length w ≡ 8 → held (stored v w) ≡ held v ++ (w ∷ [])
held-stored v w h k long =
    let first : map (place_of (stored v w).words) (range 0 v.len) ≡ held v = same-on (place_of (stored v w).words) (place_of v.words) 0 v.len (λ j p q. stored-before v w j long (omega arith)) ∙ sym (held-taken v (omega arith)) in
    let last : place_of (stored v w).words v.len ≡ w = rw (stored-words v w h) (placed v.words w v.len long (omega arith)) in
    held-taken (stored v w) (rw (stored-len v w h) (omega arith))
    ∙ rw (stored-len v w h, add-one, range_last 0 v.len, map-append, first, zero-add) (ap (λ (l : List ℕ). held v ++ (l ∷ [])) last)

-- ---- a list of events

-- while there is room, the length grows by the number of events
pub logged-len : (v : Log) (es : List Event) → v.len + length es ≤ 96 → (logged v es).len ≡ v.len + length es
unfolding pushed
logged-len v [] h = omega arith
logged-len v (e ∷ es) h =
    let s : (stored v (words_of e)).len ≡ v.len + 1 = stored-len v (words_of e) (omega arith) in
    logged-len (stored v (words_of e)) es (omega arith) ∙ omega arith

-- the places below the length stay
pub logged-kept : (v : Log) (es : List Event) (j : ℕ) → j < v.len → place_of (logged v es).words j ≡ place_of v.words j
unfolding pushed
logged-kept v [] j h = refl
logged-kept v (e ∷ es) j h = logged-kept (stored v (words_of e)) es j (grows v (words_of e) j h) ∙ stored-before v (words_of e) j (eight-words e) h

-- while there is room, what is read back is what was there and then the words of each event in order
pub held-logged : (v : Log) (es : List Event) → v.len + length es ≤ 96 → length v.words ≡ 768 → held (logged v es) ≡ held v ++ map words_of es
unfolding pushed
held-logged v [] h k = sym (append-nil (held v))
held-logged v (e ∷ es) h k =
    let s : (stored v (words_of e)).len ≡ v.len + 1 = stored-len v (words_of e) (omega arith) in
    held-logged (stored v (words_of e)) es (omega arith) (stored-long v (words_of e) ∙ k)
    ∙ rw (held-stored v (words_of e) (omega arith) k (eight-words e), append_assoc)

-- an answer of at most 96 events: its length, and what is read back
pub answer-len : (ws : List ℕ) (es : List Event) → length es ≤ 96 → (logged (at 0 ws) es).len ≡ length es
unfolding at
answer-len ws es h = logged-len (at 0 ws) es (omega arith) ∙ zero-add (length es)

pub held-answer : (ws : List ℕ) (es : List Event) → length es ≤ 96 → length ws ≡ 768 → held (logged (at 0 ws) es) ≡ map words_of es
unfolding at
held-answer ws es h k = held-logged (at 0 ws) es (omega arith) k ∙ rw (held-empty ws)

pub offers_delegate : (tag t transport index session : ℕ) (floor : When) → offers tag (Delegate t transport index session floor) ≡ eqb t tag
offers_delegate tag t transport index session floor = refl

nth : (f : ℕ → List ℕ) (i n k : ℕ) → k < n → get_or (map f (range i n)) k [] ≡ f (i + k)
unfolding range
nth f i zero k h = absurd (omega arith)
nth f i (suc n) zero h = rw add-zero
nth f i (suc n) (suc k) h =
    let e : i + suc k ≡ i + 1 + k = omega arith in
    rw e (nth f (i + 1) n k (omega arith))

nth-word : (ws : List ℕ) (i k : ℕ) → k < 8 → get_or (place_of ws i) k 0 ≡ get_or ws (i * 8 + k) 0
nth-word ws i zero h = rw add-zero
nth-word ws i (suc zero) h = refl
nth-word ws i (suc (suc zero)) h = refl
nth-word ws i (suc (suc (suc zero))) h = refl
nth-word ws i (suc (suc (suc (suc zero)))) h = refl
nth-word ws i (suc (suc (suc (suc (suc zero))))) h = refl
nth-word ws i (suc (suc (suc (suc (suc (suc zero)))))) h = refl
nth-word ws i (suc (suc (suc (suc (suc (suc (suc zero))))))) h = refl
nth-word ws i (suc (suc (suc (suc (suc (suc (suc (suc k)))))))) h = absurd (omega arith)

-- a word that is read is one of what is held
pub word_held : (v : Log) (i k : ℕ) → i < taken_of v.len → k < 8 → word_of v.words i k ≡ get_or (get_or (held v) i []) k 0
unfolding word_of held places_of
word_held v i k h l =
    let m : i < 96 = omega (arith, taken-most v.len) in
    let q : get_or (map (place_of v.words) (range 0 (taken_of v.len))) i [] ≡ place_of v.words i = nth (place_of v.words) 0 (taken_of v.len) i h ∙ ap (place_of v.words) (zero-add i) in
    rw (lt-ltb i 96 m, lt-ltb k 8 l, sub-zero, q) (sym (nth-word v.words i k l))

-- a test on the words of events is one on the events
pub any-words : (p : List ℕ → Bool) (es : List Event) → any_of p (map words_of es) ≡ any_of (λ e. p (words_of e)) es
unfolding any_of
any-words p [] = refl
any-words p (e ∷ es) = rw (any-words p es)

-- an answer offers an epoch where one of its events does
pub offered-answer : (ws : List ℕ) (es : List Event) (tag : ℕ) → length es ≤ 96 → length ws ≡ 768 → offered_in (logged (at 0 ws) es) tag ≡ any_of (offers tag) es
unfolding offered_in
offered-answer ws es tag h k = rw (held-answer ws es h k, any-words (words_offer tag) es)

module _ (p : List ℕ → Bool) (ws : List ℕ) (n i : ℕ) where
  pub any_found : (w : List ℕ) → w ≡ place_of ws i → i < n → p w ≡ true → any_from p ws n i ≡ true
  unfolding any_from any_of places_of
  any_found w e h t = rw (range-next i n h, ← e, t)

  pub any_next : (w : List ℕ) → w ≡ place_of ws i → i < n → p w ≡ false → any_from p ws n i ≡ any_from p ws n (i + 1)
  unfolding any_from any_of places_of
  any_next w e h t = rw (range-next i n h, ← e, t)

  pub any-end : n ≤ i → any_from p ws n i ≡ false
  unfolding any_from any_of places_of
  any-end h = rw (range-end i n h)

pub any-all : (ws : List ℕ) (len tag n : ℕ) → n ≡ taken_of len → any_from (words_offer tag) ws n 0 ≡ offered_in (at len ws) tag
unfolding any_from offered_in held at
any-all ws len tag n e = rw e

pub stays-prompt : (cur pend : When) (tag rungs : ℕ) → stays cur pend (Prompt tag rungs) ≡ sealable cur pend tag
unfolding words_stay
stays-prompt cur pend tag rungs = refl

module _ (p : List ℕ → Bool) (ws w : List ℕ) (next i : ℕ) (e : w ≡ place_of ws i) where
  pub sifted-moves : (n : ℕ) (ws' : List ℕ) → p w ≡ true → at n ws' ≡ stored (at next ws) w → at n ws' ≡ sifted p (at next ws) i
  unfolding sifted at
  sifted-moves n ws' t q = q ∙ rw (← e, t)

  pub sifted_drops : p w ≡ false → at next ws ≡ sifted p (at next ws) i
  unfolding sifted at
  sifted_drops t = rw (← e, t)

module _ (p : List ℕ → Bool) (n i : ℕ) (v : Log) where
  pub sifting-next : i < n → sifting p n i v ≡ sifting p n (i + 1) (sifted p v i)
  unfolding sifting fold
  sifting-next h = rw (range-next i n h)

  pub sifting-end : n ≤ i → sifting p n i v ≡ v
  unfolding sifting fold
  sifting-end h = rw (range-end i n h)

pub sifting-all : (cur pend : When) (len n : ℕ) (ws : List ℕ) → n ≡ taken_of len → sifting (words_stay cur pend) n 0 (at 0 ws) ≡ withdrawn cur pend (at len ws)
unfolding sifting withdrawn at
sifting-all cur pend len n ws e = rw (sub-zero, e)

-- what stands behind an absent tag is not asked
pub withdrawn-given : (a b : Bool) (x y : ℕ) (v : Log) → withdrawn (given a x) (given b y) v ≡ withdrawn (pick a (given a x) none) (pick b (given b y) none) v
unfolding withdrawn sifted words_stay sealable
withdrawn-given true true x y v = refl
withdrawn-given true false x y v = refl
withdrawn-given false true x y v = refl
withdrawn-given false false x y v = refl
