-- What the wake clause of the third demand wants of a state: where the wake is absent or later than now, a poll has nothing to do.
use Rattle.std.specs.Prelude.{ℕ, ◌≤◌, Bool, not, ◌&&◌, ◌||◌, ◌≡◌, ◌⊎◌, ltb, eqb}
use Rattle.std.proofs.Math.Bool.{true, false, and-false}
use Rattle.std.proofs.lemmas.Bool.{false≢true}
use Rattle.std.proofs.Math.Path.{refl, ap}
use Rattle.std.proofs.Common.{sym, ◌∙◌, ap₂, inl, inr, arith}
use mathlib.Core.List.Memᴰ
use mathlib.Core.List.{List, [], ◌∷◌, ◌++◌, map-map, Memᴰ}
use borrow.Author.Tests.{le-leb, ltb-true, ne_eqb}
use Rattle.std.proofs.Math.Dec.{leb}
use Rattle.time.specs.Pick.{pick}
use Rattle.time.specs.Lists.{kept, fold}
use Rattle.time.specs.Time.{reached_of}
use Rattle.settings.specs.declared.Config.{Config}
use Rattle.numbers.specs.Numbers.{item_drain, item_candidate, item_unadopted, item_held, item_probe, item_delayed, item_fin, item_elicit, item_confirm, item_delay_end, item_resend, item_expire}
use Rattle.epoch.specs.declared.Final.{Final}
use Rattle.epoch.specs.declared.MayLadder.{MayLadder}
use Rattle.epoch.specs.declared.MayEpoch.{MayEpoch}
use Rattle.cycle.specs.declared.Cycle.{Cycle}
use Rattle.cycle.specs.declared.PendI.{PendI}
use Rattle.cycle.specs.Kind.{is_init, is_pend_i, is_pend_r, is_idle, waits_held, waits_evidence}
use Rattle.candidates.specs.Held.{held_by, firsts, earliest_of}
use Rattle.candidates.proofs.Laws.{deadlines_held}
use Rattle.state.specs.Parts.{listed, pending_of, epochs_of}
use Rattle.state.specs.declared.State.{State}
use Rattle.state.specs.declared.Profile.{Profile}
use Rattle.start.specs.Start.{instants, start_at, called_for}
use Rattle.start.specs.Laws.{Begun}
use Rattle.start.proofs.Laws.{called-by}
use Rattle.items.specs.Items.{Item, item}
use Rattle.wake.specs.Due.{ladder_instants, may_instants, fin_instants, elicit_instants, items_at, drain_items, candidate_items, pending_items, cycle_items, current_items, named, is_due, due_items, some_in, any_due, pending_due, cycle_due, current_instants, standing, due_instants}
use Rattle.wake.specs.Wake.{exhausted, cycle_instants, stored_instants, wake_instants, wake_of}
use Rattle.wake.specs.Quiet.{opening_idle, teardown_stands, offer_owed, quiet_of, held_something, Led}
use Rattle.wake.proofs.Earliest.{earliest_one, reached-append, reached-cons}
use Rattle.wake.specs.Laws.{instants_of}

pub instants-at : (kind key : ℕ) (ts : List ℕ) → instants_of (items_at kind key ts) ≡ ts
instants-at kind key [] = refl
instants-at kind key (t ∷ ts) = ap (λ l. t ∷ l) (instants-at kind key ts)

pub instants-append : (l k : List Item) → instants_of (l ++ k) ≡ instants_of l ++ instants_of k
instants-append [] k = refl
instants-append (i ∷ l) k = ap (λ m. i.at ∷ m) (instants-append l k)

-- an item is due where the least of the instants is reached
pub some-due : (now : ℕ) (l : List Item) → some_in (kept (is_due now) l) ≡ reached_of (earliest_of (instants_of l)) now
unfolding kept
some-due now [] = unfold earliest_of fold in refl
some-due now (i ∷ l) = under (leb i.at now) (some-due now l) ∙ sym (reached-cons i.at (instants_of l) now)
  where
    under : (q : Bool) → some_in (kept (is_due now) l) ≡ reached_of (earliest_of (instants_of l)) now → some_in (pick q (i ∷ kept (is_due now) l) (kept (is_due now) l)) ≡ (q || reached_of (earliest_of (instants_of l)) now)
    under true e = refl
    under false e = e

-- ---- the instants that `due` names

-- items of two kinds, one after the other
two_kinds : (k a j b : ℕ) (ts us : List ℕ) → instants_of (items_at k a ts ++ items_at j b us) ≡ ts ++ us
two_kinds k a j b ts us = instants-append (items_at k a ts) (items_at j b us) ∙ ap₂ ◌++◌ (instants-at k a ts) (instants-at j b us)

instants-pending : (p : PendI) → instants_of (pending_items p) ≡ pending_due p.wait p.deadline p.probes p.fin
unfolding pending_items pending_due
instants-pending p = under (waits_held p.wait) (waits_evidence p.wait)
  where
    tag : ℕ
    tag = p.ep.tag

    ends : List ℕ
    ends = p.deadline ∷ []

    under :
        (h e : Bool)
        → instants_of (pick h (items_at item_held tag ends) (pick e (items_at item_probe tag (may_instants p.probes) ++ items_at item_confirm tag ends) (items_at item_delayed tag (fin_instants p.fin) ++ items_at item_delay_end tag ends)))
        ≡ pick h ends (pick e (may_instants p.probes ++ ends) (fin_instants p.fin ++ ends))
    under true e = refl
    under false true = two_kinds item_probe tag item_confirm tag (may_instants p.probes) ends
    under false false = two_kinds item_delayed tag item_delay_end tag (fin_instants p.fin) ends

instants-cycle : (c : Cycle) → instants_of (cycle_items c) ≡ cycle_due c
unfolding cycle_items cycle_due
instants-cycle c = under (is_init c.kind) (is_pend_i c.kind) (is_pend_r c.kind)
  where
    first : List ℕ
    first = ladder_instants c.init.ladder

    ends : List ℕ
    ends = c.init.deadline ∷ []

    under :
        (i p r : Bool)
        → instants_of (pick i (items_at item_resend 0 first ++ items_at item_expire 0 ends) (pick p (pending_items c.pendi) (pick r (items_at item_unadopted c.pendr.ep.tag (c.pendr.deadline ∷ [])) [])))
        ≡ pick i (first ++ ends) (pick p (pending_due c.pendi.wait c.pendi.deadline c.pendi.probes c.pendi.fin) (pick r (c.pendr.deadline ∷ []) []))
    under true p r = two_kinds item_resend 0 item_expire 0 first ends
    under false true r = instants-pending c.pendi
    under false false true = refl
    under false false false = refl

instants-candidates : (s : State) → instants_of (candidate_items s) ≡ firsts s.cands.len s.cands.deadline
unfolding candidate_items
instants-candidates s = map-map (λ i. i.at) (λ c. item c.deadline item_candidate c.seq) (held_by s.cands) ∙ deadlines_held s.cands

instants-current : (e : MayEpoch) → instants_of (current_items e) ≡ current_instants e
unfolding current_items current_instants
instants-current e = under e.some
  where
    fin : List ℕ
    fin = fin_instants e.ep.fin

    elicit : List ℕ
    elicit = elicit_instants e.ep.moved.some e.ep.elicit

    under : (q : Bool) → instants_of (pick q (items_at item_fin e.ep.tag fin ++ items_at item_elicit e.ep.tag elicit) []) ≡ pick q (fin ++ elicit) []
    under true = two_kinds item_fin e.ep.tag item_elicit e.ep.tag fin elicit
    under false = refl

pub instants-named : (s : State) → instants_of (named s) ≡ due_instants s
unfolding named standing due_instants drain_items
instants-named s =
    instants-append (drain_items s) (candidate_items s ++ (cycle_items s.cycle ++ current_items s.cur))
    ∙ ap₂ ◌++◌ (instants-at item_drain s.drain.ep.tag (listed s.drain.some s.drain.deadline))
    (instants-append (candidate_items s) (cycle_items s.cycle ++ current_items s.cur)
    ∙ ap₂ ◌++◌ (instants-candidates s)
    (instants-append (cycle_items s.cycle) (current_items s.cur)
    ∙ ap₂ ◌++◌ (instants-cycle s.cycle) (instants-current s.cur)))

-- an item is due where the least of these is reached
pub due-reached : (s : State) (now : ℕ) → any_due s now ≡ reached_of (earliest_of (due_instants s)) now
unfolding any_due due_items
due-reached s now = some-due now (named s) ∙ ap (λ l. reached_of (earliest_of l) now) (instants-named s)

-- ---- the wake is not after any of them

or_left : (a b : Bool) → a ≡ true → (a || b) ≡ true
or_left true b e = refl
or_left false b e = absurd (false≢true e)

or_right : (a b : Bool) → b ≡ true → (a || b) ≡ true
or_right true b e = refl
or_right false b e = e

either : (d m f : Bool) → (m || d) ≡ true → (d || (m || f)) ≡ true
either true m f e = refl
either false true f e = refl
either false false f e = absurd (false≢true e)

other : (d m f : Bool) → (f || d) ≡ true → (d || (m || f)) ≡ true
other true m f e = refl
other false m true e = or_right m true refl
other false m false e = absurd (false≢true e)

-- one of four tests, where the third may be weaker
one_of : (d c y z u : Bool) → (y ≡ true → z ≡ true) → (d || (c || (y || u))) ≡ true → (d || (c || (z || u))) ≡ true
one_of true c y z u h e = refl
one_of false true y z u h e = refl
one_of false false true z u h e = or_left z u (h refl)
one_of false false false z u h e = or_right z u e

module _ (now : ℕ) where
  -- the least of a list is reached
  abbrev due : List ℕ → Bool
  due l = reached_of (earliest_of l) now

  due-one : (t : ℕ) → due (t ∷ []) ≡ leb t now
  due-one t = ap (λ w. reached_of w now) (earliest_one t)

  due_with : (l : List ℕ) (t : ℕ) → due (l ++ t ∷ []) ≡ (due l || leb t now)
  due_with l t = reached-append l (t ∷ []) now ∙ ap (λ b. due l || b) (due-one t)

  -- whatever the wait
  pending-wakes : (wait deadline : ℕ) (probes : MayLadder) (fin : Final) → due (pending_due wait deadline probes fin) ≡ true → due (deadline ∷ (may_instants probes ++ fin_instants fin)) ≡ true
  unfolding pending_due
  pending-wakes wait deadline probes fin h =
      reached-cons deadline (may_instants probes ++ fin_instants fin) now
      ∙ (ap (λ b. leb deadline now || b) (reached-append (may_instants probes) (fin_instants fin) now)
      ∙ under (waits_held wait) (waits_evidence wait) h)
    where
      under : (a b : Bool) → due (pick a (deadline ∷ []) (pick b (may_instants probes ++ deadline ∷ []) (fin_instants fin ++ deadline ∷ []))) ≡ true → (leb deadline now || (due (may_instants probes) || due (fin_instants fin))) ≡ true
      under true b e = or_left (leb deadline now) (due (may_instants probes) || due (fin_instants fin)) (sym (due-one deadline) ∙ e)
      under false true e = either (leb deadline now) (due (may_instants probes)) (due (fin_instants fin)) (sym (due_with (may_instants probes) deadline) ∙ e)
      under false false e = other (leb deadline now) (due (may_instants probes)) (due (fin_instants fin)) (sym (due_with (fin_instants fin) deadline) ∙ e)

  cycle-wakes : (c : Cycle) → due (cycle_due c) ≡ true → due (cycle_instants c) ≡ true
  unfolding cycle_due cycle_instants
  cycle-wakes c = under (is_init c.kind) (is_pend_i c.kind)
    where
      p : PendI
      p = c.pendi

      first : List ℕ
      first = ladder_instants c.init.ladder ++ c.init.deadline ∷ []

      last : List ℕ
      last = pick (is_pend_r c.kind) (c.pendr.deadline ∷ []) []

      under : (i q : Bool) → due (pick i first (pick q (pending_due p.wait p.deadline p.probes p.fin) last)) ≡ true → due (pick i first (pick q (p.deadline ∷ (may_instants p.probes ++ fin_instants p.fin)) last)) ≡ true
      under true q e = e
      under false true e = pending-wakes p.wait p.deadline p.probes p.fin e
      under false false e = e

  module _ (s : State) where
    standing-due : (l : List ℕ) → due (standing s l) ≡ (due (listed s.drain.some s.drain.deadline) || (due (firsts s.cands.len s.cands.deadline) || (due l || due (current_instants s.cur))))
    unfolding standing
    standing-due l =
        reached-append (listed s.drain.some s.drain.deadline) (firsts s.cands.len s.cands.deadline ++ (l ++ current_instants s.cur)) now
        ∙ ap (λ b. due (listed s.drain.some s.drain.deadline) || b) (reached-append (firsts s.cands.len s.cands.deadline) (l ++ current_instants s.cur) now
        ∙ ap (λ b. due (firsts s.cands.len s.cands.deadline) || b) (reached-append l (current_instants s.cur) now))

    stored-due : due (due_instants s) ≡ true → due (stored_instants s) ≡ true
    unfolding due_instants stored_instants
    stored-due e =
        standing-due (cycle_instants s.cycle)
        ∙ one_of (due (listed s.drain.some s.drain.deadline)) (due (firsts s.cands.len s.cands.deadline)) (due (cycle_due s.cycle)) (due (cycle_instants s.cycle)) (due (current_instants s.cur)) (cycle-wakes s.cycle)
        (sym (standing-due (cycle_due s.cycle)) ∙ e)

    module _ (cfg : Config) (p : Profile) where
      start : List ℕ
      start = instants (start_at s cfg p)

      hard : List ℕ
      hard = listed (exhausted s cfg) s.cur.ep.started

      wake-parts : reached_of (wake_of s cfg p) now ≡ (due (stored_instants s) || (due start || due hard))
      unfolding wake_of wake_instants start hard
      wake-parts = reached-append (stored_instants s) (start ++ hard) now ∙ ap (λ b. due (stored_instants s) || b) (reached-append start hard now)

      -- where an item is due, the wake is reached
      pub due-wakes : any_due s now ≡ true → reached_of (wake_of s cfg p) now ≡ true
      due-wakes e = wake-parts ∙ or_left (due (stored_instants s)) (due start || due hard) (stored-due (sym (due-reached s now) ∙ e))

      listed-due : (b : Bool) (t : ℕ) → pick b (leb t now) false ≡ true → due (listed b t) ≡ true
      listed-due true t h = due-one t ∙ h
      listed-due false t h = absurd (false≢true h)

      -- and where the start's instant is
      pub start-wakes : reached_of (start_at s cfg p) now ≡ true → reached_of (wake_of s cfg p) now ≡ true
      unfolding start
      start-wakes e = wake-parts ∙ or_right (due (stored_instants s)) _ (or_left (due start) (due hard) (listed-due (start_at s cfg p).some (start_at s cfg p).at e))

      -- and at `hard` the current epoch's start
      pub hard-wakes : exhausted s cfg ≡ true → s.cur.ep.started ≤ now → reached_of (wake_of s cfg p) now ≡ true
      unfolding hard
      hard-wakes e h =
          wake-parts
          ∙ or_right (due (stored_instants s)) _ (or_right (due start) (due hard) (listed-due (exhausted s cfg) s.cur.ep.started (there (exhausted s cfg) e)))
        where
          there : (b : Bool) → b ≡ true → pick b (leb s.cur.ep.started now) false ≡ true
          there true q = le-leb s.cur.ep.started now h
          there false q = absurd (false≢true q)

taken : (q : Bool) (j : Item) (l : List Item) → q ≡ true → some_in (pick q (j ∷ l) l) ≡ true
taken true j l e = refl
taken false j l e = absurd (false≢true e)

passed : (q : Bool) (j : Item) (l : List Item) → some_in l ≡ true → some_in (pick q (j ∷ l) l) ≡ true
passed true j l e = refl
passed false j l e = e

-- an item of a list is due at its own instant
some_at : (i : Item) (l : List Item) → Memᴰ i l → some_in (kept (is_due i.at) l) ≡ true
unfolding kept
some_at i [] m = absurd (Memᴰ.not-nil m)
some_at i (j ∷ l) m = under (some_at i l) (Memᴰ.cases_cons m)
  where
    under : (Memᴰ i l → some_in (kept (is_due i.at) l) ≡ true) → (i ≡ j) ⊎ Memᴰ i l → some_in (pick (leb j.at i.at) (j ∷ kept (is_due i.at) l) (kept (is_due i.at) l)) ≡ true
    under h (inl e) = taken (leb j.at i.at) j (kept (is_due i.at) l) (le-leb j.at i.at (omega (arith, ap (λ (k : Item). k.at) e)))
    under h (inr n) = passed (leb j.at i.at) j (kept (is_due i.at) l) (h n)

-- the wake is there, and not after any instant that `due` names
pub wake-names : (s : State) (cfg : Config) (p : Profile) (i : Item) → Memᴰ i (named s) → reached_of (wake_of s cfg p) i.at ≡ true
unfolding any_due due_items
wake-names s cfg p i m = due-wakes i.at s cfg p (some_at i (named s) m)

-- a sent count at `hard` puts the wake at or before the current epoch's start
pub wake-hard : (s : State) (cfg : Config) (p : Profile) → exhausted s cfg ≡ true → reached_of (wake_of s cfg p) s.cur.ep.started ≡ true
wake-hard s cfg p e = hard-wakes s.cur.ep.started s cfg p e (omega arith)

-- ---- a late wake

some-append : {A : Type 0} (l k : List A) → some_in (l ++ k) ≡ (some_in l || some_in k)
some-append [] k = refl
some-append (a ∷ l) k = refl

some-listed : {A : Type 0} (b : Bool) (a : A) → some_in (listed b a) ≡ b
some-listed true a = refl
some-listed false a = refl

some-pending : (c : Cycle) → some_in (pending_of c) ≡ (is_pend_i c.kind || is_pend_r c.kind)
unfolding pending_of
some-pending c = under (is_pend_i c.kind) (is_pend_r c.kind)
  where
    under : (a b : Bool) → some_in (pick a (c.pendi.ep ∷ []) (pick b (c.pendr.ep ∷ []) [])) ≡ (a || b)
    under true b = refl
    under false true = refl
    under false false = refl

some-epochs : (s : State) → some_in (epochs_of s) ≡ (s.cur.some || ((is_pend_i s.cycle.kind || is_pend_r s.cycle.kind) || s.drain.some))
unfolding epochs_of
some-epochs s =
    some-append (listed s.cur.some s.cur.ep) (pending_of s.cycle ++ listed s.drain.some s.drain.ep)
    ∙ ap₂ ◌||◌ (some-listed s.cur.some s.cur.ep)
    (some-append (pending_of s.cycle) (listed s.drain.some s.drain.ep)
    ∙ ap₂ ◌||◌ (some-pending s.cycle) (some-listed s.drain.some s.drain.ep))

-- where something is held, and a pending or drained epoch only beside a current one, the first handshake is not over
opening-none : (s : State) → held_something s ≡ true → Led s → opening_idle s ≡ false
unfolding held_something opening_idle
opening-none s h led =
    under s.cur.some (is_pend_i s.cycle.kind) (is_pend_r s.cycle.kind) s.drain.some (is_init s.cycle.kind) (ltb 0 s.cands.len)
    led.pendi led.pendr led.drain
    (λ e. rw e)
    (λ e. ne_eqb s.cands.len 0 (λ z. omega (arith, ltb-true 0 s.cands.len e)))
    (sym (ap (λ b. b || (is_init s.cycle.kind || ltb 0 s.cands.len)) (some-epochs s)) ∙ h)
  where
    idle : Bool
    idle = is_idle s.cycle.kind

    empty : Bool
    empty = eqb s.cands.len 0

    under :
        (c a b d i l : Bool)
        → (a ≡ true → c ≡ true) → (b ≡ true → c ≡ true) → (d ≡ true → c ≡ true)
        → (i ≡ true → idle ≡ false) → (l ≡ true → empty ≡ false)
        → ((c || ((a || b) || d)) || (i || l)) ≡ true
        → (not c && (idle && empty)) ≡ false
    under true a b d i l pa pb pd pi pl h = refl
    under false true b d i l pa pb pd pi pl h = absurd (false≢true (pa refl))
    under false false true d i l pa pb pd pi pl h = absurd (false≢true (pb refl))
    under false false false true i l pa pb pd pi pl h = absurd (false≢true (pd refl))
    under false false false false true l pa pb pd pi pl h = ap (λ b. b && empty) (pi refl)
    under false false false false false true pa pb pd pi pl h = ap (λ b. idle && b) (pl refl) ∙ and-false idle
    under false false false false false false pa pb pd pi pl h = absurd (false≢true h)

exhausted-cur : (s : State) (cfg : Config) → exhausted s cfg ≡ true → s.cur.some ≡ true
unfolding exhausted
exhausted-cur s cfg e = left s.cur.some e
  where
    left : (a : Bool) → (a && leb cfg.hard s.cur.ep.sent) ≡ true → a ≡ true
    left true q = refl
    left false q = q

-- what would have reached the wake does not hold
refuted : (b w : Bool) → (b ≡ true → w ≡ true) → w ≡ false → b ≡ false
refuted true w h e = sym (h refl) ∙ e
refuted false w h e = refl

-- "where the wake is absent or later than now", with workers off: none of the four conditions holds
pub late-quiet :
    (s : State) (cfg : Config) (p : Profile) (now : ℕ)
    → Begun s now → held_something s ≡ true → Led s
    → reached_of (wake_of s cfg p) now ≡ false → quiet_of s cfg p now false ≡ true
unfolding quiet_of teardown_stands offer_owed
late-quiet s cfg p now b h led e =
    let due : any_due s now ≡ false = refuted (any_due s now) _ (due-wakes now s cfg p) e in
    let start : called_for s cfg p now ≡ false = refuted (called_for s cfg p now) _ (λ c. start-wakes now s cfg p (called-by s cfg p now b c)) e in
    let hard : exhausted s cfg ≡ false = refuted (exhausted s cfg) _ (λ c. hard-wakes now s cfg p c (b.started (exhausted-cur s cfg c))) e in
    rw (due, start, opening-none s h led, hard)
