-- What follows the passes where they did nothing: no event where no start is called for, no teardown
-- stands and no offer is owed, and an event where one of these holds.
use Rattle.std.specs.Prelude.{ℕ, ◌≤◌, ◌+◌, Bool, not, ◌&&◌, ◌||◌, ◌≡◌, length}
use Rattle.std.proofs.Math.Bool.{true, false}
use Rattle.std.proofs.Common.{true≢false, sym, ◌∙◌, arith, length-append}
use Rattle.std.proofs.lemmas.Bool.{false≢true}
use Rattle.std.proofs.Math.Path.{refl, ap, ap₂}
use mathlib.Core.List.{List, [], ◌∷◌, ◌++◌}
use Rattle.time.specs.declared.When.{When}
use Rattle.time.specs.Pick.{pick}
use Rattle.time.specs.Lists.{kept}
use Rattle.numbers.specs.Numbers.{teardown_opening_idle, teardown_counter_exhausted}
use Rattle.epoch.specs.declared.Epoch.{Epoch}
use Rattle.candidates.proofs.Laws.{kept-most}
use Rattle.state.specs.declared.State.{State}
use Rattle.state.specs.declared.Given.{Given}
use Rattle.events.specs.Events.{Event, Teardown, Start, Delegate}
use Rattle.events.specs.Queries.{any_of}
use Rattle.events.specs.Withdraw.{given, stays, words_stay}
use Rattle.start.specs.Start.{start_kind, called_for}
use Rattle.wake.specs.Due.{some_in}
use Rattle.wake.specs.Wake.{exhausted}
use Rattle.wake.specs.Quiet.{opening_idle, teardown_stands, offer_owed}
use Rattle.wake.specs.Quiet.{offerable as owed_for}
use Rattle.retire.specs.Retire.{only, offerable, floor_told, delegate_out}
use Rattle.poll_close.specs.Logs.{tests-most, going-most}
use Rattle.poll_close.specs.Closing.{idle_now, tests_out, ends_now, start_out, offer_out, offering, going, waits_for, sealing, closing, unsealed}

-- ---- an event that stays

module _ (cur pend : When) where
  -- some event of a list stays
  firm : List Event → Bool
  firm l = some_in (kept (stays cur pend) l)

  firm-left : (l m : List Event) → firm l ≡ true → firm (l ++ m) ≡ true
  unfolding kept firm
  firm-left [] m e = absurd (false≢true e)
  firm-left (a ∷ l) m e = under (stays cur pend a) (firm-left l m) e
    where
      under : (q : Bool) → (some_in (kept (stays cur pend) l) ≡ true → some_in (kept (stays cur pend) (l ++ m)) ≡ true) → some_in (pick q (a ∷ kept (stays cur pend) l) (kept (stays cur pend) l)) ≡ true → some_in (pick q (a ∷ kept (stays cur pend) (l ++ m)) (kept (stays cur pend) (l ++ m))) ≡ true
      under true h e = refl
      under false h e = h e

  -- no event but a prompt is withdrawn
  firm-teardown : (n : ℕ) (l : List Event) → firm (Teardown n ∷ l) ≡ true
  unfolding kept words_stay firm
  firm-teardown n l = refl

  firm-start : (n : ℕ) → firm (Start n ∷ []) ≡ true
  unfolding kept words_stay firm
  firm-start n = refl

  firm-offer : (a b c d : ℕ) (w : When) → firm (Delegate a b c d w ∷ []) ≡ true
  unfolding kept words_stay firm
  firm-offer a b c d w = refl

-- ---- an offer, where no event made it yet

offer : Epoch → Event
offer e = Delegate e.tag e.ids.transport e.ids.lease.index e.session (floor_told e.floor)

offer-first : (some : Bool) (e : Epoch) (workers : Bool) → offer_out some e workers [] ≡ only (workers && (some && owed_for e)) (offer e)
unfolding offer_out delegate_out offerable any_of offer
offer-first some e workers = under some workers e.delegated e.ids.lease.some
  where
    under : (s w d l : Bool) → pick (s && not false) (only (pick w (pick d false l) false) (offer e)) [] ≡ only (w && (s && (not d && l))) (offer e)
    under true true true l = refl
    under true true false l = refl
    under true false d l = refl
    under false true d l = refl
    under false false d l = refl

-- ---- the two cases

module _ (s : State) (g : Given) where
  abbrev called : Bool
  called = called_for s g.cfg g.profile g.now

  abbrev cur_owed : Bool
  cur_owed = g.workers && (s.cur.some && owed_for s.cur.ep)

  abbrev drain_owed : Bool
  drain_owed = g.workers && (s.drain.some && owed_for s.drain.ep)

  no_start : called ≡ false → [] ++ start_out s g ≡ []
  unfolding start_out
  no_start e = ap (λ b. only b (Start (start_kind s g.cfg g.profile g.now).at)) e

  no-cur : cur_owed ≡ false → offering s.cur.some s.cur.ep g.workers [] ≡ []
  no-cur e = offer-first s.cur.some s.cur.ep g.workers ∙ ap (λ b. only b (offer s.cur.ep)) e

  no-drain : drain_owed ≡ false → offering s.drain.some s.drain.ep g.workers [] ≡ []
  no-drain e = offer-first s.drain.some s.drain.ep g.workers ∙ ap (λ b. only b (offer s.drain.ep)) e

  -- what is told while the link goes on, after nothing
  on : List Event
  on = offering s.drain.some s.drain.ep g.workers (offering s.cur.some s.cur.ep g.workers ([] ++ start_out s g))

  goes_on : going s g false [] ≡ on
  unfolding going on
  goes_on = refl

  on-started : called ≡ false → on ≡ offering s.drain.some s.drain.ep g.workers (offering s.cur.some s.cur.ep g.workers [])
  unfolding on
  on-started c = ap (λ l. offering s.drain.some s.drain.ep g.workers (offering s.cur.some s.cur.ep g.workers l)) (no_start c)

  on-cur : called ≡ false → cur_owed ≡ false → on ≡ offering s.drain.some s.drain.ep g.workers []
  on-cur c a = on-started c ∙ ap (offering s.drain.some s.drain.ep g.workers) (no-cur a)

  on_none : called ≡ false → cur_owed ≡ false → drain_owed ≡ false → on ≡ []
  on_none c a b = on-cur c a ∙ no-drain b

  module _ (cur pend : When) where
    on-firm : (c a b : Bool) → called ≡ c → cur_owed ≡ a → drain_owed ≡ b → c || (a || b) ≡ true → firm cur pend on ≡ true
    unfolding on offer start_out
    on-firm true a b ec ea eb h =
        firm-left cur pend (offering s.cur.some s.cur.ep g.workers ([] ++ start_out s g)) _
        (firm-left cur pend ([] ++ start_out s g) _ (started ec))
      where
        started : called ≡ true → firm cur pend ([] ++ start_out s g) ≡ true
        started e = ap (λ b. firm cur pend (only b (Start (start_kind s g.cfg g.profile g.now).at))) e ∙ firm-start cur pend (start_kind s g.cfg g.profile g.now).at
    on-firm false true b ec ea eb h =
        ap (firm cur pend) (on-started ec)
        ∙ firm-left cur pend (offering s.cur.some s.cur.ep g.workers []) _
        (ap (firm cur pend) (offer-first s.cur.some s.cur.ep g.workers ∙ ap (λ b. only b (offer s.cur.ep)) ea) ∙ firm-offer cur pend _ _ _ _ _)
    on-firm false false true ec ea eb h =
        ap (firm cur pend) (on-cur ec ea ∙ (offer-first s.drain.some s.drain.ep g.workers ∙ ap (λ b. only b (offer s.drain.ep)) eb)) ∙ firm-offer cur pend _ _ _ _ _
    on-firm false false false ec ea eb h = absurd (false≢true h)

  -- the teardown tests, where no pass ended the link
  tests : Bool → Bool → List Event
  tests i x = only i (Teardown teardown_opening_idle) ++ only x (Teardown teardown_counter_exhausted)

  unsealed-tests : (i x : Bool) → opening_idle s ≡ i → exhausted s g.cfg ≡ x → unsealed s g false [] ≡ going s g (i || x) (tests i x)
  unfolding ends_now tests_out idle_now tests
  unsealed-tests i x p q = ap₂ (λ a b. going s g (a || b) (only a (Teardown teardown_opening_idle) ++ only b (Teardown teardown_counter_exhausted))) p q

  closing-tests : (i x : Bool) → opening_idle s ≡ i → exhausted s g.cfg ≡ x → closing s g false [] ≡ sealing s (going s g (i || x) (tests i x))
  unfolding closing
  closing-tests i x p q = ap (sealing s) (unsealed-tests i x p q)

  owed_parts : offer_owed s g.workers ≡ cur_owed || drain_owed
  unfolding offer_owed
  owed_parts = under g.workers (s.cur.some && owed_for s.cur.ep) (s.drain.some && owed_for s.drain.ep)
    where
      under : (w a b : Bool) → w && (a || b) ≡ w && a || w && b
      under true a b = refl
      under false a b = refl

  neither : (a b : Bool) → a || b ≡ false → (a ≡ false) × (b ≡ false)
  neither true b e = absurd (true≢false e)
  neither false b e = (refl, e)

  -- nothing is written
  pub unsealed-still : called ≡ false → teardown_stands s g.cfg ≡ false → offer_owed s g.workers ≡ false → unsealed s g false [] ≡ []
  unfolding teardown_stands tests
  unsealed-still c d o =
      let t = neither (opening_idle s) (exhausted s g.cfg) d in
      let w = neither cur_owed drain_owed (sym owed_parts ∙ o) in
      unsealed-tests false false t.0 t.1 ∙ (goes_on ∙ on_none c w.0 w.1)

  -- and nothing is told
  pub closing-still : called ≡ false → teardown_stands s g.cfg ≡ false → offer_owed s g.workers ≡ false → closing s g false [] ≡ []
  unfolding closing sealing kept
  closing-still c d o = ap (sealing s) (unsealed-still c d o)

  -- an event is told
  pub closing-speaks : called || (teardown_stands s g.cfg || offer_owed s g.workers) ≡ true → some_in (closing s g false []) ≡ true
  unfolding teardown_stands sealing tests firm kept going words_stay
  closing-speaks h =
      under (opening_idle s) (exhausted s g.cfg) refl refl
      (sym (ap (λ b. called || ((opening_idle s || exhausted s g.cfg) || b)) owed_parts) ∙ h)
    where
      under : (i x : Bool) → opening_idle s ≡ i → exhausted s g.cfg ≡ x → called || ((i || x) || (cur_owed || drain_owed)) ≡ true → some_in (closing s g false []) ≡ true
      under true x p q e = ap some_in (closing-tests true x p q) ∙ ended (only x (Teardown teardown_counter_exhausted))
        where
          ended : (l : List Event) → some_in (sealing s (going s g true (Teardown teardown_opening_idle ∷ l))) ≡ true
          ended l = refl
      under false true p q e = ap some_in (closing-tests false true p q) ∙ refl
      under false false p q e =
          ap some_in (closing-tests false false p q)
          ∙ (ap (λ l. some_in (sealing s l)) goes_on
          ∙ on-firm (given s.cur.some s.cur.ep.tag) (given (waits_for s.cycle.kind s.cycle.pendi.wait) s.cycle.pendi.ep.tag) called cur_owed drain_owed refl refl refl e)

-- ---- how many events follow the passes

-- two tests, a start and two offers
pub closing-most : (s : State) (g : Given) (ended : Bool) (told : List Event) → length (closing s g ended told) ≤ length told + 5
unfolding closing sealing
closing-most s g ended told =
    omega (
      arith,
      kept-most (stays (given s.cur.some s.cur.ep.tag) (given (waits_for s.cycle.kind s.cycle.pendi.wait) s.cycle.pendi.ep.tag)) (going s g (ends_now s g.cfg ended) (told ++ tests_out s g.cfg ended)),
      going-most s g (ends_now s g.cfg ended) (told ++ tests_out s g.cfg ended),
      length-append told (tests_out s g.cfg ended),
      tests-most s g ended,
    )
