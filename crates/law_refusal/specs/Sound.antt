-- What an accepted state is known to be: "a state [is accepted] when 3 to 6 pass it".
use Rattle.std.specs.Prelude.{ℕ, ◌≤◌, Bool, true, not, ◌&&◌, ◌||◌, ◌≡◌, refl, ltb, get_or}
use Rattle.std.proofs.Math.Bool.{false}
use Rattle.std.proofs.Common.{true≢false, sym, ◌∙◌, ap, arith}
use Rattle.std.proofs.lemmas.Bool.{false≢true}
use Rattle.std.proofs.Math.Path.{subst}
use Rattle.std.proofs.Math.Dec.{eqb}
use borrow.Author.Tests.{ltb-false, le-ltb}
use Rattle.time.specs.declared.When.{When}
use Rattle.time.specs.Pick.{pick}
use Rattle.ladder.specs.Schedule.{max_rungs}
use Rattle.epoch.specs.declared.Epoch.{Epoch}
use Rattle.cycle.specs.declared.Cycle.{Cycle}
use Rattle.cycle.specs.Kind.{is_init, is_pend_i, is_pend_r}
use Rattle.candidates.specs.Repeats.{repeated}
use Rattle.state.specs.declared.State.{State}
use Rattle.refusal.specs.Refusal.{any_of, cands_bad, is_pending, epochs_bad_of, epochs_bad, tags_of, seqs_of, numbers_bad, ladder_bad, ladders_bad, by, state_tests, state_back}
use Rattle.refusal.specs.First.{rising}
use Rattle.refusal.proofs.First.{or_left, or_right, or_none, none-back, back_none, none-at}
use Rattle.refusal.specs.Standing.{tag_of, pending_ep, shared_of, tags_bad, standing_bad, either_bad, epoch_bad, held_bad, cycle_bad}
use Rattle.refusal.proofs.Standing.{other-kind, tags-apart, ladders-apart}

-- a ladder's length and cursor
pub record Within (len next : ℕ) : Type 0 where
  pub rungs : len ≤ max_rungs
  pub cursor : next ≤ len

-- the ladders of an epoch
pub record EpochSound (e : Epoch) : Type 0 where
  pub fin : e.fin.some ≡ true → Within e.fin.ladder.sched.len e.fin.ladder.next
  pub elicit : e.elicit.some ≡ true → Within e.elicit.ladder.sched.len e.elicit.ladder.next

pub record Sound (s : State) : Type 0 where
  -- 3
  pub count : s.cands.len ≤ 32
  -- 4
  pub pendi-led : is_pend_i s.cycle.kind ≡ true → s.cur.some ≡ true
  pub pendr-led : is_pend_r s.cycle.kind ≡ true → s.cur.some ≡ true
  pub drain-led : s.drain.some ≡ true → s.cur.some ≡ true
  -- 5
  pub cur-pendi : is_pend_i s.cycle.kind ≡ true → eqb s.cur.ep.tag s.cycle.pendi.ep.tag ≡ false
  pub cur-pendr : is_pend_r s.cycle.kind ≡ true → eqb s.cur.ep.tag s.cycle.pendr.ep.tag ≡ false
  pub cur-drain : s.drain.some ≡ true → eqb s.cur.ep.tag s.drain.ep.tag ≡ false
  pub pendi-drain : is_pend_i s.cycle.kind ≡ true → s.drain.some ≡ true → eqb s.cycle.pendi.ep.tag s.drain.ep.tag ≡ false
  pub pendr-drain : is_pend_r s.cycle.kind ≡ true → s.drain.some ≡ true → eqb s.cycle.pendr.ep.tag s.drain.ep.tag ≡ false
  pub seqs : repeated (seqs_of s) ≡ false
  -- 6
  pub init-ladder : is_init s.cycle.kind ≡ true → Within s.cycle.init.ladder.sched.len s.cycle.init.ladder.next
  pub pendi-fin : is_pend_i s.cycle.kind ≡ true → s.cycle.pendi.fin.some ≡ true → Within s.cycle.pendi.fin.ladder.sched.len s.cycle.pendi.fin.ladder.next
  pub pendi-probes : is_pend_i s.cycle.kind ≡ true → s.cycle.pendi.probes.some ≡ true → Within s.cycle.pendi.probes.ladder.sched.len s.cycle.pendi.probes.ladder.next
  pub cur-ladders : s.cur.some ≡ true → EpochSound s.cur.ep
  pub pendi-ladders : is_pend_i s.cycle.kind ≡ true → EpochSound s.cycle.pendi.ep
  pub pendr-ladders : is_pend_r s.cycle.kind ≡ true → EpochSound s.cycle.pendr.ep
  pub drain-ladders : s.drain.some ≡ true → EpochSound s.drain.ep

-- ---- tests that fail

and_right : (a b : Bool) → a && b ≡ false → a ≡ true → b ≡ false
and_right a b h e = rw e at h

and_none : (a b : Bool) → (a ≡ true → b ≡ false) → a && b ≡ false
and_none true b h = h refl
and_none false b h = refl

-- a choice by one kind and then by another: both fail where they are chosen
pick-left : (i r x y : Bool) → pick i x (pick r y false) ≡ false → i ≡ true → x ≡ false
pick-left i r x y h e = rw e at h

pick-right : (i r x y : Bool) → (r ≡ true → i ≡ false) → pick i x (pick r y false) ≡ false → r ≡ true → y ≡ false
pick-right i r x y n h e = rw (n e, e) at h

pick-none : (i r x y : Bool) → (i ≡ true → x ≡ false) → (r ≡ true → y ≡ false) → pick i x (pick r y false) ≡ false
pick-none true r x y p q = p refl
pick-none false true x y p q = q refl
pick-none false false x y p q = refl

-- ---- ladders

module _ (len next : ℕ) where
  within : ladder_bad len next ≡ false → Within len next
  unfolding ladder_bad
  within h =
      record {
        rungs = ltb-false max_rungs len (or_left (ltb max_rungs len) (ltb len next) h);
        cursor = ltb-false len next (or_right (ltb max_rungs len) (ltb len next) h);
      }

  within_none : Within len next → ladder_bad len next ≡ false
  unfolding ladder_bad
  within_none w = or_none (le-ltb max_rungs len w.rungs) (le-ltb len next w.cursor)

-- two ladders that may be absent: an epoch's, or those of an own completed attempt
module _ (a : Bool) (len next : ℕ) (b : Bool) (len' next' : ℕ) where
  abbrev TwoWithin : Type 0
  TwoWithin = (a ≡ true → Within len next) × (b ≡ true → Within len' next')

  two : either_bad a len next b len' next' ≡ false → TwoWithin
  unfolding either_bad standing_bad
  two h = (
    λ e. within len next (and_right a (ladder_bad len next) (or_left (a && ladder_bad len next) (b && ladder_bad len' next') h) e),
    λ e. within len' next' (and_right b (ladder_bad len' next') (or_right (a && ladder_bad len next) (b && ladder_bad len' next') h) e),
  )

  two_none : TwoWithin → either_bad a len next b len' next' ≡ false
  unfolding either_bad standing_bad
  two_none w =
      or_none (and_none a (ladder_bad len next) (λ e. within_none len next (w.0 e)))
      (and_none b (ladder_bad len' next') (λ e. within_none len' next' (w.1 e)))

module _ (e : Epoch) where
  epoch-sound : epoch_bad e ≡ false → EpochSound e
  unfolding epoch_bad
  epoch-sound h =
      let w = two e.fin.some e.fin.ladder.sched.len e.fin.ladder.next e.elicit.some e.elicit.ladder.sched.len e.elicit.ladder.next h in
      record { fin = w.0; elicit = w.1 }

  epoch-none : EpochSound e → epoch_bad e ≡ false
  unfolding epoch_bad
  epoch-none o =
      two_none e.fin.some e.fin.ladder.sched.len e.fin.ladder.next e.elicit.some e.elicit.ladder.sched.len e.elicit.ladder.next (o.fin, o.elicit)

-- ---- what 4, 5 and 6 say

-- 4: what has no current epoch
led : (cur x : Bool) → not cur && x ≡ false → x ≡ true → cur ≡ true
led true x h e = refl
led false x h e = absurd (false≢true (sym h ∙ e))

led-none : (cur x : Bool) → (x ≡ true → cur ≡ true) → not cur && x ≡ false
led-none true x h = refl
led-none false true h = absurd (false≢true (h refl))
led-none false false h = refl

-- 5: two tags
sharing : (a b : When) → shared_of a b ≡ false → a.some ≡ true → b.some ≡ true → eqb a.at b.at ≡ false
unfolding shared_of
sharing a b h p q = rw (p, q) at h

sharing-none : (a b : When) → (a.some ≡ true → b.some ≡ true → eqb a.at b.at ≡ false) → shared_of a b ≡ false
unfolding shared_of
sharing-none a b h = and_none a.some (b.some && eqb a.at b.at) (λ p. and_none b.some (eqb a.at b.at) (h p))

-- ---- the four conditions fail exactly where state_back is 0

pub record Passed (s : State) : Type 0 where
  pub cands : cands_bad s ≡ false
  pub epochs : epochs_bad s ≡ false
  pub numbers : numbers_bad s ≡ false
  pub ladders : ladders_bad s ≡ false

four : (a b c d : Bool) → a || (b || (c || d)) ≡ false → (a ≡ false) × (b ≡ false) × (c ≡ false) × (d ≡ false)
four true b c d h = absurd (true≢false h)
four false true c d h = absurd (true≢false h)
four false false true d h = absurd (true≢false h)
four false false false d h = (refl, refl, refl, h)

pub passed : (s : State) → state_back s ≡ 0 → Passed s
unfolding state_back state_tests rising
passed s z =
    let h : (i : ℕ) → (get_or (state_tests s) i (by 0 false)).back ≡ false = none-at (state_tests s) (none-back (state_tests s) 0 refl z) in
    record { cands = h 0; epochs = h 1; numbers = h 2; ladders = h 3 }

pub passing : (s : State) → Passed s → state_back s ≡ 0
unfolding state_back state_tests any_of
passing s p =
    ap (λ r. r.number)
    (back_none (state_tests s) (or_none p.cands (or_none p.epochs (or_none p.numbers (or_none p.ladders refl)))))

-- ---- an accepted state is sound, and a sound state is accepted

or_split : {A : Type 0} (a b : Bool) → (a ≡ true → A) → (b ≡ true → A) → a || b ≡ true → A
or_split true b f g e = f refl
or_split false b f g e = g e

last_true : (a b : Bool) → b ≡ true → a || b ≡ true
last_true true b e = refl
last_true false b e = e

module _ (s : State) where
  abbrev c : Cycle
  c = s.cycle

  abbrev cur : Bool
  cur = s.cur.some

  abbrev drain : Bool
  drain = s.drain.some

  abbrev init : Bool
  init = is_init c.kind

  abbrev pendi : Bool
  pendi = is_pend_i c.kind

  abbrev pendr : Bool
  pendr = is_pend_r c.kind

  abbrev pending : Bool
  pending = is_pending c.kind

  abbrev ep : Epoch
  ep = pending_ep c

  abbrev cur_tag : When
  cur_tag = tag_of cur s.cur.ep

  abbrev pending_tag : When
  pending_tag = tag_of pending ep

  abbrev drain_tag : When
  drain_tag = tag_of drain s.drain.ep

  -- the pending epoch is in one of two roles
  is-i : pendi ≡ true → (pending ≡ true) × (c.pendi.ep ≡ ep)
  unfolding is_pending pending_ep
  is-i e = (rw e, rw e)

  is-r : pendr ≡ true → (pending ≡ true) × (c.pendr.ep ≡ ep)
  unfolding is_pending pending_ep
  is-r e =
      let n = other-kind c.kind 3 2 (λ q. absurd (omega arith)) e in
      (last_true pendi pendr e, rw n)

  by_role : (P : Epoch → Type 0) → (pendi ≡ true → P c.pendi.ep) → (pendr ≡ true → P c.pendr.ep) → pending ≡ true → P ep
  unfolding is_pending
  by_role P f g = or_split pendi pendr (λ e. subst P (is-i e).1 (f e)) (λ e. subst P (is-r e).1 (g e))

  not_init : pendi ≡ true → init ≡ false
  not_init e = other-kind c.kind 2 1 (λ q. absurd (omega arith)) e

  -- the attempt's ladder, and the two of a completed attempt
  abbrev attempt : Bool
  attempt = ladder_bad c.init.ladder.sched.len c.init.ladder.next

  abbrev waiting : Bool
  waiting =
      either_bad c.pendi.fin.some c.pendi.fin.ladder.sched.len c.pendi.fin.ladder.next
      c.pendi.probes.some c.pendi.probes.ladder.sched.len c.pendi.probes.ladder.next

  module _ (p : Passed s) where
    lead : pending || drain ≡ true → cur ≡ true
    unfolding epochs_bad_of
    lead = led cur (pending || drain) p.epochs

    lead-i : pendi ≡ true → cur ≡ true
    lead-i e = lead (rw (is-i e).0)

    lead-r : pendr ≡ true → cur ≡ true
    lead-r e = lead (rw (is-r e).0)

    lead-d : drain ≡ true → cur ≡ true
    lead-d e = lead (last_true pending drain e)

    tags : (shared_of cur_tag pending_tag ≡ false) × (shared_of cur_tag drain_tag ≡ false) × (shared_of pending_tag drain_tag ≡ false)
    unfolding numbers_bad tags_bad
    tags =
        let f = four false (shared_of cur_tag pending_tag) (shared_of cur_tag drain_tag) (shared_of pending_tag drain_tag) (sym (tags-apart s) ∙ or_left (repeated (tags_of s)) (repeated (seqs_of s)) p.numbers) in
        (f.1, f.2, f.3)

    cur-other : (e : Epoch) → e ≡ ep → pending ≡ true → cur ≡ true → eqb s.cur.ep.tag e.tag ≡ false
    cur-other e q h k = ap (λ x. eqb s.cur.ep.tag x.tag) q ∙ sharing cur_tag pending_tag tags.0 k h

    other-drain : (e : Epoch) → e ≡ ep → pending ≡ true → drain ≡ true → eqb e.tag s.drain.ep.tag ≡ false
    other-drain e q h k = ap (λ x. eqb x.tag s.drain.ep.tag) q ∙ sharing pending_tag drain_tag tags.2 h k

    ladders : (cycle_bad c ≡ false) × (held_bad cur s.cur.ep ≡ false) × (held_bad pending ep ≡ false) × (held_bad drain s.drain.ep ≡ false)
    ladders =
        four (cycle_bad c) (held_bad cur s.cur.ep) (held_bad pending ep) (held_bad drain s.drain.ep) (sym (ladders-apart s) ∙ p.ladders)

    held-sound : (b : Bool) (e : Epoch) → held_bad b e ≡ false → b ≡ true → EpochSound e
    unfolding held_bad
    held-sound b e h q = epoch-sound e (and_right b (epoch_bad e) h q)

    waiting-two : pendi ≡ true → TwoWithin c.pendi.fin.some c.pendi.fin.ladder.sched.len c.pendi.fin.ladder.next c.pendi.probes.some c.pendi.probes.ladder.sched.len c.pendi.probes.ladder.next
    unfolding cycle_bad
    waiting-two e =
        two c.pendi.fin.some c.pendi.fin.ladder.sched.len c.pendi.fin.ladder.next c.pendi.probes.some c.pendi.probes.ladder.sched.len c.pendi.probes.ladder.next
        (pick-right init pendi attempt waiting not_init ladders.0 e)

    pub passed-sound : Sound s
    unfolding numbers_bad cycle_bad
    passed-sound =
        record {
          count = ltb-false 32 s.cands.len p.cands;
          pendi-led = lead-i;
          pendr-led = lead-r;
          drain-led = lead-d;
          cur-pendi = λ e. cur-other c.pendi.ep (is-i e).1 (is-i e).0 (lead-i e);
          cur-pendr = λ e. cur-other c.pendr.ep (is-r e).1 (is-r e).0 (lead-r e);
          cur-drain = λ e. sharing cur_tag drain_tag tags.1 (lead-d e) e;
          pendi-drain = λ e. other-drain c.pendi.ep (is-i e).1 (is-i e).0;
          pendr-drain = λ e. other-drain c.pendr.ep (is-r e).1 (is-r e).0;
          seqs = or_right (repeated (tags_of s)) (repeated (seqs_of s)) p.numbers;
          init-ladder = λ e. within c.init.ladder.sched.len c.init.ladder.next (pick-left init pendi attempt waiting ladders.0 e);
          pendi-fin = λ e. (waiting-two e).0;
          pendi-probes = λ e. (waiting-two e).1;
          cur-ladders = held-sound cur s.cur.ep ladders.1;
          pendi-ladders = λ e. subst EpochSound (sym (is-i e).1) (held-sound pending ep ladders.2 (is-i e).0);
          pendr-ladders = λ e. subst EpochSound (sym (is-r e).1) (held-sound pending ep ladders.2 (is-r e).0);
          drain-ladders = held-sound drain s.drain.ep ladders.3;
        }

  pub sound : state_back s ≡ 0 → Sound s
  sound z = passed-sound (passed s z)

  module _ (o : Sound s) where
    tags-none : tags_bad cur_tag pending_tag drain_tag ≡ false
    unfolding tags_bad
    tags-none =
        or_none (sharing-none cur_tag pending_tag (λ p. by_role (λ e. eqb s.cur.ep.tag e.tag ≡ false) o.cur-pendi o.cur-pendr))
        (or_none (sharing-none cur_tag drain_tag (λ p q. o.cur-drain q))
        (sharing-none pending_tag drain_tag (λ p q. by_role (λ e. eqb e.tag s.drain.ep.tag ≡ false) (λ e. o.pendi-drain e q) (λ e. o.pendr-drain e q) p)))

    held_none : (b : Bool) (e : Epoch) → (b ≡ true → EpochSound e) → held_bad b e ≡ false
    unfolding held_bad
    held_none b e f = and_none b (epoch_bad e) (λ q. epoch-none e (f q))

    ladders-none : ladders_bad s ≡ false
    unfolding cycle_bad
    ladders-none =
        ladders-apart s
        ∙ or_none
        (pick-none init pendi attempt waiting
        (λ e. within_none c.init.ladder.sched.len c.init.ladder.next (o.init-ladder e))
        (λ e. two_none c.pendi.fin.some c.pendi.fin.ladder.sched.len c.pendi.fin.ladder.next c.pendi.probes.some c.pendi.probes.ladder.sched.len c.pendi.probes.ladder.next (o.pendi-fin e, o.pendi-probes e)))
        (or_none (held_none cur s.cur.ep o.cur-ladders)
        (or_none (held_none pending ep (by_role EpochSound o.pendi-ladders o.pendr-ladders))
        (held_none drain s.drain.ep o.drain-ladders)))

    pub sound-passed : Passed s
    unfolding epochs_bad_of numbers_bad
    sound-passed =
        record {
          cands = le-ltb 32 s.cands.len o.count;
          epochs = led-none cur (pending || drain) (or_split pending drain (by_role (λ e. cur ≡ true) o.pendi-led o.pendr-led) o.drain-led);
          numbers = or_none (tags-apart s ∙ tags-none) o.seqs;
          ladders = ladders-none;
        }

  pub sounding : Sound s → state_back s ≡ 0
  sounding o = passing s (sound-passed o)
