-- The conditions on a state, place by place, as the code tries them.
use Rattle.std.specs.Prelude.{ℕ, Bool, true, false, ◌&&◌, ◌||◌, ◌≡◌, refl, List, [], ◌∷◌, ◌++◌, map, eqb}
use Rattle.std.specs.Prelude.{Option, Some, None, MatchOption, is_some, option_map}
use Rattle.std.specs.Option.{option_map_or}
use Rattle.cycle.specs.Held.{pending}
use Rattle.std.specs.Bool.{then_some}
use Rattle.time.specs.Options.{when_of}
use Rattle.time.specs.Time.{whenever}
use Rattle.std.proofs.Common.{sym, ◌∙◌, eqb-true, eq-eqb, ne_eqb}
use Rattle.std.proofs.Math.Path.{ap, ap₂}
use Rattle.std.proofs.lemmas.List.{map-append}
use Rattle.std.proofs.lemmas.Bool.{eqb-false}
use Rattle.time.specs.declared.When.{When}
use Rattle.time.specs.Pick.{pick}
use Rattle.ladder.specs.declared.Ladder.{Ladder}
use Rattle.epoch.specs.declared.Epoch.{Epoch}
use Rattle.cycle.specs.declared.Cycle.{Cycle}
use Rattle.cycle.specs.Kind.{is_init, is_pend_i, is_pend_r}
use Rattle.candidates.specs.Repeats.{among, repeated}
use Rattle.state.specs.declared.State.{State}
use Rattle.state.specs.Parts.{listed, pending_of, epochs_of, epoch_ladders, cycle_ladders, all_ladders, ladders_of}
use Rattle.refusal.specs.Refusal.{any_of, is_pending, tags_of, ladder_bad, ladders_bad}
use Rattle.refusal.specs.Standing.{cycle_bad, either_bad, epoch_bad, held_bad, pending_ep, shared_of, standing_bad, tag_of, tags_bad}

-- ---- laws: they are the conditions of the rule

-- the cycle's kinds exclude one another
pub other-kind : (k a b : ℕ) → (a ≡ b → ⊥) → eqb k a ≡ true → eqb k b ≡ false
other-kind k a b n e = ne_eqb k b (λ q. n (sym (eqb-true k a e) ∙ q))

abbrev tag : Epoch → ℕ
tag e = e.tag

abbrev bad : Ladder → Bool
bad l = ladder_bad l.sched.len l.next

or_assoc : (a b c : Bool) → (a || b) || c ≡ a || (b || c)
or_assoc true b c = refl
or_assoc false b c = refl

or_false : (a : Bool) → a || false ≡ a
or_false true = refl
or_false false = refl

pub any_append : {A : Type 0} (p : A → Bool) (l m : List A) → any_of p (l ++ m) ≡ any_of p l || any_of p m
unfolding any_of
any_append p [] m = refl
any_append p (a ∷ l) m = ap (λ b. p a || b) (any_append p l m) ∙ sym (or_assoc (p a) (any_of p l) (any_of p m))

any-listed : {A : Type 0} (p : A → Bool) (b : Bool) (a : A) → any_of p (listed b a) ≡ b && p a
unfolding any_of
any-listed p true a = or_false (p a)
any-listed p false a = refl

any-either : (a : Bool) (l : Ladder) (b : Bool) (m : Ladder) → any_of bad (listed a l ++ listed b m) ≡ either_bad a l.sched.len l.next b m.sched.len m.next
unfolding either_bad standing_bad
any-either a l b m =
    any_append bad (listed a l) (listed b m) ∙ ap₂ (λ x y. x || y) (any-listed bad a l) (any-listed bad b m)

any-epoch : (e : Epoch) → any_of bad (epoch_ladders e) ≡ epoch_bad e
unfolding epoch_ladders epoch_bad
any-epoch e = any-either e.fin.some e.fin.ladder e.elicit.some e.elicit.ladder

any-all : (l : List Epoch) → any_of bad (all_ladders l) ≡ any_of epoch_bad l
unfolding any_of all_ladders
any-all [] = refl
any-all (e ∷ l) = any_append bad (epoch_ladders e) (all_ladders l) ∙ ap₂ (λ a b. a || b) (any-epoch e) (any-all l)

any-cycle : (c : Cycle) → any_of bad (cycle_ladders c) ≡ cycle_bad c
unfolding any_of cycle_ladders cycle_bad
any-cycle c =
    under (is_init c.kind) (is_pend_i c.kind) (listed c.pendi.fin.some c.pendi.fin.ladder ++ listed c.pendi.probes.some c.pendi.probes.ladder) _
    (any-either c.pendi.fin.some c.pendi.fin.ladder c.pendi.probes.some c.pendi.probes.ladder)
  where
    under : (i p : Bool) (l : List Ladder) (x : Bool) → any_of bad l ≡ x → any_of bad (pick i (c.init.ladder ∷ []) (pick p l [])) ≡ pick i (bad c.init.ladder) (pick p x false)
    under true p l x e = or_false (bad c.init.ladder)
    under false true l x e = e
    under false false l x e = refl

-- the epochs that are held, three that may be absent
pending-listed : (c : Cycle) → pending_of c ≡ listed (is_pending c.kind) (pending_ep c)
unfolding pending_of is_pending pending_ep
pending-listed c = under (is_pend_i c.kind) (is_pend_r c.kind)
  where
    under : (i r : Bool) → pick i (c.pendi.ep ∷ []) (pick r (c.pendr.ep ∷ []) []) ≡ listed (i || r) (pick i c.pendi.ep c.pendr.ep)
    under true r = refl
    under false true = refl
    under false false = refl

module _ (s : State) where
  abbrev pub pending_here : Bool
  pending_here = is_pending s.cycle.kind

  pub held-three : epochs_of s ≡ listed s.cur.some s.cur.ep ++ (listed pending_here (pending_ep s.cycle) ++ listed s.drain.some s.drain.ep)
  unfolding epochs_of
  held-three =
      ap (λ l. listed s.cur.some s.cur.ep ++ (l ++ listed s.drain.some s.drain.ep)) (pending-listed s.cycle)

  any_held : (p : Epoch → Bool) → any_of p (epochs_of s) ≡ s.cur.some && p s.cur.ep || (pending_here && p (pending_ep s.cycle) || s.drain.some && p s.drain.ep)
  any_held p =
      ap (any_of p) held-three
      ∙ any_append p (listed s.cur.some s.cur.ep) (listed pending_here (pending_ep s.cycle) ++ listed s.drain.some s.drain.ep)
      ∙ ap₂ (λ a b. a || b) (any-listed p s.cur.some s.cur.ep)
      (any_append p (listed pending_here (pending_ep s.cycle)) (listed s.drain.some s.drain.ep)
      ∙ ap₂ (λ a b. a || b) (any-listed p pending_here (pending_ep s.cycle)) (any-listed p s.drain.some s.drain.ep))

  -- the ladders of the cycle, and those of the current, the pending and the drained epoch
  pub ladders-apart : ladders_bad s ≡ cycle_bad s.cycle || (held_bad s.cur.some s.cur.ep || (held_bad pending_here (pending_ep s.cycle) || held_bad s.drain.some s.drain.ep))
  unfolding ladders_bad ladders_of held_bad
  ladders-apart =
      any_append bad (cycle_ladders s.cycle) (all_ladders (epochs_of s))
      ∙ ap₂ (λ a b. a || b) (any-cycle s.cycle) (any-all (epochs_of s) ∙ any_held epoch_bad)

-- three tags, two by two
eqb_swap : (x y : ℕ) → eqb x y ≡ eqb y x
eqb_swap x y = under (eqb x y) refl
  where
    under : (q : Bool) → eqb x y ≡ q → q ≡ eqb y x
    under true e = sym (eq-eqb y x (sym (eqb-true x y e)))
    under false e = sym (ne_eqb y x (λ q. eqb-false x y e (sym q)))

three : (u v w : Bool) → (u || (v || false)) || ((w || false) || false) ≡ u || (v || w)
three true v w = refl
three false true w = refl
three false false true = refl
three false false false = refl

abbrev here : When → List ℕ
here w = listed w.some w.at

paired : (x y z : ℕ) (p q r : Bool) → repeated (listed p x ++ (listed q y ++ listed r z)) ≡ p && (q && eqb y x) || (p && (r && eqb z x) || q && (r && eqb z y))
unfolding repeated among
paired x y z true true true = three (eqb y x) (eqb z x) (eqb z y)
paired x y z true true false = or_false (eqb y x || false)
paired x y z true false true = or_false (eqb z x || false)
paired x y z true false false = refl
paired x y z false true true = or_false (eqb z y || false) ∙ or_false (eqb z y)
paired x y z false true false = refl
paired x y z false false true = refl
paired x y z false false false = refl

apart : (a b c : When) → repeated (here a ++ (here b ++ here c)) ≡ tags_bad a b c
unfolding tags_bad shared_of
apart a b c =
    rw (eqb_swap a.at b.at, eqb_swap a.at c.at, eqb_swap b.at c.at)
    (paired a.at b.at c.at a.some b.some c.some)

tag-listed : (b : Bool) (e : Epoch) → map tag (listed b e) ≡ listed b e.tag
tag-listed true e = refl
tag-listed false e = refl

tags-listed : (a b c : Bool) (x y z : Epoch) → map tag (listed a x ++ (listed b y ++ listed c z)) ≡ listed a x.tag ++ (listed b y.tag ++ listed c z.tag)
tags-listed a b c x y z =
    map-append tag (listed a x) (listed b y ++ listed c z)
    ∙ ap₂ (λ l m. l ++ m) (tag-listed a x)
    (map-append tag (listed b y) (listed c z) ∙ ap₂ (λ l m. l ++ m) (tag-listed b y) (tag-listed c z))

pub tags-apart : (s : State) → repeated (tags_of s) ≡ tags_bad (tag_of s.cur.some s.cur.ep) (tag_of (is_pending s.cycle.kind) (pending_ep s.cycle)) (tag_of s.drain.some s.drain.ep)
tags-apart s =
    ap repeated
    (ap (map tag) (held-three s)
    ∙ tags-listed s.cur.some (is_pending s.cycle.kind) s.drain.some s.cur.ep (pending_ep s.cycle) s.drain.ep)
    ∙ apart (tag_of s.cur.some s.cur.ep) (tag_of (is_pending s.cycle.kind) (pending_ep s.cycle)) (tag_of s.drain.some s.drain.ep)

-- the pending epoch, and its tag
pub pending_when : (c : Cycle) → when_of (option_map tag (pending c)) ≡ whenever (is_pending c.kind) (pending_ep c).tag
unfolding pending is_pending pending_ep
pending_when c = under (is_pend_i c.kind) (is_pend_r c.kind)
  where
    under : (i r : Bool) → when_of (option_map tag (pick i (Some c.pendi.ep) (pick r (Some c.pendr.ep) None))) ≡ whenever (i || r) (pick i c.pendi.ep c.pendr.ep).tag
    under true r = refl
    under false true = refl
    under false false = refl

pub pending_there : {A : Type 0} (f : A → Epoch) (c : Cycle) (o : Option A) → option_map f o ≡ pending c → is_some o ≡ is_pending c.kind
unfolding pending is_pending
pending_there f c o e = sym (kept o) ∙ ap is_some e ∙ under (is_pend_i c.kind) (is_pend_r c.kind)
  where
    kept : (o : Option _) → is_some (option_map f o) ≡ is_some o
    kept None = refl
    kept (Some a) = refl

    under : (i r : Bool) → is_some (pick i (Some c.pendi.ep) (pick r (Some c.pendr.ep) None)) ≡ i || r
    under true r = refl
    under false true = refl
    under false false = refl

pending_held : (c : Cycle) → option_map_or epoch_bad (pending c) false ≡ held_bad (is_pending c.kind) (pending_ep c)
unfolding pending is_pending pending_ep held_bad
pending_held c = under (is_pend_i c.kind) (is_pend_r c.kind)
  where
    under : (i r : Bool) → option_map_or epoch_bad (pick i (Some c.pendi.ep) (pick r (Some c.pendr.ep) None)) false ≡ (i || r) && epoch_bad (pick i c.pendi.ep c.pendr.ep)
    under true r = refl
    under false true = refl
    under false false = refl

pub pending_tested : {A : Type 0} (f : A → Epoch) (c : Cycle) (o : Option A) (r : Bool) → option_map f o ≡ pending c → MatchOption o (r ≡ false) (λ a. r ≡ epoch_bad (f a)) → r ≡ held_bad (is_pending c.kind) (pending_ep c)
pending_tested f c o r e h = told o h ∙ ap (λ p. option_map_or epoch_bad p false) e ∙ pending_held c
  where
    told : (o : Option _) → MatchOption o (r ≡ false) (λ a. r ≡ epoch_bad (f a)) → r ≡ option_map_or epoch_bad (option_map f o) false
    told None h = h
    told (Some a) h = h

-- the tags as options
pub tags-held : (s : State) (a b c : Option ℕ) → a ≡ then_some s.cur.some s.cur.ep.tag → b ≡ option_map tag (pending s.cycle) → c ≡ then_some s.drain.some s.drain.ep.tag → (r : Bool) → r ≡ tags_bad (when_of a) (when_of b) (when_of c) → r ≡ repeated (tags_of s)
unfolding tags_bad shared_of
tags-held s a b c e f g r h =
    h
    ∙ rw (e, f, g, pending_when s.cycle)
    (under s.cur.some (is_pending s.cycle.kind) s.drain.some
    ∙ sym (tags-apart s))
  where
    under : (i j k : Bool) → tags_bad (when_of (then_some i s.cur.ep.tag)) (whenever j (pending_ep s.cycle).tag) (when_of (then_some k s.drain.ep.tag)) ≡ tags_bad (tag_of i s.cur.ep) (tag_of j (pending_ep s.cycle)) (tag_of k s.drain.ep)
    under true true true = refl
    under true true false = refl
    under true false true = refl
    under true false false = refl
    under false true true = refl
    under false true false = refl
    under false false true = refl
    under false false false = refl

pub ruleset apart_words = (ladders-apart, tags-apart)
