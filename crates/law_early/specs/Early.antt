-- "link start, last cutover and the starts of all held epochs are not after any instant of the list"
use Rattle.std.specs.Prelude.{ℕ, ◌≤◌, Bool, true, false, ◌≡◌, refl, List, [], ◌∷◌, ◌++◌, eqb}
use Rattle.std.proofs.lemmas.Bool.{false≢true}
use Rattle.std.proofs.Common.{sym, ap, arith, eqb-true}
use Rattle.time.specs.Pick.{pick}
use Rattle.epoch.specs.declared.Epoch.{Epoch}
use Rattle.cycle.specs.Kind.{is_pend_i, is_pend_r}
use Rattle.state.specs.declared.State.{State}
use Rattle.state.specs.Parts.{listed, pending_of, epochs_of}
use Rattle.start.specs.Laws.{Begun}

pub record Early (s : State) (t : ℕ) : Type 0 where
  pub link : s.mem.link_since ≤ t
  pub cutover : s.mem.last_cutover.some ≡ true → s.mem.last_cutover.at ≤ t
  pub current : s.cur.some ≡ true → s.cur.ep.started ≤ t
  -- the pending epoch, in either role
  pub own : is_pend_i s.cycle.kind ≡ true → s.cycle.pendi.ep.started ≤ t
  pub peers : is_pend_r s.cycle.kind ≡ true → s.cycle.pendr.ep.started ≤ t
  pub drained : s.drain.some ≡ true → s.drain.ep.started ≤ t

-- ---- laws

-- what the wake clause supposes
pub early-begun : (s : State) (t : ℕ) → Early s t → Begun s t
early-begun s t e = record { link = e.link; cutover = e.cutover; started = e.current }

-- what is early at an instant is early later
pub early-later : (s : State) (t u : ℕ) → t ≤ u → Early s t → Early s u
early-later s t u h e =
    record {
      link = omega (arith, h, e.link);
      cutover = λ k. omega (arith, h, e.cutover k);
      current = λ k. omega (arith, h, e.current k);
      own = λ k. omega (arith, h, e.own k);
      peers = λ k. omega (arith, h, e.peers k);
      drained = λ k. omega (arith, h, e.drained k);
    }

-- ---- the epochs are all that are held

-- each of a list began by t
abbrev pub AllBegan : ℕ → List Epoch → Type 0
AllBegan t [] = Unit {0}
AllBegan t (e ∷ l) = (e.started ≤ t) × AllBegan t l

began_append : (t : ℕ) (l m : List Epoch) → AllBegan t l → AllBegan t m → AllBegan t (l ++ m)
began_append t [] m p q = q
began_append t (e ∷ l) m p q = (p.0, began_append t l m p.1 q)

began_left : (t : ℕ) (l m : List Epoch) → AllBegan t (l ++ m) → AllBegan t l
began_left t [] m p = tt
began_left t (e ∷ l) m p = (p.0, began_left t l m p.1)

began_right : (t : ℕ) (l m : List Epoch) → AllBegan t (l ++ m) → AllBegan t m
began_right t [] m p = p
began_right t (e ∷ l) m p = began_right t l m p.1

began_listed : (t : ℕ) (b : Bool) (e : Epoch) → (b ≡ true → e.started ≤ t) → AllBegan t (listed b e)
began_listed t true e h = (h refl, tt)
began_listed t false e h = tt

listed_began : (t : ℕ) (b : Bool) (e : Epoch) → AllBegan t (listed b e) → b ≡ true → e.started ≤ t
listed_began t true e p q = p.0
listed_began t false e p q = absurd (false≢true q)

-- early means that the starts of all held epochs are not after t, and nothing else of the epochs
pub early-held : (s : State) (t : ℕ) → Early s t → AllBegan t (epochs_of s)
unfolding epochs_of pending_of
early-held s t e =
    began_append t (listed s.cur.some s.cur.ep) _ (began_listed t s.cur.some s.cur.ep e.current)
    (began_append t (pick (is_pend_i s.cycle.kind) (s.cycle.pendi.ep ∷ []) (pick (is_pend_r s.cycle.kind) (s.cycle.pendr.ep ∷ []) [])) _
    (under (is_pend_i s.cycle.kind) (is_pend_r s.cycle.kind) e.own e.peers)
    (began_listed t s.drain.some s.drain.ep e.drained))
  where
    under : (i r : Bool) → (i ≡ true → s.cycle.pendi.ep.started ≤ t) → (r ≡ true → s.cycle.pendr.ep.started ≤ t) → AllBegan t (pick i (s.cycle.pendi.ep ∷ []) (pick r (s.cycle.pendr.ep ∷ []) []))
    under true r p q = (p refl, tt)
    under false true p q = (q refl, tt)
    under false false p q = tt

pub held-early : (s : State) (t : ℕ) → s.mem.link_since ≤ t → (s.mem.last_cutover.some ≡ true → s.mem.last_cutover.at ≤ t) → AllBegan t (epochs_of s) → Early s t
unfolding epochs_of pending_of
held-early s t l c a =
    record {
      link = l;
      cutover = c;
      current = listed_began t s.cur.some s.cur.ep (began_left t (listed s.cur.some s.cur.ep) (pending ++ listed s.drain.some s.drain.ep) a);
      own = λ k. as_own (is_pend_i s.cycle.kind) (is_pend_r s.cycle.kind) here k;
      peers = λ k. as_peers (is_pend_i s.cycle.kind) (is_pend_r s.cycle.kind) (ap (λ n. eqb n 2) (eqb-true s.cycle.kind 3 k)) here k;
      drained = listed_began t s.drain.some s.drain.ep (began_right t pending (listed s.drain.some s.drain.ep) rest);
    }
  where
    pending : List Epoch
    pending = pick (is_pend_i s.cycle.kind) (s.cycle.pendi.ep ∷ []) (pick (is_pend_r s.cycle.kind) (s.cycle.pendr.ep ∷ []) [])

    rest : AllBegan t (pending ++ listed s.drain.some s.drain.ep)
    rest = began_right t (listed s.cur.some s.cur.ep) (pending ++ listed s.drain.some s.drain.ep) a

    here : AllBegan t pending
    here = began_left t pending (listed s.drain.some s.drain.ep) rest

    as_own : (i r : Bool) → AllBegan t (pick i (s.cycle.pendi.ep ∷ []) (pick r (s.cycle.pendr.ep ∷ []) [])) → i ≡ true → s.cycle.pendi.ep.started ≤ t
    as_own true r p q = p.0
    as_own false r p q = absurd (false≢true q)

    as_peers : (i r : Bool) → i ≡ false → AllBegan t (pick i (s.cycle.pendi.ep ∷ []) (pick r (s.cycle.pendr.ep ∷ []) [])) → r ≡ true → s.cycle.pendr.ep.started ≤ t
    as_peers true r n p q = absurd (false≢true (sym n))
    as_peers false true n p q = p.0
    as_peers false false n p q = absurd (false≢true q)
