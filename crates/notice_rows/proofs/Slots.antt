-- Which case the slot of a tag takes, and that what is done in it is done in its slot.
use Rattle.std.specs.Prelude.{ℕ, Bool, true, false, ◌≡◌}
use Rattle.std.proofs.Math.Path.{refl}
use Rattle.std.proofs.Common.{sym, subst}
use Rattle.time.specs.Pick.{pick}
use Rattle.numbers.specs.Numbers.{reason_stale_tag}
use Rattle.epoch.specs.Held.{is_tag}
use Rattle.state.specs.declared.State.{State}
use Rattle.events.specs.declared.Log.{Log}
use Rattle.frame_hear.specs.Hear.{HearStep, Did}
use Rattle.notice_rows.specs.Rows.{is_pending, by_slot, rejected}

-- of two rejects the one that is picked has the reason that is picked
one_reject : (s : State) (b : Bool) (x y : ℕ) → pick b (rejected s x) (rejected s y) ≡ rejected s (pick b x y)
one_reject s true x y = refl
one_reject s false x y = refl

module _ (s : State) (tag : ℕ) (a b : HearStep) where
  -- the current epoch's case, ..
  pub at-current : (c d : HearStep) → is_tag s.cur.some s.cur.ep.tag tag ≡ true → by_slot s tag a b c d ≡ a
  unfolding by_slot
  at-current c d p = rw p refl

  -- .. the drained one's, ..
  pub at_previous : (c d : HearStep) → is_tag s.cur.some s.cur.ep.tag tag ≡ false → is_tag s.drain.some s.drain.ep.tag tag ≡ true → by_slot s tag a b c d ≡ b
  unfolding by_slot
  at_previous c d p q = rw (p, q) refl

  -- .. and the reject of every other tag: `early` where the pending epoch has it
  pub elsewhere :
      (early : ℕ) → is_tag s.cur.some s.cur.ep.tag tag ≡ false → is_tag s.drain.some s.drain.ep.tag tag ≡ false
      → by_slot s tag a b (rejected s early) (rejected s reason_stale_tag) ≡ rejected s (pick (is_pending s.cycle tag) early reason_stale_tag)
  unfolding by_slot
  elsewhere early p q = rw (p, q) (one_reject s (is_pending s.cycle tag) early reason_stale_tag)

  -- the same of what a function did
  module _ (l : Log) (r : State) (l' : Log) where
    pub did-current : (c d : HearStep) → is_tag s.cur.some s.cur.ep.tag tag ≡ true → Did a l r l' → Did (by_slot s tag a b c d) l r l'
    did-current c d p h = subst (λ t. Did t l r l') (sym (at-current c d p)) h

    pub did-previous :
        (c d : HearStep) → is_tag s.cur.some s.cur.ep.tag tag ≡ false → is_tag s.drain.some s.drain.ep.tag tag ≡ true
        → Did b l r l'
        → Did (by_slot s tag a b c d) l r l'
    did-previous c d p q h = subst (λ t. Did t l r l') (sym (at_previous c d p q)) h

    pub did-elsewhere :
        (early : ℕ) → is_tag s.cur.some s.cur.ep.tag tag ≡ false → is_tag s.drain.some s.drain.ep.tag tag ≡ false
        → Did (rejected s (pick (is_pending s.cycle tag) early reason_stale_tag)) l r l'
        → Did (by_slot s tag a b (rejected s early) (rejected s reason_stale_tag)) l r l'
    did-elsewhere early p q h = subst (λ t. Did t l r l') (sym (elsewhere early p q)) h
