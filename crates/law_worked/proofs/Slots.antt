-- Laws of the slot of a tag: what is done in one of its cases is done in the slot, over the words of a log and the
-- number of its events. Over a `Log` they stand in notice_rows.
use Rattle.std.specs.Prelude.{ℕ, true, false, ◌≡◌, List}
use Rattle.std.proofs.Common.{sym, subst}
use Rattle.time.specs.Pick.{pick}
use Rattle.numbers.specs.Numbers.{reason_stale_tag}
use Rattle.epoch.specs.Held.{is_tag}
use Rattle.state.specs.declared.State.{State}
use Rattle.frame_hear.specs.Hear.{HearStep}
use Rattle.notice_rows.specs.Rows.{is_pending, by_slot, rejected}
use Rattle.notice_rows.proofs.Slots.{at-current, at_previous, elsewhere}
use Rattle.law_worked.specs.Lent.{Heard, Did}

module _ (s : State) (tag : ℕ) (a b : HearStep) where
  module _ (len : ℕ) (ws : List ℕ) (r : Heard) (ws' : List ℕ) where
    pub did-current : (c d : HearStep) → is_tag s.cur.some s.cur.ep.tag tag ≡ true → Did a len ws r ws' → Did (by_slot s tag a b c d) len ws r ws'
    did-current c d p h = subst (λ t. Did t len ws r ws') (sym (at-current s tag a b c d p)) h

    pub did-previous :
        (c d : HearStep) → is_tag s.cur.some s.cur.ep.tag tag ≡ false → is_tag s.drain.some s.drain.ep.tag tag ≡ true
        → Did b len ws r ws'
        → Did (by_slot s tag a b c d) len ws r ws'
    did-previous c d p q h = subst (λ t. Did t len ws r ws') (sym (at_previous s tag a b c d p q)) h

    pub did-elsewhere :
        (early : ℕ) → is_tag s.cur.some s.cur.ep.tag tag ≡ false → is_tag s.drain.some s.drain.ep.tag tag ≡ false
        → Did (rejected s (pick (is_pending s.cycle tag) early reason_stale_tag)) len ws r ws'
        → Did (by_slot s tag a b (rejected s early) (rejected s reason_stale_tag)) len ws r ws'
    did-elsewhere early p q h = subst (λ t. Did t len ws r ws') (sym (elsewhere s tag a b early p q)) h
