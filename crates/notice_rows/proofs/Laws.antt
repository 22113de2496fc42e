-- Laws of the slot of a tag: what holds of each case holds in its slot.
use Rattle.std.specs.Prelude.{ℕ, true, ◌≡◌}
use Rattle.time.specs.Pick.{and_left, by-test, of_choice}
use Rattle.epoch.specs.Held.{is_tag}
use Rattle.state.specs.declared.State.{State}
use Rattle.notice_rows.specs.Rows.{is_pending, by_slot}

-- what holds of the current epoch's case where one is held, of the drained one's where one is held, and of
-- the other two, holds of the one that is taken
pub slotted :
    {A : Type 0} (P : A → Type 0) (s : State) (tag : ℕ) (a b c d : A)
    → (s.cur.some ≡ true → P a) → (s.drain.some ≡ true → P b) → P c → P d
    → P (by_slot s tag a b c d)
unfolding by_slot is_tag
slotted P s tag a b c d p q r t =
    by-test P (is_tag s.cur.some s.cur.ep.tag tag) _ _ (λ e. p (and_left _ _ e))
    (λ n. by-test P (is_tag s.drain.some s.drain.ep.tag tag) _ _ (λ e. q (and_left _ _ e))
    (λ m. of_choice P (is_pending s.cycle tag) c d r t))
