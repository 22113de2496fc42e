-- A law of the dispatch, for the kinds that are no case.
use Rattle.std.specs.Prelude.{ℕ, min, ◌≤◌, ◌<◌, ◌≡◌, refl, Bool, true, false, ℤ, ltb}
use Rattle.std.proofs.Common.{sym, ◌∙◌, ap, arith, le-ltb, ltb-true, ltb-false, ne_eqb}
use Rattle.numbers.specs.Numbers.{item_fin, item_elicit, item_confirm, item_delay_end, item_resend, item_expire}
use Rattle.state.specs.declared.State.{State}
use Rattle.state.specs.declared.Given.{Given}
use Rattle.poll_item.specs.Item.{low_step, high_step, other_step}

module _ (s : State) (g : Given) (spread : ℤ) (n key : ℕ) where
  -- a kind past the last runs the row of the last
  pub other_past : other_step s g spread (min n item_expire) key ≡ other_step s g spread n key
  unfolding other_step low_step high_step
  other_past = under (ltb n item_expire) refl
    where
      under : (q : Bool) → ltb n item_expire ≡ q → other_step s g spread (min n item_expire) key ≡ other_step s g spread n key
      under true p =
          let h : n < 11 = ltb-true n item_expire p in
          let m : min n item_expire ≡ n = omega arith in
          ap (λ k. other_step s g spread k key) m
      under false p =
          let h : 11 ≤ n = ltb-false n item_expire p in
          let m : min n item_expire ≡ 11 = omega arith in
          ap (λ k. other_step s g spread k key) m
          ∙ sym (rw (le-ltb n item_fin (omega arith), ne_eqb n item_fin (λ e. omega arith), ne_eqb n item_elicit (λ e. omega arith), ne_eqb n item_confirm (λ e. omega arith), ne_eqb n item_delay_end (λ e. omega arith), ne_eqb n item_resend (λ e. omega arith)) refl)
