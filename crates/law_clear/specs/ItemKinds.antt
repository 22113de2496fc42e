-- The kinds of the items that a pass lists: each is one of the twelve. An item holds its kind as a number; `From<u64> for
-- Kind` of numbers makes a case of it, and of a number of the twelve the case of that number. Where such an item is put
-- into a list of such items `each-insert` says that the list stays one.
use Rattle.std.specs.Prelude.{ℕ, true, ◌≤◌, ◌≡◌, List, eqb}
use Rattle.std.proofs.Math.Bool.{false≢true}
use Rattle.std.proofs.Common.{⊎_elim, arith, eqb-true}
use Rattle.numbers.specs.Numbers.{item_drain, item_candidate, item_unadopted, item_held, item_probe, item_delayed, item_fin, item_elicit, item_confirm, item_delay_end, item_resend, item_expire}
use Rattle.items.specs.Items.{Item}
use Rattle.state.specs.declared.State.{State}
use Rattle.poll_listing.specs.Listing.{pass_items}
use Rattle.law_exact.specs.Reads.{Each}
use Rattle.law_clear.specs.Due.{due_at}
use Rattle.law_clear.specs.Lists.{each_map}
use Rattle.law_clear.specs.Named.{Told, listed-told, picked}

-- the kind is one of the twelve, whose numbers are 0 to that of Expire
abbrev pub Known : Item → Type 0
Known i = i.kind ≤ item_expire

within : (k j : ℕ) → j ≤ item_expire → eqb k j ≡ true → k ≤ item_expire
within k j h e = let q : k ≡ j = eqb-true k j e in omega arith

due-known : (now : ℕ) (s : State) (k x : ℕ) → due_at now s k x ≡ true → k ≤ item_expire
unfolding due_at
due-known now s k x d =
    picked (eqb k item_drain) d (λ q e. within k item_drain (omega arith) q)
    (λ _ d. picked (eqb k item_candidate) d (λ q e. within k item_candidate (omega arith) q)
    (λ _ d. picked (eqb k item_fin) d (λ q e. within k item_fin (omega arith) q)
    (λ _ d. picked (eqb k item_elicit) d (λ q e. within k item_elicit (omega arith) q)
    (λ _ d. picked (eqb k item_unadopted) d (λ q e. within k item_unadopted (omega arith) q)
    (λ _ d. picked (eqb k item_held) d (λ q e. within k item_held (omega arith) q)
    (λ _ d. picked (eqb k item_probe) d (λ q e. within k item_probe (omega arith) q)
    (λ _ d. picked (eqb k item_delayed) d (λ q e. within k item_delayed (omega arith) q)
    (λ _ d. picked (eqb k item_confirm) d (λ q e. within k item_confirm (omega arith) q)
    (λ _ d. picked (eqb k item_delay_end) d (λ q e. within k item_delay_end (omega arith) q)
    (λ _ d. picked (eqb k item_resend) d (λ q e. within k item_resend (omega arith) q)
    (λ _ d. picked (eqb k item_expire) d (λ q e. within k item_expire (omega arith) q)
    (λ _ d. absurd (false≢true d)))))))))))))

told-known : (now : ℕ) (s : State) (i : Item) → Told now s i.kind i.key → Known i
told-known now s i t =
    ⊎_elim (λ e. due-known now s i.kind i.key e) (λ p. let q : i.kind ≡ item_resend = p.0 in omega arith) t

-- each item that a pass collects, whatever earlier passes listed
pub pass-known : (done : List Item) (s : State) (now : ℕ) → Each Known (pass_items done s now)
pass-known done s now = each_map (λ i. Told now s i.kind i.key) Known (told-known now s) (pass_items done s now) (listed-told now s done)
