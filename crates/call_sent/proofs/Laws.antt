-- Laws of a told sent count.
use Prim.Native.Nat.{ℕ, zero, suc}
use Rattle.std.specs.Prelude.{Bool, ◌&&◌, ◌≡◌, eqb}
use Rattle.std.proofs.Math.Bool.{true, false}
use Rattle.std.proofs.Math.Path.{refl, ap}
use Rattle.std.proofs.Common.{◌∙◌, arith, le-ltb, ne_eqb}
use mathlib.Core.List.{[], ◌∷◌, ◌++◌}
use Rattle.time.specs.Pick.{pick, of_choice}
use Rattle.numbers.specs.Numbers.{refused_sent}
use Rattle.epoch.specs.declared.Epoch.{Epoch}
use Rattle.epoch.specs.Put.{put_ep}
use Rattle.state.specs.declared.State.{State}
use Rattle.state.specs.Parts.{put_cur, epochs_of, epoch_ladders, all_ladders, ladders_of}
use Rattle.refusal.specs.Refused.{Refused}
use Rattle.refusal.specs.Refusal.{epochs_bad, cands_bad, numbers_bad, ladders_bad, numbered, first, by, state_tests, state_back}
use Rattle.answer.specs.Outcome.{done}
use Rattle.answer.proofs.Laws.{by-either, by-refused}
use Rattle.call_sent.specs.Told.{put_sent, below_held, told_tests, told_number, told_state, told_of}

module _ (s : State) where
  -- 3 to 6 come first
  pub told-number : (count : ℕ) → told_number s count ≡ pick (eqb (state_back s) 0) (pick (below_held s.cur.some s.cur.ep.sent count) refused_sent 0) (state_back s)
  unfolding told_number told_tests state_back state_tests first
  told-number count =
      under (cands_bad s) (epochs_bad s) (numbers_bad s) (ladders_bad s) (below_held s.cur.some s.cur.ep.sent count)
    where
      under : (a b c d e : Bool) → (first ((by 3 a ∷ by 4 b ∷ by 5 c ∷ by 6 d ∷ []) ++ by 11 e ∷ [])).number ≡ pick (eqb (first (by 3 a ∷ by 4 b ∷ by 5 c ∷ by 6 d ∷ [])).number 0) (pick e 11 0) (first (by 3 a ∷ by 4 b ∷ by 5 c ∷ by 6 d ∷ [])).number
      under true b c d e = refl
      under false true c d e = refl
      under false false true d e = refl
      under false false false true e = refl
      under false false false false true = refl
      under false false false false false = refl

  -- no place is given with a number
  pub told-first : (count : ℕ) → first (told_tests s count) ≡ numbered (told_number s count)
  unfolding told_number told_tests state_tests first
  told-first count =
      under (cands_bad s) (epochs_bad s) (numbers_bad s) (ladders_bad s) (below_held s.cur.some s.cur.ep.sent count)
    where
      under : (a b c d e : Bool) → first ((by 3 a ∷ by 4 b ∷ by 5 c ∷ by 6 d ∷ []) ++ by 11 e ∷ []) ≡ numbered (first ((by 3 a ∷ by 4 b ∷ by 5 c ∷ by 6 d ∷ []) ++ by 11 e ∷ [])).number
      under true b c d e = refl
      under false true c d e = refl
      under false false true d e = refl
      under false false false true e = refl
      under false false false false true = refl
      under false false false false false = refl

  not_below : below_held s.cur.some s.cur.ep.sent s.cur.ep.sent ≡ false
  unfolding below_held
  not_below = both s.cur.some (le-ltb s.cur.ep.sent s.cur.ep.sent (omega arith))
    where
      both : (b : Bool) {x : Bool} → x ≡ false → b && x ≡ false
      both true e = e
      both false e = refl

  -- a count equal to the held one is refused by 3 to 6 alone, and changes nothing
  pub told-equal : ((told_of s s.cur.ep.sent).number ≡ state_back s) × ((told_of s s.cur.ep.sent).state ≡ s)
  unfolding told_of told_state
  told-equal =
      let count = s.cur.ep.sent in
      let r = numbered (told_number s count) in
      let o = done (pick s.cur.some (put_cur s (put_ep s.cur (put_sent s.cur.ep count))) s) [] in (
        ap (λ (q : Refused). q.number) (by-refused r s o refl refl (λ z. refl)) ∙ number,
        by-either r s o (λ x. x.state ≡ s) refl (of_choice (λ x. x ≡ s) s.cur.some (put_cur s (put_ep s.cur (put_sent s.cur.ep count))) s refl refl),
      )
    where
      same : (n : ℕ) → pick (eqb n 0) 0 n ≡ n
      same zero = refl
      same (suc n) = rw (ne_eqb (suc n) 0 (λ e. absurd (omega arith)))

      number : told_number s s.cur.ep.sent ≡ state_back s
      number =
          told-number s.cur.ep.sent
          ∙ (ap (λ b. pick (eqb (state_back s) 0) (pick b 11 0) (state_back s)) not_below
          ∙ same (state_back s))

  -- without a current epoch nothing changes
  pub told-absent : (count : ℕ) → s.cur.some ≡ false → (told_of s count).state ≡ s
  unfolding told_of told_state
  told-absent count e =
      by-either (numbered (told_number s count)) s (done (pick s.cur.some (put_cur s (put_ep s.cur (put_sent s.cur.ep count))) s) []) (λ o. o.state ≡ s) refl
      (ap (λ b. pick b (put_cur s (put_ep s.cur (put_sent s.cur.ep count))) s) e)

  -- no test of 3 to 6 reads the sent count
  unread : (count : ℕ) (some : Bool) (e : Epoch) → state_back (put_cur s (record { some = some; ep = put_sent e count })) ≡ state_back (put_cur s (record { some = some; ep = e }))
  unfolding state_back state_tests numbers_bad ladders_bad epochs_of all_ladders ladders_of epoch_ladders
  unread count true e = refl
  unread count false e = refl

  -- a told count keeps an accepted state accepted
  pub told-accepted : (count : ℕ) → state_back (told_of s count).state ≡ state_back s
  unfolding told_of told_state
  told-accepted count =
      by-either (numbered (told_number s count)) s (done (pick s.cur.some (put_cur s (put_ep s.cur (put_sent s.cur.ep count))) s) []) (λ o. state_back o.state ≡ state_back s) refl
      (under s.cur.some)
    where
      under : (some : Bool) → state_back (pick some (put_cur s (record { some = s.cur.some; ep = put_sent s.cur.ep count })) s) ≡ state_back s
      under true = unread count s.cur.some s.cur.ep
      under false = refl
