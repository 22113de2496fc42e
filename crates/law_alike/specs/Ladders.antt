-- Ladders with the same view: their next instants, and what taking rungs leaves.
use Rattle.std.specs.Prelude.{ℕ, true, ◌≡◌}
use Rattle.std.proofs.Common.{ap}
use Rattle.ladder.specs.declared.Ladder.{Ladder}
use Rattle.ladder.specs.Took.{Took}
use Rattle.ladder.specs.Ladder.{remaining, next_at_of, due_rungs, take_of}
use Rattle.epoch.specs.declared.Final.{Final}
use Rattle.epoch.specs.declared.MayLadder.{MayLadder}
use Rattle.state.specs.Stands.{ladder_view, FinalView, final_view, may_ladder_view}
use Rattle.law_alike.specs.Optional.{Same, flags, behind}
use Rattle.law_alike.specs.Parts.{ladder_fields}

pub record AlikeTook (a b : Took) : Type 0 where
  pub ladder : Same ladder_view a.ladder b.ladder
  pub any : a.any ≡ b.any
  pub taken : a.taken ≡ b.taken
  pub send : a.send ≡ b.send
  pub latest : a.latest ≡ b.latest
  pub last : a.last ≡ b.last

module _ {l m : Ladder} (e : Same ladder_view l m) where
  pub next-alike : next_at_of l ≡ next_at_of m
  unfolding next_at_of remaining
  next-alike = let h = ladder_fields e in rw (h.origin, h.rungs, h.next)

  pub take-alike : (now : ℕ) → AlikeTook (take_of l now) (take_of m now)
  unfolding take_of due_rungs remaining ladder_view
  take-alike now =
      let h = ladder_fields e in
      record {
        ladder = record { eq = rw (h.origin, h.rungs, h.next, h.len) };
        any = rw (h.origin, h.rungs, h.next);
        taken = rw (h.origin, h.rungs, h.next);
        send = rw (h.origin, h.rungs, h.next);
        latest = rw (h.origin, h.rungs, h.next);
        last = rw (h.origin, h.rungs, h.next, h.len);
      }

-- ---- a final message and a ladder that may be absent

module _ {f g : Final} (e : Same final_view f g) where
  pub fin-some : f.some ≡ g.some
  fin-some = flags f.some g.some _ _ e.eq

  pub fin-msg : f.some ≡ true → f.msg ≡ g.msg
  fin-msg q = ap (λ (v : FinalView). v.msg) (behind f.some g.some _ _ e.eq q)

  pub fin-ladder : f.some ≡ true → Same ladder_view f.ladder g.ladder
  fin-ladder q = record { eq = ap (λ (v : FinalView). v.ladder) (behind f.some g.some _ _ e.eq q) }

module _ {f g : MayLadder} (e : Same may_ladder_view f g) where
  pub may-some : f.some ≡ g.some
  may-some = flags f.some g.some _ _ e.eq

  pub may-ladder : f.some ≡ true → Same ladder_view f.ladder g.ladder
  may-ladder q = record { eq = behind f.some g.some _ _ e.eq q }
