use borrow.Author.Rules.{rules}
use native.Mathlib.Omega.{arith}
use Prim.Native.Nat.{◌≤◌, ◌<◌, ◌-◌, ◌+◌, ◌*◌, ◌/◌}
use mathlib.Core.Path.{◌≡◌, refl, sym, ◌∙◌, ap}
use mathlib.Core.List.{◌∷◌, map}
use mathlib.Core.Logic.{◌⊎◌, inl, inr, ⊎_elim}
use native.Mathlib.Nat.{sub-zero, le-div_iff_mul-le}
use lib.ListN.{length, length-map}
use Rattle.time.specs.Lists.{fold, range, range-more, length-range}
use Rattle.time.specs.Laws.{decide}
use Rattle.ladder.specs.Schedule.{max_rungs, keepalive, keepalives}
use Rattle.ladder.proofs.Laws.{fresh-put, put-len, rest-counted}
use Rattle.ladder.specs.Fill.{put_of, losing}
use Rattle.ladder.proofs.Made.fill.Goals as goal

-- a keepalive that is put lies before next
within : (c : goal.In-loop-i) → (c.loop-i.i + 1) * c.args.gap ≤ c.between.result
within c =
    let q : c.loop-i.i + 1 ≤ c.between.result / c.args.gap = omega (arith, c.loop-i-test.true, c.min-n.ensures) in
    (le-div_iff_mul-le {k = c.args.gap} {x = c.loop-i.i + 1} {y = c.between.result} c.requires.gap_nonzero).0 q

pub loop-i-init : goal.loop-i-init
loop-i-init c = (search rules, (c.requires.fresh, (refl, (omega arith, simp sub-zero))))

pub overflow_add-i : goal.overflow_add-i
overflow_add-i c = omega arith

pub overflow_mul-i : goal.overflow_mul-i
overflow_mul-i c =
    record { fits = omega (arith, within c, c.between.ensures, c.ranges.next) }

pub overflow_add-last : goal.overflow_add-last
overflow_add-last c =
    record { fits = omega (arith, within c, c.between.ensures, c.ranges.next, c.ranges.last) }

pub put-made-requires : goal.put-made-requires
put-made-requires c = c.loop-i.invariant.1.0

pub loop-i-smaller : goal.loop-i-smaller
loop-i-smaller c = omega arith

pub loop-i-preserved : goal.loop-i-preserved
unfolding fold
loop-i-preserved c =
    let all = c.between.result / c.args.gap in
    let r = keepalive (c.args.last + (c.loop-i.i + 1) * c.args.gap) in
    let has : c.loop-i.made.sched.len < max_rungs = omega (arith, c.loop-i-test.true, c.min-n.ensures, c.saturating_sub-room.ensures, c.loop-i.invariant.1.1.1.0) in
    let less : 0 < all - c.loop-i.i = omega (arith, c.loop-i-test.true, c.min-n.ensures) in
    let k : all - c.loop-i.i - 1 ≡ all - (c.loop-i.i + 1) = omega arith in
    let grown = put-len max_rungs c.loop-i.made r has in (
      omega arith,
      (
        rw c.put-made.ensures (fresh-put max_rungs c.loop-i.made r c.loop-i.invariant.1.0),
        (
          ap (λ v. v.dropped) c.put-made.ensures ∙ (grown.1 ∙ c.loop-i.invariant.1.1.0),
          (
            ap (λ v. v.sched.len) c.put-made.ensures ∙ (grown.0 ∙ omega (arith, c.loop-i.invariant.1.1.1.0)),
            c.loop-i.invariant.1.1.1.1
                ∙ (ap (λ l. fold (put_of max_rungs) c.loop-i.made (map (λ n. keepalive (c.args.last + n * c.args.gap)) l)) (range-more (c.loop-i.i + 1) (all - c.loop-i.i) less ∙ ap (λ n. (c.loop-i.i + 1) ∷ range (c.loop-i.i + 1 + 1) n) k)
                ∙ ap (λ v. fold (put_of max_rungs) v (map (λ n. keepalive (c.args.last + n * c.args.gap)) (range (c.loop-i.i + 1 + 1) (all - (c.loop-i.i + 1))))) (sym c.put-made.ensures)),
          ),
        ),
      ),
    )

pub overflow_sub-all : goal.overflow_sub-all
overflow_sub-all c =
    omega (arith, c.min-n.ensures)

pub returns : goal.returns
unfolding keepalives
returns c =
    let all = c.between.result / c.args.gap in
    let rest = map (λ k. keepalive (c.args.last + k * c.args.gap)) (range (c.loop-i.i + 1) (all - c.loop-i.i)) in
    let same : c.loop-i.i ≡ c.min-n.result = omega (arith, c.loop-i-test.false, c.loop-i.invariant.0) in
    let small : c.loop-i.made.dropped ≤ 255 = omega (arith, c.loop-i.invariant.1.1.0, c.well_formed) in
    let long : length rest ≡ all - c.min-n.result = length-map (range (c.loop-i.i + 1) (all - c.loop-i.i)) (λ k. keepalive (c.args.last + k * c.args.gap)) ∙ (length-range (c.loop-i.i + 1) (all - c.loop-i.i) ∙ ap (λ k. all - k) same) in
    let done : (length rest ≡ 0) ⊎ (max_rungs ≤ c.loop-i.made.sched.len) = ⊎_elim (λ h. inl (omega (arith, long, c.min-n.ensures))) (λ h. inr (omega (arith, same, c.min-n.ensures, c.saturating_sub-room.ensures, c.loop-i.invariant.1.1.1.0))) (decide all c.saturating_sub-room.result) in
    let whole : all ≡ (c.args.next - c.args.last - 1) / c.args.gap = ap (λ k. k / c.args.gap) c.between.ensures in
    c.lose.ensures
    ∙ (ap (losing c.loop-i.made) (sym long)
    ∙ (sym (rest-counted max_rungs c.loop-i.made rest small done)
    ∙ (sym c.loop-i.invariant.1.1.1.1
    ∙ ap (λ k. fold (put_of max_rungs) c.args.self (map (λ k. keepalive (c.args.last + k * c.args.gap)) (range 1 k))) whole)))
