use Prim.Native.Nat.{◌+◌}
use mathlib.Core.Path.{sym, ◌∙◌, ap}
use native.Mathlib.Nat.{zero-add, add-zero}
use native.Mathlib.Omega.{arith}
use borrow.Author.Rules.{rules}
use borrow.Author.Tests.{lt-ltb, le-ltb}
use lib.ListN.{length, length-set}
use Rattle.candidates.specs.Places.{moved}
use Rattle.candidates.proofs.Places.{moved-done, moved_all, keeping_in, keeping-out, keeping-end, keeping_all, packed_in}
use Rattle.candidates.proofs.pack.Invariants.{test}
use Rattle.candidates.proofs.pack.Goals as goal
use Rattle.candidates.proofs.pack.Goals.{then-t-born, else-t-born}

pub loop-i-init : goal.loop-i-init
loop-i-init c =
    let e = keeping_all (test c.args.t c.args.born.now) c.args.n in
    (search rules, search rules, sym (zero-add _ ∙ ap length e), sym (ap (λ ps. moved 0 ps c.args.a.now) e ∙ moved_all _ _))

pub loop-i-preserved : goal.loop-i-preserved
loop-i-preserved c =
    let t = test c.args.t c.args.born.now in
    elim c.if-t-born.branch [
      | then-t-born w ↦
          let e = lt-ltb _ _ w.if-t-born.true in
          (rw w.w-is (omega arith), rw w.a-is (simp length-set c.loop-i.invariant.1), rw w.w-is (c.loop-i.invariant.2 ∙ (ap (λ ps. c.loop-i.w + length ps) (keeping_in t c.loop-i.i c.args.n c.loop-i-test.true e) ∙ omega arith)), rw (w.a-is, w.w-is) (c.loop-i.invariant.3 ∙ packed_in t c.loop-i.i c.args.n c.loop-i.w c.loop-i.a c.loop-i-test.true c.loop-i.invariant.0 (omega arith) e))
      | else-t-born w ↦
          let e = le-ltb _ _ w.if-t-born.false in
          (rw w.w-is (omega arith), rw w.a-is c.loop-i.invariant.1, rw w.w-is (c.loop-i.invariant.2 ∙ ap (λ ps. c.loop-i.w + length ps) (keeping-out t c.loop-i.i c.args.n c.loop-i-test.true e)), rw (w.a-is, w.w-is) (c.loop-i.invariant.3 ∙ ap (λ ps. moved c.loop-i.w ps c.loop-i.a) (keeping-out t c.loop-i.i c.args.n c.loop-i-test.true e)))
    ]

pub returns : goal.returns
returns c =
    let e = keeping-end (test c.args.t c.args.born.now) c.loop-i.i c.args.n c.loop-i-test.false in
    (sym (c.loop-i.invariant.2 ∙ (ap (λ ps. c.loop-i.w + length ps) e ∙ add-zero c.loop-i.w)), sym (c.loop-i.invariant.3 ∙ (ap (λ ps. moved c.loop-i.w ps c.loop-i.a) e ∙ moved-done c.loop-i.w c.loop-i.a)))
