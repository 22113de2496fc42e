use Rattle.std.proofs.Common.{◌≤◌, ◌+◌, length, map, take, set, arith, ap, sym, ◌∙◌, lt-ltb}
use Rattle.time.specs.Pick.{pick}
use Rattle.items.specs.Items.{insert}
use Rattle.items.specs.Arrays.{item_of, most, place_for}
use Rattle.items.proofs.Laws.{length-held, place-within, inserted}
use Rattle.items.proofs.Items.insert.Goals as goal

pub overflow_add-i : goal.overflow_add-i
overflow_add-i c =
    omega (arith, place-within c.args.item _ _ _ (omega (arith, c.self.invariant.0, c.self.invariant.1)) c.place-i.ensures, c.self.invariant.0)

pub copy_within-requires-clause-start_le_end : goal.copy_within-requires-clause-start_le_end
copy_within-requires-clause-start_le_end c =
    place-within c.args.item _ _ _ (omega (arith, c.self.invariant.0, c.self.invariant.1)) c.place-i.ensures

pub copy_within-requires-clause-dest_in_bounds : goal.copy_within-requires-clause-dest_in_bounds
copy_within-requires-clause-dest_in_bounds c =
    let h : c.place-i.result ≤ c.self.inside.len = place-within c.args.item _ _ _ (omega (arith, c.self.invariant.0, c.self.invariant.1)) c.place-i.ensures in
    omega (arith, c.self.invariant.1)

pub offset_bounds-self-inside-i : goal.offset_bounds-self-inside-i
offset_bounds-self-inside-i c =
    omega (arith, place-within c.args.item _ _ _ (omega (arith, c.self.invariant.0, c.self.invariant.1)) c.place-i.ensures, c.self.invariant.0)

pub bounds-self-inside-i : goal.bounds-self-inside-i
bounds-self-inside-i c =
    omega (arith, place-within c.args.item _ _ _ (omega (arith, c.self.invariant.0, c.self.invariant.1)) c.place-i.ensures, c.if-self-lt-MOST.true)

pub returns-then-self-lt-MOST : goal.returns-then-self-lt-MOST
returns-then-self-lt-MOST c =
    let held = length-held item_of c.self.inside.items c.args.self.now c.self.inside.len (omega (arith, c.self.invariant.0, c.self.invariant.1)) c.self.view_is in
    ap (λ l. map item_of (take (c.self.inside.len + 1) (set l c.place-i.result c.args.item))) c.copy_within.ensures.after
    ∙ (inserted c.self.inside.items c.args.self.now c.place-i.result c.self.inside.len c.args.item (omega (arith, c.if-self-lt-MOST.true, c.self.invariant.1)) c.self.view_is (c.place-i.ensures ∙ ap (place_for (item_of c.args.item)) c.self.view_is)
    ∙ sym (ap (λ b. pick b (insert (item_of c.args.item) c.args.self.now) c.args.self.now) (lt-ltb (length c.args.self.now) most (omega (arith, held, c.if-self-lt-MOST.true)))))
