use Rattle.std.proofs.Common.{◌≡◌, ◌+◌, refl, sym, ◌∙◌, ap, ap₂, map, take, drop, get_or, arith}
use Rattle.std.proofs.Math.Seq.{slice}
use Rattle.std.proofs.lemmas.List.{drop_more, drop_all}
use Rattle.time.specs.Lists.{fold}
use Rattle.time.specs.Time.{at}
use Rattle.time.proofs.Std.{max_most}
use Rattle.ladder.specs.Schedule.{max_rungs, made_of, doubling_of, filled, held_of, keepalives, send}
use Rattle.ladder.specs.Laws.{Fresh}
use Rattle.ladder.specs.Fill.{put_of, none_yet}
use Rattle.ladder.proofs.Rungs.{offsets-laid}
use Rattle.ladder.proofs.Laws.{fresh-put, fresh-all, filled-step, filled-end, probes-all, plan-most}
use Rattle.ladder.proofs.Schedule.probes.Goals as goal

pub loop-at-init : goal.loop-at-init
unfolding Fresh
loop-at-init c = (omega arith, refl)

pub fill-made-requires-clause-fresh : goal.fill-made-requires-clause-fresh
fill-made-requires-clause-fresh c = c.loop-at.invariant.0

pub put-made-requires : goal.put-made-requires
put-made-requires c = rw c.fill-made.ensures (fresh-all max_rungs c.loop-at.made _ c.loop-at.invariant.0)

pub loop-at-preserved : goal.loop-at-preserved
loop-at-preserved c =
    let sends = take c.rungs-n.result c.doubling-d.result.sched.at in
    let t = get_or sends c.loop-at.at-index 0 in
    let made : c.put-made.result ≡ put_of max_rungs (fold (put_of max_rungs) c.loop-at.made (keepalives c.max-g.result c.loop-at.last t)) (send t) = c.put-made.ensures ∙ ap (λ m. put_of max_rungs m (send t)) c.fill-made.ensures in (
      rw made (fresh-put max_rungs _ (send t) (fresh-all max_rungs c.loop-at.made (keepalives c.max-g.result c.loop-at.last t) c.loop-at.invariant.0)),
      c.loop-at.invariant.1
          ∙ (ap (λ v. fold (put_of max_rungs) c.loop-at.made (filled c.max-g.result c.args.end c.loop-at.last v)) (drop_more sends c.loop-at.at-index 0 c.loop-at-test.true)
          ∙ (filled-step max_rungs c.max-g.result c.args.end c.loop-at.last t (drop (c.loop-at.at-index + 1) sends) c.loop-at.made
          ∙ ap (λ m. fold (put_of max_rungs) m (filled c.max-g.result c.args.end t (drop (c.loop-at.at-index + 1) sends))) (sym made))),
    )

pub fill-requires-clause-fresh : goal.fill-requires-clause-fresh
fill-requires-clause-fresh c = c.loop-at.invariant.0

pub returns : goal.returns
unfolding made_of
returns c =
    let sends = take c.rungs-n.result c.doubling-d.result.sched.at in
    let plan = doubling_of max_rungs c.args.first c.args.count (at c.args.end) in
    let bounds = plan-most max_rungs c.args.first c.args.count (at c.args.end) in
    let made : c.doubling-d.result ≡ made_of max_rungs plan = c.doubling-d.ensures in
    let offsets : sends ≡ map (λ r. r.offset) plan.rungs = ap (λ k. take k c.doubling-d.result.sched.at) c.rungs-n.ensures.value ∙ (ap (λ m. slice 0 (held_of max_rungs m.sched) m.sched.at) made ∙ offsets-laid max_rungs plan.rungs bounds.0) in
    c.fill.ensures
    ∙ (ap (fold (put_of max_rungs) c.loop-at.made) (sym (filled-end c.max-g.result c.args.end c.loop-at.last))
    ∙ (ap (λ v. fold (put_of max_rungs) c.loop-at.made (filled c.max-g.result c.args.end c.loop-at.last v)) (sym (drop_all c.loop-at.at-index sends c.loop-at-test.false))
    ∙ (sym c.loop-at.invariant.1
    ∙ (ap₂ (λ k v. fold (put_of max_rungs) (none_yet k) (filled c.max-g.result c.args.end 0 v)) (ap (λ m. m.dropped) made) offsets
    ∙ (ap (λ k. fold (put_of max_rungs) (none_yet plan.dropped) (filled k c.args.end 0 (map (λ r. r.offset) plan.rungs))) (c.max-g.ensures ∙ max_most c.args.gap 1)
    ∙ probes-all c.args.first c.args.count c.args.end c.args.gap bounds.1)))))
