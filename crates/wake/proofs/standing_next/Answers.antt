use Rattle.std.proofs.Common.{◌∙◌, ap, ◌++◌}
use Rattle.time.specs.Options.{when_of}
use Rattle.candidates.specs.Held.{firsts}
use Rattle.state.specs.Parts.{listed}
use Rattle.wake.specs.Due.{current_instants, standing}
use Rattle.wake.proofs.Parts.{some_listed, sooner_named}
use Rattle.wake.proofs.standing_next.Goals as goal

pub returns : goal.returns
unfolding standing
returns c = λ l e.
    let s = c.args.s.now in
    sooner_named _ _ _ (listed s.drain.some s.drain.deadline) (firsts s.cands.len s.cands.deadline ++ (l ++ current_instants s.cur)) c.sooner-2.ensures (ap when_of c.then_some-drain.ensures ∙ some_listed _ _)
    (sooner_named _ _ _ (firsts s.cands.len s.cands.deadline) (l ++ current_instants s.cur) c.sooner.ensures c.earliest.ensures
    (sooner_named _ _ _ l (current_instants s.cur) c.sooner-rest.ensures e c.current_next.ensures))
