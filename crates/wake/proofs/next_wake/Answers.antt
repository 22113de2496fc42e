use Rattle.std.proofs.Common.{◌∙◌, ap, ◌++◌}
use Rattle.time.specs.Options.{when_of}
use Rattle.candidates.specs.Held.{earliest_of}
use Rattle.state.specs.Parts.{listed}
use Rattle.start.specs.Start.{instants, start_at}
use Rattle.wake.specs.Wake.{exhausted, stored_instants, wake_instants, wake_of}
use Rattle.wake.proofs.Parts.{some_listed, sooner_named, least_named}
use Rattle.wake.proofs.next_wake.Goals as goal

pub returns : goal.returns
unfolding wake_of wake_instants
returns c =
    let s = c.args.s.now in
    let start = instants (start_at s c.args.cfg.now c.args.p) in
    let hard = listed (exhausted s c.args.cfg.now) s.cur.ep.started in
    sooner_named _ _ _ (stored_instants s) (start ++ hard) c.sooner-2.ensures c.stored_next.ensures
    (sooner_named _ _ _ start hard c.sooner.ensures (least_named _ _ (ap instants c.at-start.ensures))
    (ap when_of c.then_some-hard.ensures ∙ (some_listed _ _ ∙ ap (λ b. earliest_of (listed b s.cur.ep.started)) c.exhausted.ensures)))
