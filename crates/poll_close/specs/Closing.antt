-- What a poll tells after its passes: "Then come the teardown tests, the start and the offers, after
-- an empty first pass too."
use Rattle.std.specs.Prelude.{ℕ, Bool, not, ◌&&◌, ◌||◌, List, [], ◌++◌}
use Rattle.time.specs.Pick.{pick}
use Rattle.time.specs.Lists.{kept}
use Rattle.settings.specs.declared.Config.{Config}
use Rattle.numbers.specs.Numbers.{teardown_opening_idle, teardown_counter_exhausted}
use Rattle.epoch.specs.declared.Epoch.{Epoch}
use Rattle.cycle.specs.Kind.{is_pend_i, waits_evidence}
use Rattle.state.specs.declared.State.{State}
use Rattle.state.specs.declared.Given.{Given}
use Rattle.events.specs.Events.{Event, Teardown, Start}
use Rattle.events.specs.Queries.{any_of, offers}
use Rattle.events.specs.Withdraw.{given, stays}
use Rattle.start.specs.Start.{start_kind, called_for}
use Rattle.wake.specs.Wake.{exhausted}
use Rattle.wake.specs.Quiet.{opening_idle}
use Rattle.retire.specs.Retire.{only, delegate_out}

-- ---- the teardown tests

-- OpeningIdle, tested unless a pass ended the link
unfoldable pub idle_now : State → Bool → Bool
idle_now s ended = not ended && opening_idle s

-- OpeningIdle, and CounterExhausted, which is tested after an ended pass too
unfoldable pub tests_out : State → Config → Bool → List Event
tests_out s cfg ended = only (idle_now s ended) (Teardown teardown_opening_idle) ++ only (exhausted s cfg) (Teardown teardown_counter_exhausted)

-- a pass or a test ended the link
unfoldable pub ends_now : State → Config → Bool → Bool
ends_now s cfg ended = (ended || idle_now s ended) || exhausted s cfg

-- ---- the start and the offers

-- START (kind), while a start is called for
unfoldable pub start_out : State → Given → List Event
start_out s g = only (called_for s g.cfg g.profile g.now) (Start (start_kind s g.cfg g.profile g.now).at)

-- the offer of an epoch that is held, where no earlier event of the answer made it
unfoldable pub offer_out : Bool → Epoch → Bool → List Event → List Event
offer_out some e workers told = pick (some && not (any_of (offers e.tag) told)) (delegate_out e workers) []

-- told events, and then the offer of an epoch
abbrev pub offering : Bool → Epoch → Bool → List Event → List Event
offering some e workers told = told ++ offer_out some e workers told

-- told events, the start, and the offers of the current and the drained epoch; none after the end
unfoldable pub going : State → Given → Bool → List Event → List Event
going s g ended told =
    pick ended told
    (offering s.drain.some s.drain.ep g.workers
    (offering s.cur.some s.cur.ep g.workers (told ++ start_out s g)))

-- ---- the prompts that stay

-- the pending epoch of a completed own attempt waits for evidence
unfoldable pub waits_for : ℕ → ℕ → Bool
waits_for kind wait = is_pend_i kind && waits_evidence wait

-- "Whether `seal_prompt` accepts" a prompt: it names the current epoch, or that pending one
unfoldable pub sealing : State → List Event → List Event
sealing s = kept (stays (given s.cur.some s.cur.ep.tag) (given (waits_for s.cycle.kind s.cycle.pendi.wait) s.cycle.pendi.ep.tag))

-- what the passes told, the tests, the start and the offers, with every prompt still there
abbrev pub unsealed : State → Given → Bool → List Event → List Event
unsealed s g ended told = going s g (ends_now s g.cfg ended) (told ++ tests_out s g.cfg ended)

-- all of it, after what the passes told
unfoldable pub closing : State → Given → Bool → List Event → List Event
closing s g ended told = sealing s (unsealed s g ended told)
