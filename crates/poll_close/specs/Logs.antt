-- The same on the log that the code writes, and that it holds what the lists say.
use Rattle.std.specs.Prelude.{ℕ, ◌≤◌, ◌+◌, Bool, not, ◌&&◌, ◌≡◌, length}
use Rattle.std.proofs.Math.Bool.{true, false}
use Rattle.std.proofs.Math.Path.{refl, sym, ap}
use Rattle.std.proofs.Common.{◌∙◌, arith}
use mathlib.Core.List.{List, [], ◌++◌}
use Rattle.std.proofs.Math.ListN.{length-append}
use Rattle.time.specs.Pick.{pick}
use Rattle.numbers.specs.Numbers.{teardown_opening_idle, teardown_counter_exhausted}
use Rattle.epoch.specs.declared.Epoch.{Epoch}
use Rattle.state.specs.declared.State.{State}
use Rattle.state.specs.declared.Given.{Given}
use Rattle.events.specs.Events.{Event, Teardown, Start}
use Rattle.events.specs.Log.{Log, at, logged}
use Rattle.events.specs.declared.Log.{Log as Told}
use Rattle.events.proofs.Laws.{logged-append}
use Rattle.events.specs.Queries.{any_of, offers, offered_in}
use Rattle.events.proofs.Laws.{offered-answer}
use Rattle.events.specs.Withdraw.{given, withdrawn}
use Rattle.answer.specs.Written.{over}
use Rattle.answer.proofs.Laws.{withdrawn-over}
use Rattle.start.specs.Start.{start_kind, called_for}
use Rattle.wake.specs.Wake.{exhausted}
use Rattle.retire.specs.Retire.{delegate_out}
use Rattle.retire.proofs.Most.{only-most, delegate_most}
use Rattle.poll_close.specs.Closing.{idle_now, tests_out, ends_now, start_out, offer_out, offering, going, waits_for, sealing, unsealed, closing}

-- what a function promises that changes a log: the log as a whole becomes what f makes of it
pub record Becomes (f : Log → Log) (l l' : Told) : Type 0 where
  pub log : at l'.len l'.words.now ≡ f (at l.len l.words.now)
  pub same_reference : l'.words.ghost_name ≡ l.words.ghost_name

-- the offer of an epoch, where the log holds none
unfoldable pub offer_log : Bool → Epoch → Bool → Log → Log
offer_log some e workers v = pick some (pick (offered_in v e.tag) v (logged v (delegate_out e workers))) v

-- the start and the offers
unfoldable pub go_log : State → Given → Bool → Log → Log
go_log s g ended v =
    pick ended v
    (offer_log s.drain.some s.drain.ep g.workers (offer_log s.cur.some s.cur.ep g.workers (logged v (start_out s g))))

-- all that follows the passes
unfoldable pub closed_log : State → Given → Bool → Log → Log
closed_log s g ended v =
    withdrawn (given s.cur.some s.cur.ep.tag) (given (waits_for s.cycle.kind s.cycle.pendi.wait) s.cycle.pendi.ep.tag)
    (go_log s g (ends_now s g.cfg ended) (logged v (tests_out s g.cfg ended)))

-- ---- how many events

pub tests-most : (s : State) (g : Given) (ended : Bool) → length (tests_out s g.cfg ended) ≤ 2
unfolding tests_out
tests-most s g ended =
    simp length-append
    (omega (arith, only-most (idle_now s ended) (Teardown teardown_opening_idle), only-most (exhausted s g.cfg) (Teardown teardown_counter_exhausted)))

pub start-most : (s : State) (g : Given) → length (start_out s g) ≤ 1
unfolding start_out
start-most s g = only-most (called_for s g.cfg g.profile g.now) (Start (start_kind s g.cfg g.profile g.now).at)

pub offer-most : (some : Bool) (e : Epoch) (workers : Bool) (told : List Event) → length (offer_out some e workers told) ≤ 1
unfolding offer_out
offer-most some e workers told = under (some && not (any_of (offers e.tag) told))
  where
    under : (b : Bool) → length (pick b (delegate_out e workers) []) ≤ 1
    under true = delegate_most e workers
    under false = omega arith

pub going-most : (s : State) (g : Given) (ended : Bool) (told : List Event) → length (going s g ended told) ≤ length told + 3
unfolding going
going-most s g true told = omega arith
going-most s g false told =
    simp length-append
    (omega (
      arith,
      start-most s g,
      offer-most s.cur.some s.cur.ep g.workers (told ++ start_out s g),
      offer-most s.drain.some s.drain.ep g.workers (offering s.cur.some s.cur.ep g.workers (told ++ start_out s g)),
    ))

-- two tests, a start and two offers
pub unsealed-most : (s : State) (g : Given) (ended : Bool) (told : List Event) → length (unsealed s g ended told) ≤ length told + 5
unsealed-most s g ended told =
    omega (arith, going-most s g (ends_now s g.cfg ended) (told ++ tests_out s g.cfg ended), length-append told (tests_out s g.cfg ended), tests-most s g ended)

-- ---- the log holds what the lists say

module _ (ws : List ℕ) (wide : length ws ≡ 768) where
  offer-told : (some : Bool) (e : Epoch) (workers : Bool) (told : List Event) → length told ≤ 96 → offer_log some e workers (logged (at 0 ws) told) ≡ logged (at 0 ws) (offering some e workers told)
  unfolding offer_log offer_out
  offer-told some e workers told h =
      ap (λ b. pick some (pick b (logged (at 0 ws) told) (logged (logged (at 0 ws) told) (delegate_out e workers))) (logged (at 0 ws) told)) (offered-answer ws told e.tag h wide)
      ∙ under some (any_of (offers e.tag) told)
    where
      none : logged (at 0 ws) told ≡ logged (at 0 ws) (told ++ [])
      none = sym (logged-append (at 0 ws) told [])

      under : (some old : Bool) → pick some (pick old (logged (at 0 ws) told) (logged (logged (at 0 ws) told) (delegate_out e workers))) (logged (at 0 ws) told) ≡ logged (at 0 ws) (told ++ pick (some && not old) (delegate_out e workers) [])
      under true true = none
      under true false = sym (logged-append (at 0 ws) told (delegate_out e workers))
      under false old = none

  go_told : (s : State) (g : Given) (ended : Bool) (told : List Event) → length told ≤ 90 → go_log s g ended (logged (at 0 ws) told) ≡ logged (at 0 ws) (going s g ended told)
  unfolding go_log going
  go_told s g true told h = refl
  go_told s g false told h =
      ap (λ v. offer_log s.drain.some s.drain.ep g.workers (offer_log s.cur.some s.cur.ep g.workers v)) (sym (logged-append (at 0 ws) told (start_out s g)))
      ∙ (ap (offer_log s.drain.some s.drain.ep g.workers) (offer-told s.cur.some s.cur.ep g.workers begun (omega (arith, room)))
      ∙ offer-told s.drain.some s.drain.ep g.workers (offering s.cur.some s.cur.ep g.workers begun)
      (simp length-append (omega (arith, start-most s g, h, offer-most s.cur.some s.cur.ep g.workers begun))))
    where
      begun : List Event
      begun = told ++ start_out s g

      room : length begun ≤ 91
      room = simp length-append (omega (arith, start-most s g, h))

  -- the events that stay are written over all of them
  pub closed-told : (s : State) (g : Given) (ended : Bool) (told : List Event) → length told ≤ 88 → closed_log s g ended (logged (at 0 ws) told) ≡ logged (at 0 (over (unsealed s g ended told) ws)) (closing s g ended told)
  unfolding closed_log closing sealing
  closed-told s g ended told h =
      ap (withdrawn (given s.cur.some s.cur.ep.tag) (given (waits_for s.cycle.kind s.cycle.pendi.wait) s.cycle.pendi.ep.tag))
      (ap (go_log s g (ends_now s g.cfg ended)) (sym (logged-append (at 0 ws) told (tests_out s g.cfg ended)))
      ∙ go_told s g (ends_now s g.cfg ended) (told ++ tests_out s g.cfg ended) (simp length-append (omega (arith, tests-most s g ended))))
      ∙ withdrawn-over (given s.cur.some s.cur.ep.tag) (given (waits_for s.cycle.kind s.cycle.pendi.wait) s.cycle.pendi.ep.tag) ws (unsealed s g ended told) (omega (arith, unsealed-most s g ended told)) wide
