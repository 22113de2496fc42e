-- What the requests are answered, by the definitions of the crates that they ask.
use Rattle.std.specs.Prelude.{ℕ, ◌-◌, Bool, cond, eqb, Option, Some, None, Result, Ok, Err}
use Rattle.time.specs.declared.When.{When}
use Rattle.time.specs.Time.{later_of, backoff_of}
use Rattle.time.specs.Options.{when_of}
use Rattle.ladder.specs.declared.Made.{Made}
use Rattle.ladder.specs.Schedule.{max_rungs, made_of, doubling_of, probes_of}
use Rattle.ladder.specs.Ladder.{next_at_of, due_of, take_of}
use Rattle.ladder.specs.Took.{Took, took_of}
use Rattle.settings.specs.declared.Check.{Check}
use Rattle.settings.specs.Settings.{place_of}
use Rattle.settings.specs.Checks.{check_place}
use Rattle.params.specs.declared.Params.{Params}
use Rattle.params.specs.Params.{msg1_span, with_hold_of, params_of}
use Rattle.leaves_requests.specs.declared.answers.Answer.{Answer}
use Rattle.leaves_requests.specs.declared.answers.Answer.TheVariants as answer
use Rattle.leaves_requests.specs.declared.requests.Request.{Request}
use Rattle.leaves_requests.specs.declared.requests.Request.TheVariants as request

-- what an answer says: a number, a schedule, a ladder's next instant with whether a rung is due and what taking leaves and tells, the
-- place of the check that settings fail (0 where they fail none), a hold, the values derived from settings, or that they are refused by
-- the check at a place
pub data Said : Type 0 where
  Number : (n : ℕ) → Said
  Schedule : (made : Made) → Said
  Step : (next_at : When) (due : Bool) (took : Took) → Said
  Place : (place : ℕ) → Said
  Hold : (hold : ℕ) → Said
  Derived : (params : Params) → Said
  Refused : (place : ℕ) → Said

abbrev pub failed_place : Option Check → ℕ
failed_place None = 0
failed_place (Some c) = check_place c

abbrev pub said : Result Answer Check → Said
said (Ok (answer.Number n)) = Number n
said (Ok (answer.Made made)) = Schedule made
said (Ok (answer.Step step)) = Step (when_of step.next_at) step.due (took_of step.left step.taken)
said (Ok (answer.Failed check)) = Place (failed_place check)
said (Ok (answer.Hold hold)) = Hold hold
said (Ok (answer.Derived params)) = Derived params
said (Err check) = Refused (check_place check)

-- where no check refuses the settings, what is asked of them
abbrev pub accepted_or : ℕ → Said → Said
accepted_or place a = cond (eqb place 0) a (Refused place)

-- what each request is answered
unfoldable pub answer_of : Request → Said
answer_of (request.Later t d) = Number (later_of t d)
answer_of (request.Since now t) = Number (now - t)
answer_of (request.Backoff exponent base cap) = Number (backoff_of exponent base cap)
answer_of (request.Span resends) = Number (msg1_span resends)
answer_of (request.Doubling first count end) = Schedule (made_of max_rungs (doubling_of max_rungs first count (when_of end)))
answer_of (request.Probes first count end gap) = Schedule (made_of max_rungs (probes_of max_rungs first count end gap))
answer_of (request.Take ladder now) = Step (next_at_of ladder) (due_of ladder now) (take_of ladder now)
answer_of (request.Check cfg) = Place (place_of cfg)
answer_of (request.Hold silence cfg) = Hold (with_hold_of cfg silence).hold
answer_of (request.Wait abandons cfg) = accepted_or (place_of cfg) (Number (backoff_of (abandons - 1) cfg.check cfg.hold))
answer_of (request.Params cfg) = accepted_or (place_of cfg) (Derived (params_of cfg))
