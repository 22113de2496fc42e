-- A start reply's number in document 01's words: accepted exactly where 1 to 6 and 10 pass, and each
-- number exactly where its sentence is the first to hold.
use Rattle.std.specs.Prelude.{ℕ, ◌≤◌, ◌<◌, true, false, ◌↔◌, ◌⊎◌, ◌≡◌}
use mathlib.Core.List.{[]}
use Rattle.settings.specs.declared.Config.{Config}
use Rattle.numbers.specs.Numbers.{refused_no_start}
use Rattle.state.specs.declared.State.{State}
use Rattle.state.specs.declared.Profile.{Profile}
use Rattle.start.specs.Start.{start_kind}
use Rattle.answer.specs.Outcome.{Outcome}
use Rattle.law_exact.specs.Words.{GivenOk}
use Rattle.law_exact.specs.Numbers.{GivenNumbers, StateNumbers, LinkOk, Placed}

-- "A start is called for while `start_kind` yields at the instant and the sent count is below `hard`"
pub record StartCalled (s : State) (cfg : Config) (p : Profile) (now : ℕ) : Type 0 where
  pub yields : (start_kind s cfg p now).some ≡ true
  pub below : s.cur.ep.sent < cfg.hard

-- "no start is called for or the sent count has reached `hard`"
abbrev pub NotCalled : State → Config → Profile → ℕ → Type 0
NotCalled s cfg p now = ((start_kind s cfg p now).some ≡ false) ⊎ (cfg.hard ≤ s.cur.ep.sent)

-- 1 to 6 and 10 pass
pub record ReplyOk (s : State) (cfg : Config) (p : Profile) (now : ℕ) : Type 0 where
  pub link : LinkOk s cfg p
  pub called : StartCalled s cfg p now

pub record ReplyExact (s : State) (cfg : Config) (p : Profile) (now : ℕ) (a : Outcome) : Type 0 where
  pub accepted : (a.number ≡ 0) ↔ ReplyOk s cfg p now
  -- 1 and 2
  pub given : GivenNumbers a.number cfg p
  -- 3 to 6
  pub state : StateNumbers a.number (GivenOk cfg p) s
  -- "10. A start reply comes while no start is called for or the sent count has reached `hard`."
  pub called : (a.number ≡ refused_no_start) ↔ (LinkOk s cfg p × NotCalled s cfg p now)
  pub place : Placed a.number a.place cfg
  -- "Its answer has no event."
  pub silent : a.out ≡ []
  -- the state remains
  pub back : (a.number ≡ 0 → ⊥) → a.state ≡ s
