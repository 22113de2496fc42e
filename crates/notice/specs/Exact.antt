-- A notice's number in document 01's words: accepted exactly where 1 to 7 pass, and each number exactly
-- where its sentence is the first to hold.
use Rattle.std.specs.Prelude.{◌↔◌, ◌≡◌, [], ℤ}
use Rattle.settings.specs.declared.Config.{Config}
use Rattle.numbers.specs.Numbers.{refused_draw}
use Rattle.state.specs.declared.State.{State}
use Rattle.state.specs.declared.Profile.{Profile}
use Rattle.answer.specs.Outcome.{Outcome}
use Rattle.law_exact.specs.Words.{GivenOk, SpreadOk, SpreadOut}
use Rattle.law_exact.specs.Numbers.{GivenNumbers, StateNumbers, LinkOk, Placed}

-- 1 to 7 pass
pub record NoticeOk (s : State) (cfg : Config) (p : Profile) (spread : ℤ) : Type 0 where
  pub link : LinkOk s cfg p
  pub drawn : SpreadOk cfg.jitter spread

pub record NoticeExact (s : State) (cfg : Config) (p : Profile) (spread : ℤ) (a : Outcome) : Type 0 where
  pub accepted : (a.number ≡ 0) ↔ NoticeOk s cfg p spread
  -- 1 and 2
  pub given : GivenNumbers a.number cfg p
  -- 3 to 6
  pub state : StateNumbers a.number (GivenOk cfg p) s
  -- "7. A draw lies outside its range."
  pub draw : (a.number ≡ refused_draw) ↔ (LinkOk s cfg p × SpreadOut cfg.jitter spread)
  pub place : Placed a.number a.place cfg
  -- "state and buffers remain", and no event is told
  pub back : (a.number ≡ 0 → ⊥) → (a.state ≡ s) × (a.out ≡ [])
