-- The numbers of `open` in document 01's words: it is accepted exactly where the tests that concern it pass,
-- and each number is given exactly where its sentence is the first to hold.
use Rattle.std.specs.Prelude.{◌↔◌, ◌≡◌, [], ℤ}
use Rattle.settings.specs.declared.Config.{Config}
use Rattle.numbers.specs.Numbers.{refused_draw}
use Rattle.state.specs.declared.Profile.{Profile}
use Rattle.answer.specs.Outcome.{Outcome}
use Rattle.law_exact.specs.Words.{GivenOk, SpreadOk, SpreadOut}
use Rattle.law_exact.specs.Numbers.{GivenNumbers, Placed}
use Rattle.call_open.specs.Open.{blank_state}

-- 1, 2 and 7 pass
pub record OpenOk (cfg : Config) (p : Profile) (spread : ℤ) : Type 0 where
  pub given : GivenOk cfg p
  pub drawn : SpreadOk cfg.jitter spread

pub record OpenExact (cfg : Config) (p : Profile) (spread : ℤ) (a : Outcome) : Type 0 where
  pub accepted : (a.number ≡ 0) ↔ OpenOk cfg p spread
  -- 1 and 2
  pub given : GivenNumbers a.number cfg p
  -- "7. A draw lies outside its range."
  pub draw : (a.number ≡ refused_draw) ↔ (GivenOk cfg p × SpreadOut cfg.jitter spread)
  pub place : Placed a.number a.place cfg
  -- no link is made, and no event is told
  pub back : (a.number ≡ 0 → ⊥) → (a.state ≡ blank_state) × (a.out ≡ [])
