-- The cycle's kinds and a pending epoch's waits.
use Rattle.std.specs.Prelude.{ℕ, Bool, true, false, eqb}
use Rattle.time.specs.Pick.{pick}
use Rattle.numbers.specs.Numbers.{cycle_idle, cycle_init, cycle_pend_i, cycle_pend_r, wait_held, wait_evidence}
use Rattle.cycle.specs.declared.Cycle.{Cycle}

abbrev pub is_init : ℕ → Bool
is_init k = eqb k cycle_init

abbrev pub is_pend_i : ℕ → Bool
is_pend_i k = eqb k cycle_pend_i

abbrev pub is_pend_r : ℕ → Bool
is_pend_r k = eqb k cycle_pend_r

-- every other number is Idle
abbrev pub is_idle : ℕ → Bool
is_idle k = pick (is_init k) false (pick (is_pend_i k) false (pick (is_pend_r k) false true))

abbrev pub waits_held : ℕ → Bool
waits_held w = eqb w wait_held

abbrev pub waits_evidence : ℕ → Bool
waits_evidence w = eqb w wait_evidence

-- every other number is Delay
abbrev pub waits_delay : ℕ → Bool
waits_delay w = pick (waits_held w) false (pick (waits_evidence w) false true)

-- the cycle with nothing in progress
abbrev pub idled : Cycle → Cycle
idled c = record { kind = cycle_idle; init = c.init; pendi = c.pendi; pendr = c.pendr }
