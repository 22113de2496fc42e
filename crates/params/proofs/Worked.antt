-- The link's defaults, worked.
use Rattle.std.specs.Prelude.{ℕ, ◌-◌, ◌≡◌, refl, List, [], ◌∷◌, ◌++◌, length, replicate}
use Rattle.time.specs.Lists.{fold, range, kept}
use Rattle.time.specs.Time.{at, least, most, sat_add, sat_mul, sum_of}
use Rattle.ladder.specs.declared.Made.{Made}
use Rattle.ladder.specs.Schedule.{max_rungs, cut, doubled, doubling_of, keepalives, filled, probes_of, bits_of, laid, made_of, rung_at, held_of, rungs_of, last_of, last_send_of}
use Rattle.settings.specs.Settings.{fmp}
use Rattle.params.specs.Params.{last_offset, msg1_span, confirm_of, span_of, rung_of, gap_of, budget_of, first_made, fin_made, probes_made, revert_made, elicit_made, delayed_made, grace_of, with_hold_of}

-- "31 s at the default five"
spans : (msg1_span 0 ≡ 0) × (msg1_span 5 ≡ 31000) × (msg1_span 255 ≡ 65535000)
unfolding msg1_span last_offset doubling_of cut doubled made_of laid bits_of rungs_of rung_at held_of last_send_of last_of fold range kept least most sat_mul
spans = (refl, refl, refl)

durations :
    (confirm_of fmp ≡ 31000)
    × (span_of fmp ≡ at 41000)
    × (rung_of fmp ≡ 9000)
    × (gap_of fmp ≡ 4000)
    × (budget_of fmp ≡ 30000)
    × (grace_of fmp ≡ 8000)
    × (with_hold_of fmp 0 ≡ fmp)
unfolding confirm_of span_of rung_of gap_of budget_of grace_of with_hold_of probes_made msg1_span last_offset doubling_of probes_of filled keepalives cut doubled made_of laid bits_of rungs_of rung_at held_of last_send_of last_of fold range kept least most sat_mul sat_add sum_of
durations = (refl, refl, refl, refl, refl, refl, refl)

-- offsets, keepalives' bits and the number dropped
abbrev made : List ℕ → ℕ → ℕ → Made
made l bits n =
    record { sched = record { at = l ++ replicate (max_rungs - length l) 0; keepalive = bits; len = length l }; dropped = n }

schedules :
    (first_made fmp ≡ made (1000 ∷ 3000 ∷ 7000 ∷ 15000 ∷ []) 0 1)
    × (fin_made fmp ≡ made (1000 ∷ 3000 ∷ 7000 ∷ 15000 ∷ 31000 ∷ []) 0 0)
    × (probes_made fmp ≡ made (1000 ∷ 3000 ∷ 7000 ∷ 11000 ∷ 15000 ∷ 19000 ∷ 23000 ∷ 27000 ∷ []) 232 1)
    × (revert_made fmp ≡ made (1000 ∷ 3000 ∷ 7000 ∷ []) 0 0)
    × (elicit_made fmp ≡ made (1000 ∷ 3000 ∷ []) 0 0)
    × (delayed_made fmp ≡ made (1000 ∷ 3000 ∷ 7000 ∷ 15000 ∷ []) 0 0)
unfolding confirm_of gap_of budget_of first_made fin_made probes_made revert_made elicit_made delayed_made msg1_span last_offset doubling_of probes_of filled keepalives cut doubled made_of laid bits_of rungs_of rung_at held_of last_send_of last_of fold range kept least most sat_mul sat_add
schedules = (refl, refl, refl, refl, refl, refl)
