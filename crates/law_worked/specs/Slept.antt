-- "How many rungs a tablet slept through": the number on what a poll tells, where the tablet was polled at
-- each rung and where it slept past some.
use Rattle.std.specs.Prelude.{ℕ, Bool, true, false, ◌≡◌, refl, List, [], ◌∷◌}
use Rattle.time.specs.Lists.{fold, range, kept, take_while}
use Rattle.time.specs.Time.{none, at, later_of, sat_mul, least, most}
use Rattle.ladder.specs.Schedule.{max_rungs, cut, doubled, doubling_of, keepalives, filled, probes_of, bits_of, laid, rung_at, held_of, rungs_of}
use Rattle.ladder.specs.Ladder.{anew, remaining, due_rungs, taking, take_of}
use Rattle.numbers.specs.Numbers.{cycle_init, cycle_pend_i, wait_evidence, kind_msg1, kind_msg3}
use Rattle.cycle.specs.declared.Cycle.{Cycle}
use Rattle.epoch.specs.Held.{is_tag}
use Rattle.cycle.specs.Held.{is_own}
use Rattle.events.specs.Events.{Event, Send, Prompt}
use Rattle.poll_cycle.specs.CycleRows.{late_for, probing, probe_due, resend_taken, resend_due}
use Rattle.call_open.specs.Blank.{no_index, no_final, no_repeats, idle}
use Rattle.call_open.specs.Open.{first_epoch}

-- ---- an own attempt at 0, whose first message goes again after 1, 3 and 7 s

-- past n of its rungs
abbrev attempt : ℕ → Cycle
attempt n =
    record {
      kind = cycle_init;
      init = record {
        hs = 1;
        out = 2;
        lease = no_index;
        transport = 3;
        first = 0;
        ladder = record { origin = 0; sched = laid max_rungs (doubling_of max_rungs 1000 3 none).rungs; next = n };
        deadline = 20000;
        resent = false;
      };
      pendi = idle.pendi;
      pendr = idle.pendr;
    }

-- what a poll tells of it; `holds`: a larger node with a candidate, for the first 5 s
abbrev resent : ℕ → Bool → ℕ → List Event
resent n holds now = (resend_due (attempt n) holds 5000 2 now).out

-- ---- a completed own attempt with the ladder of P7: keepalive 3000, send 5000, keepalive 8000

-- epoch 1 is pending, and epoch 2 is current
abbrev completed : Cycle
completed =
    record {
      kind = cycle_pend_i;
      init = idle.init;
      pendi = record {
        ep = first_epoch false 0 no_index 0;
        wait = wait_evidence;
        deadline = 20000;
        restart = false;
        fin = record { some = true; msg = 6; ladder = anew 0 (laid max_rungs []) };
        probes = record { some = true; ladder = anew 0 (laid max_rungs (probes_of max_rungs 5000 1 10000 3000).rungs) };
        probed = at 0;
        stayed = false;
        reverted = false;
      };
      pendr = idle.pendr;
    }

abbrev probed : ℕ → List Event
probed now = (probe_due completed true 2 1000 1 now).out

-- ---- the numbers

pub record Slept : Type 0 where
  -- polled at each rung: one each
  pub in_time : (resent 0 false 1000 ≡ Send 2 kind_msg1 1 ∷ []) × ((resent 1 false 3000 ≡ Send 2 kind_msg1 1 ∷ []) × (resent 2 false 7000 ≡ Send 2 kind_msg1 1 ∷ []))
  -- asleep until 8 s: one resend for three rungs; until then with the first sent: one for two
  pub three : (resent 0 false 8000 ≡ Send 2 kind_msg1 3 ∷ []) × (resent 1 false 8000 ≡ Send 2 kind_msg1 2 ∷ [])
  -- held back at 4 s, two rungs are taken and nothing is told
  pub held_back : resent 0 true 4000 ≡ []
  -- nothing is due; a keepalive alone; and all three, with one number on the send and both prompts
  pub probes : (probed 2999 ≡ []) × ((probed 3000 ≡ Prompt 2 1 ∷ []) × (probed 8000 ≡ Send 6 kind_msg3 3 ∷ Prompt 1 3 ∷ Prompt 2 3 ∷ []))

pub slept : Slept
unfolding fold range kept take_while later_of sat_mul least most cut doubled doubling_of keepalives filled probes_of bits_of laid rung_at held_of rungs_of remaining due_rungs taking take_of is_tag is_own late_for probing probe_due resend_taken resend_due no_final no_repeats idle first_epoch
slept = record { in_time = (refl, (refl, refl)); three = (refl, refl); held_back = refl; probes = (refl, (refl, refl)) }
