-- One item of a pass, on the whole state: the dispatch of `expire_pass` of machine.rs over the twelve
-- kinds, in the order of `Due`.
use Rattle.std.specs.Prelude.{ℕ, Bool, true, false, not, ltb, eqb, ℤ}
use Rattle.time.specs.Pick.{pick}
use Rattle.numbers.specs.Numbers.{item_drain, item_candidate, item_unadopted, item_held, item_probe, item_fin, item_elicit, item_confirm, item_delay_end, item_resend}
use Rattle.state.specs.declared.State.{State}
use Rattle.state.specs.declared.Given.{Given}
use Rattle.state.specs.Parts.{put_mem, put_cur, put_drain, put_cycle}
use Rattle.poll_epoch.specs.EpochRows.{DrainStep, CurStep, drain_due, fin_due, elicit_due}
use Rattle.poll_cycle.specs.CycleRows.{CycleStep, FailStep, unadopted_due, probe_due, delayed_due, resend_due, expire_due}
use Rattle.time.specs.Pick.{and}
use Rattle.grace.specs.Grace.{grace}
use Rattle.poll_cut.specs.Cut.{Step, candidate_due, confirm_due, delay_end, due_mem, held_due}

-- ---- a row's part put in place

abbrev pub on_drain : State → DrainStep → Step
on_drain s t = record { state = put_drain s t.drain; out = t.out; ends = false }

abbrev pub on_cycle : State → CycleStep → Step
on_cycle s t = record { state = put_cycle s t.cycle; out = t.out; ends = false }

abbrev pub on_cur : State → CurStep → Step
on_cur s t = record { state = put_mem (put_cur s t.cur) (due_mem s.mem (pick t.due true s.mem.due)); out = t.out; ends = false }

abbrev pub on_fail : State → FailStep → Step
on_fail s t = record { state = put_mem (put_cycle s t.cycle) t.mem; out = t.out; ends = t.ends }

-- ---- what the opening adds to two rows

-- the hold-back: while opening, a larger node with a candidate
unfoldable pub holds : State → Bool → Bool
holds s smaller = and (not s.cur.some) (and (not smaller) (ltb 0 s.cands.len))

-- no current epoch and no candidate left
unfoldable pub alone : State → Bool
alone s = and (not s.cur.some) (eqb s.cands.len 0)

-- ---- the item of a kind and a tag or sequence number

-- the kinds before Fin: Drain, Candidate, Unadopted, Held, Probe, Delayed
unfoldable pub low_step : State → Given → ℤ → ℕ → ℕ → Step
low_step s g spread kind key =
    pick (eqb kind item_drain) (on_drain s (drain_due s.drain key))
    (pick (eqb kind item_unadopted) (on_cycle s (unadopted_due s.cycle key))
    (pick (eqb kind item_held) (held_due s g spread key)
    (pick (eqb kind item_probe) (on_cycle s (probe_due s.cycle s.cur.some s.cur.ep.tag (grace s.mem g.cfg) key g.now))
    (on_cycle s (delayed_due s.cycle key g.now)))))

-- Fin and the kinds after it: Fin, Elicit, Confirm, DelayEnd, Resend, Expire
unfoldable pub high_step : State → Given → ℤ → ℕ → ℕ → Step
high_step s g spread kind key =
    pick (eqb kind item_fin) (on_cur s (fin_due s.cur key g.now))
    (pick (eqb kind item_elicit) (on_cur s (elicit_due s.cur key g.now))
    (pick (eqb kind item_confirm) (confirm_due s g spread key)
    (pick (eqb kind item_delay_end) (delay_end s g spread key)
    (pick (eqb kind item_resend) (on_cycle s (resend_due s.cycle (holds s g.profile.smaller) g.cfg.young g.profile.messages g.now))
    (on_fail s (expire_due s.cycle s.mem g.cfg (alone s) g.now g.extra))))))

-- any item but a candidate, by the order of the kinds
unfoldable pub other_step : State → Given → ℤ → ℕ → ℕ → Step
other_step s g spread kind key = pick (ltb kind item_fin) (low_step s g spread kind key) (high_step s g spread kind key)

-- an item
unfoldable pub item_step : State → Given → ℤ → ℕ → ℕ → Step
item_step s g spread kind key = pick (eqb kind item_candidate) (candidate_due s key g.now) (other_step s g spread kind key)
