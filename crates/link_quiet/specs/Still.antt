-- A poll is accepted and has nothing to do exactly where neither part of the test finds anything.
use Rattle.std.specs.Prelude.{ℕ, Bool, ◌&&◌, ◌||◌, ◌≡◌, List, eqb, ℤ}
use Rattle.std.proofs.Math.Bool.{true, false, not, and-false}
use Rattle.std.proofs.Common.{true≢false, sym, ◌∙◌, eq-eqb, ne_eqb}
use Rattle.std.proofs.lemmas.Bool.{false≢true, not-true}
use Rattle.std.proofs.Math.Path.{refl, ap}
use Rattle.time.specs.Pick.{pick}
use Rattle.settings.specs.Settings.{place_of}
use Rattle.cycle.specs.Kind.{is_init, is_pend_i, is_pend_r, is_idle}
use Rattle.candidates.specs.Held.{firsts}
use Rattle.candidates.specs.Repeats.{repeated}
use Rattle.state.specs.declared.State.{State}
use Rattle.state.specs.declared.Given.{Given}
use Rattle.state.specs.Parts.{listed}
use Rattle.refusal.specs.Refusal.{any_of, profile_bad, cands_bad, is_pending, epochs_bad_of, epochs_bad, tags_of, seqs_of, numbers_bad, spread_bad, extra_bad, Test, first, given_tests, state_tests, poll_tests, before_poll}
use Rattle.refusal.specs.Standing.{pending_ep, shared_of, tags_bad, held_bad, cycle_bad}
use Rattle.refusal.proofs.Standing.{ladders-apart, tags-apart}
use Rattle.refusal.specs.First.{rising, any_back}
use Rattle.refusal.proofs.First.{or_left, or_right, or_none, none-back, back_none}
use Rattle.start.specs.Start.{called_for}
use Rattle.wake.specs.Due.{cycle_due, current_instants}
use Rattle.wake.specs.Quiet.{teardown_stands, offer_owed, quiet_of}
use Rattle.link_quiet.specs.Due.{nothing-due, due-parts}
use Rattle.link_quiet.specs.Busy.{reached, owed_of, asked_back, current_rungs, current_busy, waiting_busy, first_busy, cycle_busy, drain_busy, epochs_back, other_busy, alone_of}

-- ---- accepted: no test sends back

none-sent : (l : List Test) (k : ℕ) → rising k l ≡ true → eqb (first l).number 0 ≡ not (any_back l)
none-sent l k r = under (any_back l) refl
  where
    under : (b : Bool) → any_back l ≡ b → eqb (first l).number 0 ≡ not b
    under true e = ne_eqb (first l).number 0 (λ z. absurd (true≢false (sym e ∙ none-back l k r z)))
    under false e = eq-eqb (first l).number 0 (ap (λ q. q.number) (back_none l e))

-- ---- nineteen conditions, none of which holds

-- two flags that agree wherever one of them is on
same : (a b : Bool) → (a ≡ true → b ≡ true) → (b ≡ true → a ≡ true) → a ≡ b
same true b f g = sym (f refl)
same false true f g = g refl
same false false f g = refl

off : (a b : Bool) → not a && b ≡ true → (a ≡ false) × (b ≡ true)
off true b h = absurd (false≢true h)
off false b h = (refl, h)

on : {a b : Bool} → a ≡ false → b ≡ true → not a && b ≡ true
on p q = rw (p, q)

module _
    (settings profile draw many unled tags seqs cycle6 cur6 pend6 drain6 : Bool)
    (drain waiting cycle cur start teardown offer offer' : Bool)
  where
    abbrev numbers : Bool
    numbers = tags || seqs

    abbrev ladders : Bool
    ladders = cycle6 || (cur6 || (pend6 || drain6))

    abbrev sent : Bool
    sent = settings || (profile || (many || (unled || (numbers || (ladders || (draw || false))))))

    abbrev due : Bool
    due = drain || (waiting || (cycle || cur))

    -- as refusals 1 to 7 and the four conditions have them
    abbrev by_tests : Bool
    by_tests = not sent && (not due && (not start && (not teardown && not (offer || offer'))))

    abbrev asked : Bool
    asked = settings || (profile || draw)

    abbrev current : Bool
    current = start || (teardown || ((cur || cur6) || offer))

    abbrev held : Bool
    held = many || (waiting || seqs)

    abbrev attempt : Bool
    attempt = cycle || (cycle6 || pend6)

    abbrev drained : Bool
    drained = drain || (offer' || drain6)

    -- as the two parts have them
    abbrev by_parts : Bool
    by_parts = not ((asked || (current || held)) || (attempt || (drained || (unled || tags))))

    to : by_tests ≡ true → by_parts ≡ true
    to h =
        let a = off sent (not due && (not start && (not teardown && not (offer || offer')))) h in
        let b = off due (not start && (not teardown && not (offer || offer'))) a.1 in
        let c = off start (not teardown && not (offer || offer')) b.1 in
        let d = off teardown (not (offer || offer')) c.1 in
        let o = not-true (offer || offer') d.1 in
        let a1 = or_right settings (profile || (many || (unled || (numbers || (ladders || (draw || false)))))) a.0 in
        let a2 = or_right profile (many || (unled || (numbers || (ladders || (draw || false))))) a1 in
        let a3 = or_right many (unled || (numbers || (ladders || (draw || false)))) a2 in
        let a4 = or_right unled (numbers || (ladders || (draw || false))) a3 in
        let n = or_left numbers (ladders || (draw || false)) a4 in
        let a5 = or_right numbers (ladders || (draw || false)) a4 in
        let l = or_left ladders (draw || false) a5 in
        let a6 = or_right ladders (draw || false) a5 in
        let l1 = or_right cycle6 (cur6 || (pend6 || drain6)) l in
        let l2 = or_right cur6 (pend6 || drain6) l1 in
        let b1 = or_right drain (waiting || (cycle || cur)) b.0 in
        let b2 = or_right waiting (cycle || cur) b1 in
        let no-settings = or_left settings (profile || (many || (unled || (numbers || (ladders || (draw || false)))))) a.0 in
        let no-profile = or_left profile (many || (unled || (numbers || (ladders || (draw || false))))) a1 in
        let no-many = or_left many (unled || (numbers || (ladders || (draw || false)))) a2 in
        let no-unled = or_left unled (numbers || (ladders || (draw || false))) a3 in
        let no-asked : asked ≡ false = or_none no-settings (or_none no-profile (or_left draw false a6)) in
        let no-current : current ≡ false = or_none c.0 (or_none d.0 (or_none (or_none (or_right cycle cur b2) (or_left cur6 (pend6 || drain6) l1)) (or_left offer offer' o))) in
        let no-held : held ≡ false = or_none no-many (or_none (or_left waiting (cycle || cur) b1) (or_right tags seqs n)) in
        let no-attempt : attempt ≡ false = or_none (or_left cycle cur b2) (or_none (or_left cycle6 (cur6 || (pend6 || drain6)) l) (or_left pend6 drain6 l2)) in
        let no-drained : drained ≡ false = or_none (or_left drain (waiting || (cycle || cur)) b.0) (or_none (or_right offer offer' o) (or_right pend6 drain6 l2)) in
        ap not (or_none (or_none no-asked (or_none no-current no-held)) (or_none no-attempt (or_none no-drained (or_none no-unled (or_left tags seqs n)))))

    from : by_parts ≡ true → by_tests ≡ true
    from h =
        let z = not-true ((asked || (current || held)) || (attempt || (drained || (unled || tags)))) h in
        let f = or_left (asked || (current || held)) (attempt || (drained || (unled || tags))) z in
        let g = or_right (asked || (current || held)) (attempt || (drained || (unled || tags))) z in
        let f1 = or_left asked (current || held) f in
        let f2 = or_right settings (profile || draw) f1 in
        let f3 = or_right asked (current || held) f in
        let u = or_left current held f3 in
        let u1 = or_right start (teardown || ((cur || cur6) || offer)) u in
        let u2 = or_right teardown ((cur || cur6) || offer) u1 in
        let u3 = or_left (cur || cur6) offer u2 in
        let w = or_right current held f3 in
        let w1 = or_right many (waiting || seqs) w in
        let y = or_left attempt (drained || (unled || tags)) g in
        let y1 = or_right cycle (cycle6 || pend6) y in
        let v = or_right attempt (drained || (unled || tags)) g in
        let d = or_left drained (unled || tags) v in
        let d1 = or_right drain (offer' || drain6) d in
        let e = or_right drained (unled || tags) v in
        let no-numbers : numbers ≡ false = or_none (or_right unled tags e) (or_right waiting seqs w1) in
        let no-ladders : ladders ≡ false = or_none (or_left cycle6 pend6 y1) (or_none (or_right cur cur6 u3) (or_none (or_right cycle6 pend6 y1) (or_right offer' drain6 d1))) in
        let no-sent : sent ≡ false = or_none (or_left settings (profile || draw) f1) (or_none (or_left profile draw f2) (or_none (or_left many (waiting || seqs) w) (or_none (or_left unled tags e) (or_none no-numbers (or_none no-ladders (or_none (or_right profile draw f2) refl)))))) in
        let no_due : due ≡ false = or_none (or_left drain (offer' || drain6) d) (or_none (or_left waiting seqs w1) (or_none (or_left cycle (cycle6 || pend6) y) (or_left cur cur6 u3))) in
        on no-sent (on no_due (on (or_left start (teardown || ((cur || cur6) || offer)) u) (on (or_left teardown ((cur || cur6) || offer) u1) (ap not (or_none (or_right (cur || cur6) offer u2) (or_left offer' drain6 d1))))))

    parted : by_tests ≡ by_parts
    parted = same by_tests by_parts to from

-- ---- of a poll

module _ (s : State) (g : Given) (spread : ℤ) where
  abbrev number : ℕ
  number = (before_poll s g.cfg g.profile spread g.extra).number

  abbrev offer : Bool
  offer = owed_of g.workers s.cur.some s.cur.ep.delegated s.cur.ep.ids.lease.some

  abbrev offer' : Bool
  offer' = owed_of g.workers s.drain.some s.drain.ep.delegated s.drain.ep.ids.lease.some

  accepted-parts :
      eqb number 0
      ≡ not (not (eqb (place_of g.cfg) 0)
      || (profile_bad g.profile
      || (cands_bad s
      || (epochs_bad s
      || ((repeated (tags_of s) || repeated (seqs_of s))
      || ((cycle_bad s.cycle || (held_bad s.cur.some s.cur.ep || (held_bad (is_pending s.cycle.kind) (pending_ep s.cycle) || held_bad s.drain.some s.drain.ep)))
      || ((spread_bad g.cfg.jitter spread || extra_bad g.cfg.jitter g.extra) || false)))))))
  unfolding any_of poll_tests given_tests state_tests rising numbers_bad
  accepted-parts =
      none-sent (poll_tests s g.cfg g.profile spread g.extra) 0 refl
      ∙ ap (λ b. not (not (eqb (place_of g.cfg) 0) || (profile_bad g.profile || (cands_bad s || (epochs_bad s || ((repeated (tags_of s) || repeated (seqs_of s)) || (b || ((spread_bad g.cfg.jitter spread || extra_bad g.cfg.jitter g.extra) || false))))))))
      (ladders-apart s)

  offer-parts : offer_owed s g.workers ≡ offer || offer'
  unfolding offer_owed owed_of
  offer-parts =
      under g.workers (s.cur.some && (not s.cur.ep.delegated && s.cur.ep.ids.lease.some)) (s.drain.some && (not s.drain.ep.delegated && s.drain.ep.ids.lease.some))
    where
      under : (w a b : Bool) → w && (a || b) ≡ w && a || w && b
      under true a b = refl
      under false a b = refl

  -- "accepted with no item due, no start called for, no teardown standing and no offer owed"
  pub still-parts :
      (eqb number 0 && quiet_of s g.cfg g.profile g.now g.workers) ≡ not (first_busy s g spread || other_busy s g)
  unfolding quiet_of asked_back current_rungs current_busy waiting_busy first_busy cycle_busy drain_busy epochs_back other_busy
  still-parts =
      rw (accepted-parts, due-parts s g.now, offer-parts)
      (parted (not (eqb (place_of g.cfg) 0)) (profile_bad g.profile) (spread_bad g.cfg.jitter spread || extra_bad g.cfg.jitter g.extra)
      (cands_bad s) (epochs_bad s) (repeated (tags_of s)) (repeated (seqs_of s))
      (cycle_bad s.cycle) (held_bad s.cur.some s.cur.ep) (held_bad (is_pending s.cycle.kind) (pending_ep s.cycle)) (held_bad s.drain.some s.drain.ep)
      (reached (listed s.drain.some s.drain.deadline) g.now) (reached (firsts s.cands.len s.cands.deadline) g.now)
      (reached (cycle_due s.cycle) g.now) (reached (current_instants s.cur) g.now)
      (called_for s g.cfg g.profile g.now) (teardown_stands s g.cfg) offer offer')

-- ---- neither a cycle nor a drained epoch

idle_kinds : (i p r : Bool) → pick i false (pick p false (pick r false true)) ≡ true → (i ≡ false) × ((p ≡ false) × (r ≡ false))
idle_kinds true p r h = absurd (false≢true h)
idle_kinds false true r h = absurd (false≢true h)
idle_kinds false false true h = absurd (false≢true h)
idle_kinds false false false h = (refl, (refl, refl))

both : (a b : Bool) → a && b ≡ true → (a ≡ true) × (b ≡ true)
both true b h = (refl, h)
both false b h = absurd (false≢true h)

-- nothing for the second part
pub alone-none : (s : State) (g : Given) → alone_of s ≡ true → other_busy s g ≡ false
unfolding alone_of other_busy cycle_busy drain_busy epochs_back cycle_due cycle_bad held_bad is_pending owed_of epochs_bad_of tags_bad shared_of
alone-none s g h =
    let a = both (is_idle s.cycle.kind) (not s.drain.some) h in
    let k = idle_kinds (is_init s.cycle.kind) (is_pend_i s.cycle.kind) (is_pend_r s.cycle.kind) a.0 in
    let d = not-true s.drain.some a.1 in
    rw (tags-apart s, k.0, k.1.0, k.1.1, d, nothing-due g.now) (simp and-false)
