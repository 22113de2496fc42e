-- Refusals 3 to 6 read only what stands.
use Rattle.std.specs.Prelude.{ℕ, Bool, true, false, ◌||◌, ◌≡◌, refl, ℤ}
use Rattle.std.proofs.Common.{true≢false, ◌∙◌}
use Rattle.std.proofs.Math.Path.{sym, ap, ap₂}
use mathlib.Core.List.{[], ◌∷◌, ◌++◌, map, map-append}
use Rattle.time.specs.Pick.{pick}
use Rattle.settings.specs.declared.Config.{Config}
use Rattle.epoch.specs.declared.Epoch.{Epoch}
use Rattle.cycle.specs.declared.Cycle.{Cycle}
use Rattle.cycle.specs.Kind.{is_pend_i, is_pend_r}
use Rattle.state.specs.declared.State.{State}
use Rattle.state.specs.declared.Profile.{Profile}
use Rattle.state.specs.Parts.{listed, pending_of, epochs_of}
use Rattle.state.specs.Stands.{epoch_view}
use Rattle.refusal.specs.Refusal.{is_pending, epochs_bad_of, tags_of, numbers_bad, ladders_bad, state_tests, poll_tests, frame_tests, link_tests, first, state_back, before_poll}
use Rattle.refusal.specs.Standing.{pending_ep, standing_bad, either_bad, epoch_bad, held_bad, cycle_bad}
use Rattle.refusal.proofs.Standing.{ladders-apart}
use Rattle.law_alike.specs.Optional.{Same, choose, picked, both}
use Rattle.law_alike.specs.Parts.{ladder_fields, epoch_fields}
use Rattle.law_alike.specs.Ladders.{fin-some, fin-ladder, may-some, may-ladder}
use Rattle.law_alike.specs.Cycle.{AlikeCycle, cycle_fields}
use Rattle.law_alike.specs.Whole.{Alike, cur-some, cur-view, drain-some, drain_fields}
use Rattle.law_alike.specs.Due.{count-alike, numbers-alike}

-- ---- ladders

epoch-bad : {x y : Epoch} → Same epoch_view x y → epoch_bad x ≡ epoch_bad y
unfolding epoch_bad either_bad standing_bad
epoch-bad e =
    let h = epoch_fields e in
    ap₂ (λ a b. a || b)
    (both (fin-some h.fin) (λ q. let l = ladder_fields (fin-ladder h.fin q) in cc (l.len, l.next)))
    (both (may-some h.elicit) (λ q. let l = ladder_fields (may-ladder h.elicit q) in cc (l.len, l.next)))

cycle-bad : {c d : Cycle} → AlikeCycle c d → cycle_bad c ≡ cycle_bad d
unfolding cycle_bad either_bad standing_bad
cycle-bad h =
    picked h.inits (λ q. let l = ladder_fields (h.init q).ladder in cc (l.len, l.next))
    (λ _. picked h.owns
    (λ q. ap₂ (λ a b. a || b)
    (both (fin-some (h.pendi q).fin) (λ r. let l = ladder_fields (fin-ladder (h.pendi q).fin r) in cc (l.len, l.next)))
    (both (may-some (h.pendi q).probes) (λ r. let l = ladder_fields (may-ladder (h.pendi q).probes r) in cc (l.len, l.next))))
    (λ _. refl))

or_other : (a b : Bool) → a || b ≡ true → a ≡ false → b ≡ true
or_other true b e f = absurd (true≢false f)
or_other false b e f = e

module _ {c d : Cycle} (h : AlikeCycle c d) where
  pub pending-some : is_pending c.kind ≡ is_pending d.kind
  unfolding is_pending
  pending-some = cc (h.owns, h.peers)

  pending-bad : held_bad (is_pending c.kind) (pending_ep c) ≡ held_bad (is_pending d.kind) (pending_ep d)
  unfolding held_bad pending_ep is_pending
  pending-bad =
      both pending-some
      (λ q. choose epoch_bad h.owns (λ r. epoch-bad (h.pendi r).ep) (λ r. epoch-bad (h.pendr (or_other _ _ q r)).ep))

-- ---- tags

module _ {s t : State} (a : Alike s t) where
  tags-alike : tags_of s ≡ tags_of t
  unfolding epochs_of pending_of
  tags-alike =
      let h = cycle_fields a.cycle in
      let tags = map (λ (e : Epoch). e.tag) in
      map-append (λ e. e.tag) (listed s.cur.some s.cur.ep) _
      ∙ ap₂ (λ l m. l ++ m) (choose tags (cur-some a.cur) (λ q. ap (λ n. n ∷ []) (epoch_fields (cur-view a.cur q)).tag) (λ _. refl))
      (map-append (λ e. e.tag) (pick (is_pend_i s.cycle.kind) (s.cycle.pendi.ep ∷ []) (pick (is_pend_r s.cycle.kind) (s.cycle.pendr.ep ∷ []) [])) _
      ∙ ap₂ (λ l m. l ++ m)
      (choose tags h.owns (λ q. ap (λ n. n ∷ []) (epoch_fields (h.pendi q).ep).tag)
      (λ _. choose tags h.peers (λ q. ap (λ n. n ∷ []) (epoch_fields (h.pendr q).ep).tag) (λ _. refl)))
      (choose tags (drain-some a.drain) (λ q. ap (λ n. n ∷ []) (drain_fields a.drain q).ep.tag) (λ _. refl))
      ∙ sym (map-append (λ e. e.tag) (pick (is_pend_i t.cycle.kind) (t.cycle.pendi.ep ∷ []) (pick (is_pend_r t.cycle.kind) (t.cycle.pendr.ep ∷ []) [])) _))
      ∙ sym (map-append (λ e. e.tag) (listed t.cur.some t.cur.ep) _)

  numbers-bad : numbers_bad s ≡ numbers_bad t
  unfolding numbers_bad
  numbers-bad = cc (tags-alike, numbers-alike a.cands)

  ladders-bad : ladders_bad s ≡ ladders_bad t
  unfolding held_bad
  ladders-bad =
      let h = cycle_fields a.cycle in
      ladders-apart s
      ∙ ap₂ (λ x y. x || y) (cycle-bad h)
      (ap₂ (λ x y. x || y) (both (cur-some a.cur) (λ q. epoch-bad (cur-view a.cur q)))
      (ap₂ (λ x y. x || y) (pending-bad h) (both (drain-some a.drain) (λ q. epoch-bad (drain_fields a.drain q).view))))
      ∙ sym (ladders-apart t)

  pub tests-alike : state_tests s ≡ state_tests t
  unfolding state_tests epochs_bad_of
  tests-alike =
      let h = cycle_fields a.cycle in
      cc (count-alike a.cands, cur-some a.cur, pending-some h, drain-some a.drain, numbers-bad, ladders-bad)

  pub back-alike : state_back s ≡ state_back t
  unfolding state_back
  back-alike = ap (λ l. (first l).number) tests-alike

  module _ (cfg : Config) (p : Profile) where
    pub poll-back : (spread : ℤ) (extra : ℕ) → before_poll s cfg p spread extra ≡ before_poll t cfg p spread extra
    unfolding poll_tests
    poll-back spread extra = rw tests-alike

    pub frame-tests : (spread : ℤ) → frame_tests s cfg p spread ≡ frame_tests t cfg p spread
    unfolding frame_tests
    frame-tests spread = rw tests-alike

    pub link-tests : link_tests s cfg p ≡ link_tests t cfg p
    unfolding link_tests
    link-tests = rw tests-alike
