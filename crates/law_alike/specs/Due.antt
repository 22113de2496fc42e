-- What is due, the four conditions and the wake read only what stands.
use Rattle.std.specs.Prelude.{ℕ, Bool, true, false, ◌||◌, ◌≡◌, refl}
use Rattle.std.proofs.Common.{true≢false, ◌∙◌, ap₂}
use Rattle.std.proofs.lemmas.Bool.{false≢true}
use Rattle.std.proofs.Math.Path.{sym, ap}
use mathlib.Core.List.{List, [], ◌∷◌, ◌++◌, map, map-map}
use Rattle.time.specs.Pick.{pick}
use Rattle.settings.specs.declared.Config.{Config}
use Rattle.ladder.specs.declared.Ladder.{Ladder}
use Rattle.numbers.specs.Numbers.{item_drain, item_candidate, item_probe, item_delayed, item_fin, item_elicit, item_resend}
use Rattle.epoch.specs.declared.Epoch.{Epoch}
use Rattle.epoch.specs.declared.MayEpoch.{MayEpoch}
use Rattle.epoch.specs.declared.Final.{Final}
use Rattle.epoch.specs.declared.MayLadder.{MayLadder}
use Rattle.cycle.specs.declared.PendI.{PendI}
use Rattle.cycle.specs.declared.Cycle.{Cycle}
use Rattle.cycle.specs.Kind.{is_pend_i, is_pend_r}
use Rattle.candidates.specs.declared.Candidates.{Candidates}
use Rattle.candidates.specs.Held.{held_by, firsts}
use Rattle.candidates.proofs.Laws.{numbers-held, deadlines_held}
use Rattle.items.specs.Items.{item}
use Rattle.state.specs.declared.State.{State}
use Rattle.state.specs.declared.Profile.{Profile}
use Rattle.state.specs.Parts.{listed, pending_of, epochs_of}
use Rattle.state.specs.Stands.{ladder_view, final_view, may_ladder_view, CandidateView, candidate_view, CandidatesView, candidates_view}
use Rattle.start.specs.Start.{instants}
use Rattle.wake.specs.Due.{ladder_instants, may_instants, fin_instants, elicit_instants, items_at, drain_items, candidate_items, pending_items, cycle_items, current_items, named, some_in, due_items, any_due, current_instants, standing}
use Rattle.wake.specs.Quiet.{opening_idle, teardown_stands, offerable, offer_owed, quiet_of, held_something}
use Rattle.wake.specs.Wake.{exhausted, cycle_instants, stored_instants, wake_instants, wake_of}
use Rattle.law_alike.specs.Optional.{Same, picked, both, some-when, index, holds-first}
use Rattle.law_alike.specs.Parts.{AlikePendI, AlikeEpoch, epoch_fields}
use Rattle.law_alike.specs.Cycle.{AlikeCycle, cycle_fields, idles, wait-held, wait-evidence}
use Rattle.law_alike.specs.Ladders.{next-alike, fin-some, fin-ladder, may-some, may-ladder}
use Rattle.law_alike.specs.Whole.{Alike, cur_view, cur-some, cur-ep, drain-some, drain_fields}
use Rattle.law_alike.specs.Start.{start-at, called-alike}

-- ---- ladders

ladder-instants : {l m : Ladder} → Same ladder_view l m → ladder_instants l ≡ ladder_instants m
unfolding ladder_instants
ladder-instants e = ap (λ w. instants w) (next-alike e)

may-instants : {l m : MayLadder} → Same may_ladder_view l m → may_instants l ≡ may_instants m
unfolding may_instants
may-instants e = picked (may-some e) (λ q. ladder-instants (may-ladder e q)) (λ _. refl)

fin-instants : {f g : Final} → Same final_view f g → fin_instants f ≡ fin_instants g
unfolding fin_instants
fin-instants e = picked (fin-some e) (λ q. ladder-instants (fin-ladder e q)) (λ _. refl)

elicit-instants : {b c : Bool} {l m : MayLadder} → b ≡ c → Same may_ladder_view l m → elicit_instants b l ≡ elicit_instants c m
unfolding elicit_instants
elicit-instants q e = picked q (λ _. refl) (λ _. may-instants e)

-- ---- candidates

module _ {v w : Candidates} (e : Same candidates_view v w) where
  pub count-alike : v.len ≡ w.len
  unfolding candidates_view
  count-alike = ap (λ (c : CandidatesView). c.count) e.eq

  -- what is read of each candidate's view
  pub each-alike : {A : Type 0} (f : CandidateView → A) → map (λ c. f (candidate_view c)) (held_by v) ≡ map (λ c. f (candidate_view c)) (held_by w)
  unfolding candidates_view
  each-alike f = sym (map-map f candidate_view (held_by v)) ∙ ap (λ (c : CandidatesView). map f c.list) e.eq ∙ map-map f candidate_view (held_by w)

  pub numbers-alike : firsts v.len v.seq ≡ firsts w.len w.seq
  unfolding candidate_view
  numbers-alike = sym (numbers-held v) ∙ each-alike (λ c. c.seq) ∙ numbers-held w

  pub deadlines_alike : firsts v.len v.deadline ≡ firsts w.len w.deadline
  unfolding candidate_view
  deadlines_alike = sym (deadlines_held v) ∙ each-alike (λ c. c.deadline) ∙ deadlines_held w

-- ---- items

listed-items : (kind : ℕ) {b c : Bool} {x y k j : ℕ} → b ≡ c → (b ≡ true → x ≡ y) → (b ≡ true → k ≡ j) → items_at kind k (listed b x) ≡ items_at kind j (listed c y)
listed-items kind {b = true} {c = true} e f g = ap₂ (λ t u. item t kind u ∷ []) (f refl) (g refl)
listed-items kind {b = true} {c = false} e f g = absurd (true≢false e)
listed-items kind {b = false} {c = true} e f g = absurd (false≢true e)
listed-items kind {b = false} {c = false} e f g = refl

listed-alike : {b c : Bool} {x y : ℕ} → b ≡ c → (b ≡ true → x ≡ y) → listed b x ≡ listed c y
listed-alike e f = picked e (λ q. ap (λ n. n ∷ []) (f q)) (λ _. refl)

items_alike : (kind : ℕ) {k j : ℕ} {l m : List ℕ} → k ≡ j → l ≡ m → items_at kind k l ≡ items_at kind j m
items_alike kind e f = ap₂ (λ k l. items_at kind k l) e f

pending-alike : {p q : PendI} → AlikePendI p q → pending_items p ≡ pending_items q
unfolding pending_items
pending-alike h =
    let e = epoch_fields h.ep in
    picked (wait-held h.wait) (λ _. cc (e.tag, h.deadline))
    (λ _. picked (wait-evidence h.wait)
    (λ _. ap₂ (λ a b. a ++ b) (items_alike item_probe e.tag (may-instants h.probes)) (cc (e.tag, h.deadline)))
    (λ _. ap₂ (λ a b. a ++ b) (items_alike item_delayed e.tag (fin-instants h.fin)) (cc (e.tag, h.deadline))))

cycle-alike : {c d : Cycle} → AlikeCycle c d → cycle_items c ≡ cycle_items d
unfolding cycle_items
cycle-alike h =
    picked h.inits (λ q. ap₂ (λ a b. a ++ b) (items_alike item_resend refl (ladder-instants (h.init q).ladder)) (cc (h.init q).deadline))
    (λ _. picked h.owns (λ q. pending-alike (h.pendi q))
    (λ _. picked h.peers (λ q. cc ((epoch_fields (h.pendr q).ep).tag, (h.pendr q).deadline)) (λ _. refl)))

current-alike : {c d : MayEpoch} → Same cur_view c d → current_items c ≡ current_items d
unfolding current_items
current-alike e =
    picked (cur-some e)
    (λ q. let h = cur-ep e q in ap₂ (λ a b. a ++ b) (items_alike item_fin h.tag (fin-instants h.fin)) (items_alike item_elicit h.tag (elicit-instants (some-when h.moved) h.elicit)))
    (λ _. refl)

current-instants : {c d : MayEpoch} → Same cur_view c d → current_instants c ≡ current_instants d
unfolding current_instants
current-instants e =
    picked (cur-some e)
    (λ q. let h = cur-ep e q in ap₂ (λ a b. a ++ b) (fin-instants h.fin) (elicit-instants (some-when h.moved) h.elicit))
    (λ _. refl)

cycle-instants : {c d : Cycle} → AlikeCycle c d → cycle_instants c ≡ cycle_instants d
unfolding cycle_instants
cycle-instants h =
    picked h.inits (λ q. cc (ladder-instants (h.init q).ladder, (h.init q).deadline))
    (λ _. picked h.owns (λ q. cc ((h.pendi q).deadline, may-instants (h.pendi q).probes, fin-instants (h.pendi q).fin))
    (λ _. picked h.peers (λ q. cc (h.pendr q).deadline) (λ _. refl)))

at-hard : (s : State) (cfg : Config) → exhausted s cfg ≡ true → s.cur.some ≡ true
unfolding exhausted
at-hard s cfg e = holds-first s.cur.some _ e

-- some epoch is held where a flag or a kind says so
any_held : (s : State) → some_in (epochs_of s) ≡ (s.cur.some || ((is_pend_i s.cycle.kind || is_pend_r s.cycle.kind) || s.drain.some))
unfolding epochs_of pending_of
any_held s = under s.cur.some (is_pend_i s.cycle.kind) (is_pend_r s.cycle.kind) s.drain.some
  where
    under : (c p r d : Bool) → some_in (listed c s.cur.ep ++ (pick p (s.cycle.pendi.ep ∷ []) (pick r (s.cycle.pendr.ep ∷ []) []) ++ listed d s.drain.ep)) ≡ (c || ((p || r) || d))
    under true p r d = refl
    under false true r d = refl
    under false false true d = refl
    under false false false true = refl
    under false false false false = refl

offerable-alike : {x y : Epoch} → AlikeEpoch x y → offerable x ≡ offerable y
offerable-alike h = cc (h.delegated, index (λ b n. b) (λ u v. refl) h.lease)

module _ {s t : State} (a : Alike s t) where
  drain-alike : drain_items s ≡ drain_items t
  unfolding drain_items
  drain-alike =
      listed-items item_drain (drain-some a.drain) (λ q. (drain_fields a.drain q).deadline) (λ q. (drain_fields a.drain q).ep.tag)

  candidate_alike : candidate_items s ≡ candidate_items t
  unfolding candidate_items candidate_view
  candidate_alike = each-alike a.cands (λ c. item c.deadline item_candidate c.seq)

  named-alike : named s ≡ named t
  unfolding named
  named-alike = cc (drain-alike, candidate_alike, cycle-alike (cycle_fields a.cycle), current-alike a.cur)

  pub items-due : (now : ℕ) → due_items s now ≡ due_items t now
  unfolding due_items
  items-due now = rw named-alike

  pub due-alike : (now : ℕ) → any_due s now ≡ any_due t now
  unfolding any_due
  due-alike now = rw (items-due now)

  -- ---- the other conditions

  pub exhausted-alike : (cfg : Config) → exhausted s cfg ≡ exhausted t cfg
  unfolding exhausted
  exhausted-alike cfg = both (cur-some a.cur) (λ q. cc (cur-ep a.cur q).sent)

  pub opening-alike : opening_idle s ≡ opening_idle t
  unfolding opening_idle
  opening-alike = cc (cur-some a.cur, idles (cycle_fields a.cycle), count-alike a.cands)

  pub teardown-alike : (cfg : Config) → teardown_stands s cfg ≡ teardown_stands t cfg
  unfolding teardown_stands
  teardown-alike cfg = cc (opening-alike, exhausted-alike cfg)

  pub held-alike : held_something s ≡ held_something t
  unfolding held_something
  held-alike =
      let c = cycle_fields a.cycle in
      cc (any_held s, any_held t, cur-some a.cur, c.owns, c.peers, drain-some a.drain, c.inits, count-alike a.cands)

  pub offer-alike : (workers : Bool) → offer_owed s workers ≡ offer_owed t workers
  unfolding offer_owed
  offer-alike workers =
      cc (
        both (cur-some a.cur) (λ q. offerable-alike (cur-ep a.cur q)),
        both (drain-some a.drain) (λ q. offerable-alike (drain_fields a.drain q).ep),
      )

  pub quiet-alike : (cfg : Config) (p : Profile) (now : ℕ) (workers : Bool) → quiet_of s cfg p now workers ≡ quiet_of t cfg p now workers
  unfolding quiet_of
  quiet-alike cfg p now workers = cc (due-alike now, called-alike a cfg p now, teardown-alike cfg, offer-alike workers)

  -- ---- the wake

  stored-alike : stored_instants s ≡ stored_instants t
  unfolding stored_instants standing
  stored-alike =
      cc (listed-alike (drain-some a.drain) (λ q. (drain_fields a.drain q).deadline), deadlines_alike a.cands, cycle-instants (cycle_fields a.cycle), current-instants a.cur)

  pub wake-alike : (cfg : Config) (p : Profile) → wake_of s cfg p ≡ wake_of t cfg p
  unfolding wake_of wake_instants
  wake-alike cfg p =
      cc (stored-alike, start-at a cfg p, listed-alike (exhausted-alike cfg) (λ q. (cur-ep a.cur (at-hard s cfg q)).started))
