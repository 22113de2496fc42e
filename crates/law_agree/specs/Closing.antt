-- What a poll tells after its passes is decided by what stands.
use Rattle.std.specs.Prelude.{ℕ, Bool, ◌&&◌, ◌≡◌, refl, List, [], ◌∷◌, ◌++◌, eqb, get_or}
use Rattle.std.proofs.Math.Bool.{true, not}
use Rattle.std.proofs.Common.{◌∙◌}
use Rattle.std.proofs.Math.Path.{ap, ap₂}
use Rattle.time.specs.Pick.{pick}
use Rattle.time.specs.Lists.{kept}
use Rattle.settings.specs.declared.Config.{Config}
use Rattle.epoch.specs.declared.Epoch.{Epoch}
use Rattle.cycle.specs.Kind.{is_pend_i, waits_evidence}
use Rattle.state.specs.declared.State.{State}
use Rattle.state.specs.declared.Given.{Given}
use Rattle.events.specs.Events.{Event, words_of}
use Rattle.events.specs.Queries.{any_of, offers}
use Rattle.events.specs.Withdraw.{given, names, sealable, words_stay}
use Rattle.poll_close.specs.Closing.{idle_now, tests_out, ends_now, start_out, offer_out, offering, going, waits_for, sealing, closing, unsealed}
use Rattle.law_alike.specs.Optional.{picked, both, holds-first}
use Rattle.law_alike.specs.Parts.{AlikeEpoch, epoch_fields}
use Rattle.law_alike.specs.Cycle.{cycle_fields, wait-evidence}
use Rattle.law_alike.specs.Whole.{Alike, cur-some, cur-ep, drain-some, drain_fields}
use Rattle.law_alike.specs.Start.{start-kind, called-alike}
use Rattle.law_alike.specs.Due.{exhausted-alike, opening-alike}
use Rattle.law_agree.specs.Told.{delegate_out_lem}

offer-out : {b c : Bool} {x y : Epoch} → b ≡ c → (b ≡ true → AlikeEpoch x y) → (workers : Bool) (told : List Event) → offer_out b x workers told ≡ offer_out c y workers told
unfolding offer_out
offer-out {b = b} {x = x} e f workers told =
    picked (both e (λ q. ap (λ n. not (any_of (offers n) told)) (f q).tag)) (λ r. delegate_out_lem (f (holds-first b (not (any_of (offers x.tag) told)) r)) workers) (λ _. refl)

-- a prompt that names an epoch which may be absent
names-alike : {b c : Bool} {x y : ℕ} → b ≡ c → (b ≡ true → x ≡ y) → (tag : ℕ) → names (given b x) tag ≡ names (given c y) tag
names-alike e f tag = picked e (λ q. ap (λ n. eqb tag n) (f q)) (λ _. refl)

kept_by : {A : Type 0} (p q : A → Bool) → ((a : A) → p a ≡ q a) → (l : List A) → kept p l ≡ kept q l
unfolding kept
kept_by p q h [] = refl
kept_by p q h (a ∷ l) = ap₂ (λ b m. pick b (a ∷ m) m) (h a) (kept_by p q h l)

module _ {s t : State} (a : Alike s t) where
  idle_now_lem : (ended : Bool) → idle_now s ended ≡ idle_now t ended
  unfolding idle_now
  idle_now_lem ended = ap (λ b. not ended && b) (opening-alike a)

  tests-out : (cfg : Config) (ended : Bool) → tests_out s cfg ended ≡ tests_out t cfg ended
  unfolding tests_out
  tests-out cfg ended = cc (idle_now_lem ended, exhausted-alike a cfg)

  ends_now_lem : (cfg : Config) (ended : Bool) → ends_now s cfg ended ≡ ends_now t cfg ended
  unfolding ends_now
  ends_now_lem cfg ended = cc (idle_now_lem ended, exhausted-alike a cfg)

  start-out : (g : Given) → start_out s g ≡ start_out t g
  unfolding start_out
  start-out g = cc (called-alike a g.cfg g.profile g.now, start-kind a g.cfg g.profile g.now)

  cur-offer : (workers : Bool) (told : List Event) → offering s.cur.some s.cur.ep workers told ≡ offering t.cur.some t.cur.ep workers told
  cur-offer workers told = ap (λ l. told ++ l) (offer-out (cur-some a.cur) (λ q. cur-ep a.cur q) workers told)

  drain-offer : (workers : Bool) (told : List Event) → offering s.drain.some s.drain.ep workers told ≡ offering t.drain.some t.drain.ep workers told
  drain-offer workers told = ap (λ l. told ++ l) (offer-out (drain-some a.drain) (λ q. (drain_fields a.drain q).ep) workers told)

  going-alike : (g : Given) (ended : Bool) (told : List Event) → going s g ended told ≡ going t g ended told
  unfolding going
  going-alike g ended told =
      ap (λ l. pick ended told l)
      (drain-offer g.workers (offering s.cur.some s.cur.ep g.workers (told ++ start_out s g))
      ∙ ap (λ l. offering t.drain.some t.drain.ep g.workers l)
      (cur-offer g.workers (told ++ start_out s g) ∙ ap (λ l. offering t.cur.some t.cur.ep g.workers (told ++ l)) (start-out g)))

  waits_for_lem : waits_for s.cycle.kind s.cycle.pendi.wait ≡ waits_for t.cycle.kind t.cycle.pendi.wait
  unfolding waits_for
  waits_for_lem = let c = cycle_fields a.cycle in both c.owns (λ q. wait-evidence (c.pendi q).wait)

  waits-is : waits_for s.cycle.kind s.cycle.pendi.wait ≡ true → is_pend_i s.cycle.kind ≡ true
  unfolding waits_for
  waits-is e = holds-first (is_pend_i s.cycle.kind) (waits_evidence s.cycle.pendi.wait) e

  sealing-alike : (l : List Event) → sealing s l ≡ sealing t l
  unfolding sealing words_stay sealable
  sealing-alike l =
      kept_by _ _
      (λ e. ap₂ (λ p q. pick (eqb (get_or (words_of e) 0 0) 1) (pick p true q) true)
      (names-alike (cur-some a.cur) (λ q. (cur-ep a.cur q).tag) (get_or (words_of e) 1 0))
      (names-alike waits_for_lem (λ q. (epoch_fields ((cycle_fields a.cycle).pendi (waits-is q)).ep).tag) (get_or (words_of e) 1 0)))
      l

  -- with every prompt still there
  pub unsealed-alike : (g : Given) (ended : Bool) (told : List Event) → unsealed s g ended told ≡ unsealed t g ended told
  unsealed-alike g ended told =
      going-alike g (ends_now s g.cfg ended) (told ++ tests_out s g.cfg ended)
      ∙ ap₂ (λ b l. going t g b (told ++ l)) (ends_now_lem g.cfg ended) (tests-out g.cfg ended)

  pub closing-alike : (g : Given) (ended : Bool) (told : List Event) → closing s g ended told ≡ closing t g ended told
  unfolding closing
  closing-alike g ended told = sealing-alike (unsealed s g ended told) ∙ ap (sealing t) (unsealed-alike g ended told)
