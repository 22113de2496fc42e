-- Cycles with the same view: the same kind, and in its own case the same record.
use Rattle.std.specs.Prelude.{ℕ, Bool, ◌≡◌, eqb}
use Rattle.std.proofs.Math.Bool.{true, false}
use Rattle.std.proofs.Math.Path.{refl, ap}
use Rattle.std.proofs.Common.{sym, ◌∙◌, arith, eqb-true}
use Rattle.time.specs.Pick.{pick}
use Rattle.cycle.specs.declared.Cycle.{Cycle}
use Rattle.cycle.specs.Kind.{is_init, is_pend_i, is_pend_r, is_idle, waits_held, waits_evidence, waits_delay}
use Rattle.state.specs.Stands.{AttemptView, attempt_view, Wait, held, evidence, delay, PendIView, pend_iView, PendRView, pend_rView, CycleView, idle, init, pend_i, pend_r, cycle_view}
use Rattle.refusal.proofs.Standing.{other-kind}
use Rattle.law_alike.specs.Optional.{Same, picked}
use Rattle.law_alike.specs.Parts.{wait_view, AlikeAttempt, attempt_fields, AlikePendI, pendi_fields, AlikePendR, pendr_fields}

-- ---- what a view tells

abbrev was_init : CycleView → Bool
was_init idle = false
was_init (init a) = true
was_init (pend_i p) = false
was_init (pend_r p) = false

abbrev was_pend_i : CycleView → Bool
was_pend_i idle = false
was_pend_i (init a) = false
was_pend_i (pend_i p) = true
was_pend_i (pend_r p) = false

abbrev was_pend_r : CycleView → Bool
was_pend_r idle = false
was_pend_r (init a) = false
was_pend_r (pend_i p) = false
was_pend_r (pend_r p) = true

abbrev init_or : AttemptView → CycleView → AttemptView
init_or z idle = z
init_or z (init a) = a
init_or z (pend_i p) = z
init_or z (pend_r p) = z

abbrev pend_i_or : PendIView → CycleView → PendIView
pend_i_or z idle = z
pend_i_or z (init a) = z
pend_i_or z (pend_i p) = p
pend_i_or z (pend_r p) = z

abbrev pend_r_or : PendRView → CycleView → PendRView
pend_r_or z idle = z
pend_r_or z (init a) = z
pend_r_or z (pend_i p) = z
pend_r_or z (pend_r p) = p

-- ---- its kind

apart : (k a b : ℕ) → (a ≡ b → ⊥) → pick (eqb k a) false (eqb k b) ≡ eqb k b
apart k a b n = under (eqb k a) refl
  where
    under : (q : Bool) → eqb k a ≡ q → pick q false (eqb k b) ≡ eqb k b
    under true e = sym (other-kind k a b n e)
    under false e = refl

module _ (c : Cycle) where
  shows-init : was_init (cycle_view c) ≡ is_init c.kind
  unfolding cycle_view
  shows-init = under (is_init c.kind) (is_pend_i c.kind) (is_pend_r c.kind)
    where
      under : (i p r : Bool) → was_init (pick i (init (attempt_view c.init)) (pick p (pend_i (pend_iView c.pendi)) (pick r (pend_r (pend_rView c.pendr)) idle))) ≡ i
      under true p r = refl
      under false true r = refl
      under false false true = refl
      under false false false = refl

  shows-pendi : was_pend_i (cycle_view c) ≡ is_pend_i c.kind
  unfolding cycle_view
  shows-pendi = under (is_init c.kind) (is_pend_i c.kind) (is_pend_r c.kind) ∙ apart c.kind 1 2 (λ e. omega arith)
    where
      under : (i p r : Bool) → was_pend_i (pick i (init (attempt_view c.init)) (pick p (pend_i (pend_iView c.pendi)) (pick r (pend_r (pend_rView c.pendr)) idle))) ≡ pick i false p
      under true p r = refl
      under false true r = refl
      under false false true = refl
      under false false false = refl

  shows-pendr : was_pend_r (cycle_view c) ≡ is_pend_r c.kind
  unfolding cycle_view
  shows-pendr =
      under (is_init c.kind) (is_pend_i c.kind) (is_pend_r c.kind)
      ∙ ap (pick (is_init c.kind) false) (apart c.kind 2 3 (λ e. omega arith))
      ∙ apart c.kind 1 3 (λ e. omega arith)
    where
      under : (i p r : Bool) → was_pend_r (pick i (init (attempt_view c.init)) (pick p (pend_i (pend_iView c.pendi)) (pick r (pend_r (pend_rView c.pendr)) idle))) ≡ pick i false (pick p false r)
      under true p r = refl
      under false true r = refl
      under false false true = refl
      under false false false = refl

  -- in a case of its own
  is-init : is_init c.kind ≡ true → cycle_view c ≡ init (attempt_view c.init)
  unfolding cycle_view
  is-init h = rw (eqb-true c.kind 1 h)

  is-pendi : is_pend_i c.kind ≡ true → cycle_view c ≡ pend_i (pend_iView c.pendi)
  unfolding cycle_view
  is-pendi h = rw (eqb-true c.kind 2 h)

  is-pendr : is_pend_r c.kind ≡ true → cycle_view c ≡ pend_r (pend_rView c.pendr)
  unfolding cycle_view
  is-pendr h = rw (eqb-true c.kind 3 h)

pub record AlikeCycle (c d : Cycle) : Type 0 where
  pub whole : Same cycle_view c d
  pub inits : is_init c.kind ≡ is_init d.kind
  pub owns : is_pend_i c.kind ≡ is_pend_i d.kind
  pub peers : is_pend_r c.kind ≡ is_pend_r d.kind
  pub init : is_init c.kind ≡ true → AlikeAttempt c.init d.init
  pub pendi : is_pend_i c.kind ≡ true → AlikePendI c.pendi d.pendi
  pub pendr : is_pend_r c.kind ≡ true → AlikePendR c.pendr d.pendr

pub cycle_fields : {c d : Cycle} → Same cycle_view c d → AlikeCycle c d
cycle_fields {c} {d} h =
    let e = h.eq in
    let i : is_init c.kind ≡ is_init d.kind = sym (shows-init c) ∙ ap was_init e ∙ shows-init d in
    let p : is_pend_i c.kind ≡ is_pend_i d.kind = sym (shows-pendi c) ∙ ap was_pend_i e ∙ shows-pendi d in
    let r : is_pend_r c.kind ≡ is_pend_r d.kind = sym (shows-pendr c) ∙ ap was_pend_r e ∙ shows-pendr d in
    record {
      whole = h;
      inits = i;
      owns = p;
      peers = r;
      init = λ q. attempt_fields (record { eq = ap (init_or (attempt_view c.init)) (sym (is-init c q) ∙ e ∙ is-init d (sym i ∙ q)) });
      pendi = λ q. pendi_fields (record { eq = ap (pend_i_or (pend_iView c.pendi)) (sym (is-pendi c q) ∙ e ∙ is-pendi d (sym p ∙ q)) });
      pendr = λ q. pendr_fields (record { eq = ap (pend_r_or (pend_rView c.pendr)) (sym (is-pendr c q) ∙ e ∙ is-pendr d (sym r ∙ q)) });
    }

pub idles : {c d : Cycle} → AlikeCycle c d → is_idle c.kind ≡ is_idle d.kind
idles h = rw (h.inits, h.owns, h.peers)

-- ---- cycles made of alike parts

pub cycle-whole :
    {c d : Cycle} → is_init c.kind ≡ is_init d.kind → (is_init c.kind ≡ true → Same attempt_view c.init d.init)
    → is_pend_i c.kind ≡ is_pend_i d.kind → (is_pend_i c.kind ≡ true → Same pend_iView c.pendi d.pendi)
    → is_pend_r c.kind ≡ is_pend_r d.kind → (is_pend_r c.kind ≡ true → Same pend_rView c.pendr d.pendr)
    → Same cycle_view c d
unfolding cycle_view
cycle-whole i a p b r e =
    record { eq = picked i (λ h. ap init (a h).eq) (λ _. picked p (λ h. ap pend_i (b h).eq) (λ _. picked r (λ h. ap pend_r (e h).eq) (λ _. refl))) }

-- ---- waits

abbrev was_held : Wait → Bool
was_held held = true
was_held evidence = false
was_held delay = false

abbrev was_evidence : Wait → Bool
was_evidence held = false
was_evidence evidence = true
was_evidence delay = false

shows-held : (w : ℕ) → was_held (wait_view w) ≡ waits_held w
shows-held w = under (waits_held w) (waits_evidence w)
  where
    under : (a b : Bool) → was_held (pick a held (pick b evidence delay)) ≡ a
    under true b = refl
    under false true = refl
    under false false = refl

shows-evidence : (w : ℕ) → was_evidence (wait_view w) ≡ waits_evidence w
shows-evidence w = under (waits_held w) (waits_evidence w) ∙ apart w 0 1 (λ e. omega arith)
  where
    under : (a b : Bool) → was_evidence (pick a held (pick b evidence delay)) ≡ pick a false b
    under true b = refl
    under false true = refl
    under false false = refl

module _ {w v : ℕ} (e : Same wait_view w v) where
  pub wait-held : waits_held w ≡ waits_held v
  wait-held = sym (shows-held w) ∙ ap was_held e.eq ∙ shows-held v

  pub wait-evidence : waits_evidence w ≡ waits_evidence v
  wait-evidence = sym (shows-evidence w) ∙ ap was_evidence e.eq ∙ shows-evidence v

  pub wait-delay : waits_delay w ≡ waits_delay v
  wait-delay = rw (wait-held, wait-evidence)
