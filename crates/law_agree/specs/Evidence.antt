-- What a frame tells of each part of the state is decided by what stands.
use Rattle.std.specs.Prelude.{ℕ, Bool, true, false, ◌≡◌, [], ◌∷◌, leb}
use Rattle.std.proofs.Math.Bool.{not}
use Rattle.std.proofs.Math.Path.{refl, ap, subst}
use Rattle.std.proofs.Common.{◌∙◌}
use Rattle.time.specs.declared.When.{When}
use Rattle.time.specs.Pick.{pick}
use Rattle.time.specs.Time.{at, later_of, least}
use Rattle.settings.specs.declared.Config.{Config}
use Rattle.epoch.specs.declared.Epoch.{Epoch}
use Rattle.epoch.specs.declared.MayEpoch.{MayEpoch}
use Rattle.epoch.specs.declared.Drain.{Drain}
use Rattle.epoch.specs.Put.{put_fin, put_elicit, put_assumed, drop_fin, drop_ladder}
use Rattle.cycle.specs.declared.Cycle.{Cycle}
use Rattle.cycle.specs.Kind.{is_pend_i, waits_evidence}
use Rattle.candidates.specs.declared.Candidates.{Candidates}
use Rattle.candidates.specs.Held.{kept_after}
use Rattle.state.specs.declared.Memory.{Memory}
use Rattle.state.specs.Stands.{when_view, epoch_view, drain_view, pend_iView, cycle_view, candidates_view, memory_view}
use Rattle.events.specs.Events.{Prompt, no_rungs}
use Rattle.time.specs.Pick.{and, and_left}
use Rattle.frame_evidence.specs.Evidence.{EpochStep, put_heard, put_moved, blind_to, prompt_due, staying, moves_now, heard_first, heard_cands, moved_first, shortened, prompted_now, stayed_now, heard_epoch, unassumed, reverted_pend, heard_any, only_assumed, confirming}
use Rattle.law_alike.specs.Optional.{Same, when, related, some-when}
use Rattle.law_alike.specs.Parts.{AlikeEpoch, epoch_fields, epoch-whole, AlikeMemory}
use Rattle.law_alike.specs.Ladders.{fin-some}
use Rattle.law_alike.specs.Cycle.{AlikeCycle, wait-evidence}
use Rattle.law_alike.specs.Whole.{cur_view, cur-some, cur-ep, drain-some, drain_fields, drain-whole}
use Rattle.law_alike.specs.Candidates.{kept-alike, cleared_alike}
use Rattle.law_agree.specs.Rows.{related2, anded, put-elicit, with_probes_lem, put-pendi}

pub record EpochSteps (a b : EpochStep) : Type 0 where
  pub ep : Same epoch_view a.ep b.ep
  pub out : a.out ≡ b.out

-- ---- tests

prompt-due : {w z : When} → Same when_view w z → (now : ℕ) → prompt_due w now ≡ prompt_due z now
unfolding prompt_due
prompt-due e now = when (λ b t. pick b (leb (later_of t 1000) now) true) (λ u v. refl) e

pub blind_alike : {x y : Epoch} → AlikeEpoch x y → (proof probe : Bool) → blind_to x proof probe ≡ blind_to y proof probe
unfolding blind_to
blind_alike h proof probe = cc h.responder

pub moves_now_lem : {x y : Epoch} → AlikeEpoch x y → {b c : Bool} → b ≡ c → moves_now x b ≡ moves_now y c
unfolding moves_now
moves_now_lem h e = cc (some-when h.moved, e)

staying-alike : {c d : Cycle} → AlikeCycle c d → {g g' : ℕ} → g ≡ g' → (now : ℕ) → staying c g now ≡ staying d g' now
unfolding staying
staying-alike {c} {d} h {g' = g'} e now =
    anded (anded h.owns (λ q. wait-evidence (h.pendi q).wait))
    (λ r. let q = and_left (is_pend_i c.kind) (waits_evidence c.pendi.wait) r in
    ap (λ n. and c.pendi.probed.some (leb (later_of c.pendi.probed.at n) now)) e
    ∙ when (λ b t. and b (leb (later_of t g') now)) (λ u v. refl) (h.pendi q).probed)

-- ---- hearing the current epoch

heard-anew : {x y : Epoch} → AlikeEpoch x y → (now : ℕ) → Same epoch_view (put_assumed (put_fin (put_heard x (at now)) (drop_fin x.fin)) false) (put_assumed (put_fin (put_heard y (at now)) (drop_fin y.fin)) false)
unfolding epoch_view
heard-anew h now = record { eq = cc }

moved-anew : {x y : Epoch} → AlikeEpoch x y → (now : ℕ) → Same epoch_view (put_elicit (put_moved x (at now)) (drop_ladder x.elicit) x.prompted) (put_elicit (put_moved y (at now)) (drop_ladder y.elicit) y.prompted)
unfolding epoch_view
moved-anew h now = record { eq = cc }

shed-assumed : {x y : Epoch} → AlikeEpoch x y → Same epoch_view (put_assumed (put_elicit (put_fin x (drop_fin x.fin)) (drop_ladder x.elicit) x.prompted) false) (put_assumed (put_elicit (put_fin y (drop_fin y.fin)) (drop_ladder y.elicit) y.prompted) false)
unfolding epoch_view
shed-assumed h = record { eq = cc }

module _ {x y : Epoch} (h : AlikeEpoch x y) where
  pub heard-first : (now : ℕ) → Same epoch_view (heard_first x now) (heard_first y now)
  unfolding heard_first
  heard-first now = related (Same epoch_view) (some-when h.heard) (λ _. epoch-whole h) (λ _. heard-anew h now)

  pub moved-first : {b c : Bool} → b ≡ c → (now : ℕ) → Same epoch_view (moved_first x b now) (moved_first y c now)
  unfolding moved_first
  moved-first e now = related (Same epoch_view) (moves_now_lem h e) (λ _. moved-anew h now) (λ _. epoch-whole h)

  pub prompted_now_lem : {b c : Bool} → b ≡ c → (now : ℕ) → EpochSteps (prompted_now x b now) (prompted_now y c now)
  unfolding prompted_now
  prompted_now_lem e now =
      related2 EpochSteps e (λ _. prompt-due h.prompted now)
      (λ _ _. record { ep = put-elicit h h.elicit (record { eq = refl }); out = ap (λ n. Prompt n no_rungs ∷ []) h.tag })
      (record { ep = epoch-whole h; out = refl })

  pub heard-cands : {v w : Candidates} → Same candidates_view v w → (smaller : Bool) → Same candidates_view (heard_cands v x smaller) (heard_cands w y smaller)
  unfolding heard_cands
  heard-cands {v} {w} e smaller =
      related2 (Same candidates_view) (ap not (some-when h.heard)) (λ _. fin-some h.fin)
      (λ _ _. related (Same candidates_view) {p = smaller} {q = smaller} refl (λ _. cleared_alike e)
      (λ _. subst (λ n. Same candidates_view (kept_after v x.started) (kept_after w n)) h.started (kept-alike e x.started)))
      e

  pub un_assumed : Same epoch_view (unassumed x) (unassumed y)
  unfolding unassumed
  un_assumed = shed-assumed h

  pub reverted_pend_lem : (cfg : Config) (now : ℕ) → Same pend_iView (reverted_pend x cfg now) (reverted_pend y cfg now)
  unfolding reverted_pend pend_iView
  reverted_pend_lem cfg now = record { eq = cc un_assumed.eq }

pub heard-epoch : {x y : Epoch} → AlikeEpoch x y → {b c : Bool} → b ≡ c → (now : ℕ) → EpochSteps (heard_epoch x b now) (heard_epoch y c now)
unfolding heard_epoch
heard-epoch h e now =
    prompted_now_lem (epoch_fields (moved-first (epoch_fields (heard-first h now)) e now)) e now

pub shortened-alike : {c d : Drain} → Same drain_view c d → {b b' : Bool} → b ≡ b' → (hold now : ℕ) → Same drain_view (shortened c b hold now) (shortened d b' hold now)
unfolding shortened
shortened-alike h e hold now =
    related2 (Same drain_view) e (λ _. anded (drain-some h) (λ q. ap not (drain_fields h q).evidenced))
    (λ _ _. drain-whole (drain-some h) (λ q. let f = drain_fields h q in record { view = f.view; ep = f.ep; deadline = ap (λ n. least n (later_of now hold)) f.deadline; evidenced = refl }))
    h

pub stayed_now_lem : {c d : Cycle} → AlikeCycle c d → {g g' : ℕ} → g ≡ g' → (now : ℕ) → Same cycle_view (stayed_now c g now) (stayed_now d g' now)
unfolding stayed_now
stayed_now_lem h e now =
    related (Same cycle_view) (staying-alike h e now)
    (λ _. put-pendi h (λ q. let f = h.pendi q in with_probes_lem f f.probes f.probed refl)) (λ _. h.whole)

-- ---- hearing the previous epoch

pub heard-any : {m n : Memory} → AlikeMemory m n → (now : ℕ) → Same memory_view (heard_any m now) (heard_any n now)
unfolding memory_view heard_any
heard-any h now = record { eq = cc }

module _ {c d : MayEpoch} (e : Same cur_view c d) where
  pub only-assumed : only_assumed c ≡ only_assumed d
  unfolding only_assumed
  only-assumed = anded (cur-some e) (λ q. let h = cur-ep e q in cc (h.assumed, some-when h.heard))

  pub assumed-held : only_assumed c ≡ true → c.some ≡ true
  unfolding only_assumed
  assumed-held r = and_left c.some (and c.ep.assumed (not c.ep.heard.some)) r

  pub confirming-alike : (proof : Bool) (cfg : Config) (now : ℕ) → c.some ≡ true → confirming c proof cfg now ≡ confirming d proof cfg now
  unfolding confirming
  confirming-alike proof cfg now q =
      let h = cur-ep e q in
      cc (cur-some e, h.responder, some-when h.moved, h.started)
