-- What hearing a frame leaves and tells is decided by what stands.
use Rattle.std.specs.Prelude.{ℕ, Bool, true, ◌≡◌, [], ◌∷◌, ◌++◌}
use Rattle.std.proofs.Math.Path.{refl, ap, ap₂}
use Rattle.settings.specs.declared.Config.{Config}
use Rattle.state.specs.declared.State.{State}
use Rattle.state.specs.declared.Given.{Given}
use Rattle.state.specs.Stands.{pend_i, cycle_view}
use Rattle.events.specs.Events.{Reverted, Prompt, no_rungs}
use Rattle.frame_hear.specs.Hear.{HearStep, hearing, heard_current, revert_of, assumed_heard, confirming_heard, heard_previous}
use Rattle.law_alike.specs.Optional.{related}
use Rattle.law_alike.specs.Parts.{memory_fields}
use Rattle.law_alike.specs.Cycle.{cycle_fields}
use Rattle.law_alike.specs.Whole.{Alike, cur-some, cur-ep, cur-whole, drain_fields}
use Rattle.law_agree.specs.Told.{abandon_out_lem}
use Rattle.law_agree.specs.Rows.{grace-alike}
use Rattle.law_agree.specs.Cutover.{heard-frame}
use Rattle.law_agree.specs.Turn.{with_mem, with_cur, with_cycle}
use Rattle.law_agree.specs.Evidence.{blind_alike, moves_now_lem, heard-epoch, heard-cands, shortened-alike, stayed_now_lem, prompted_now_lem, reverted_pend_lem, heard-any, only-assumed, confirming-alike}

pub record HearSteps (a b : HearStep) : Type 0 where
  pub state : Alike a.state b.state
  pub out : a.out ≡ b.out

module _ {s t : State} (a : Alike s t) (g : Given) where
  hearing-alike : s.cur.some ≡ true → (k : Bool) {b c : Bool} → b ≡ c → HearSteps (hearing s g k b) (hearing t g k c)
  unfolding hearing
  hearing-alike q k e =
      let h = cur-ep a.cur q in
      let m = memory_fields a.mem in
      let r = heard-epoch h e g.now in
      record {
        state = record {
          mem = heard-frame m k g.now;
          cur = cur-whole refl (λ _. r.ep);
          drain = shortened-alike a.drain (moves_now_lem h e) g.cfg.drain g.now;
          cycle = stayed_now_lem (cycle_fields a.cycle) (grace-alike m g.cfg) g.now;
          cands = heard-cands h a.cands g.profile.smaller;
        };
        out = r.out;
      }

  pub heard-current : (k probe : Bool) → HearSteps (heard_current s g k probe) (heard_current t g k probe)
  unfolding heard_current
  heard-current k probe =
      related HearSteps (cur-some a.cur)
      (λ q. hearing-alike q k (blind_alike (cur-ep a.cur q) g.profile.at_proof probe))
      (λ _. record { state = a; out = refl })

module _ {s t : State} (a : Alike s t) (held : s.cur.some ≡ true) (drained : s.drain.some ≡ true) where
  revert-alike : (cfg : Config) (now : ℕ) → HearSteps (revert_of s cfg now) (revert_of t cfg now)
  unfolding revert_of cycle_view
  revert-alike cfg now =
      let h = cur-ep a.cur held in
      let d = drain_fields a.drain drained in
      record {
        state = record {
          mem = a.mem;
          cur = cur-whole refl (λ _. d.view);
          drain = record { eq = refl };
          cycle = record { eq = ap pend_i (reverted_pend_lem h cfg now).eq };
          cands = a.cands;
        };
        out = ap₂ (λ n m. Reverted n ∷ Prompt n no_rungs ∷ Prompt m no_rungs ∷ []) h.tag d.ep.tag;
      }

  assumed-heard : (g : Given) → HearSteps (assumed_heard s g) (assumed_heard t g)
  unfolding assumed_heard
  assumed-heard g =
      let c = cycle_fields a.cycle in
      let r = revert-alike g.cfg g.now in
      related HearSteps c.inits (λ q. record { state = r.state; out = ap₂ (λ l m. l ++ m) (abandon_out_lem (c.init q) 6) r.out })
      (λ _. related HearSteps c.owns
      (λ _. record { state = with_cycle a (stayed_now_lem c (grace-alike (memory_fields a.mem) g.cfg) g.now); out = refl })
      (λ _. related HearSteps c.peers (λ _. record { state = a; out = refl }) (λ _. r)))

  confirming-heard : (g : Given) → HearSteps (confirming_heard s g) (confirming_heard t g)
  unfolding confirming_heard
  confirming-heard g =
      let r = prompted_now_lem (cur-ep a.cur held) (confirming-alike a.cur g.profile.at_proof g.cfg g.now held) g.now in
      record { state = with_cur a (cur-whole (cur-some a.cur) (λ _. r.ep)); out = r.out }

pub heard_previous_lem : {s t : State} → Alike s t → s.cur.some ≡ true → s.drain.some ≡ true → (g : Given) → HearSteps (heard_previous s g) (heard_previous t g)
unfolding heard_previous
heard_previous_lem {s} {t} a held drained g =
    let b = with_mem a (heard-any (memory_fields a.mem) g.now) in
    related HearSteps (only-assumed a.cur) (λ _. assumed-heard b held drained g) (λ _. confirming-heard b held drained g)
