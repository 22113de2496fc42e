-- What hearing the current epoch leaves: an accepted state, and no start past t.
use Rattle.std.specs.Prelude.{ℕ, ◌≤◌, Bool, true, false, not, ◌≡◌}
use Rattle.std.proofs.lemmas.Bool.{false≢true}
use Rattle.std.proofs.Math.Path.{refl, ap}
use Rattle.std.proofs.Common.{sym, ◌∙◌, arith}
use Rattle.time.specs.Pick.{pick, by-test}
use Rattle.time.specs.Time.{at, least, later_of}
use Rattle.epoch.specs.declared.Epoch.{Epoch}
use Rattle.epoch.specs.declared.MayEpoch.{MayEpoch}
use Rattle.epoch.specs.declared.Drain.{Drain}
use Rattle.epoch.specs.Put.{put_fin, put_elicit, put_assumed, drop_fin, drop_ladder}
use Rattle.cycle.specs.Put.{put_pend_i, with_probes}
use Rattle.candidates.specs.declared.Candidates.{Candidates}
use Rattle.candidates.specs.Held.{firsts, cleared_of, kept_after}
use Rattle.candidates.specs.Repeats.{repeated}
use Rattle.candidates.proofs.Laws.{cleared_len, cleared_once, kept-len, kept-once}
use Rattle.state.specs.declared.Memory.{Memory}
use Rattle.state.specs.declared.State.{State}
use Rattle.state.specs.declared.Given.{Given}
use Rattle.state.specs.Parts.{put_mem, put_cur, put_drain, put_cycle, put_cands}
use Rattle.time.specs.Pick.{and}
use Rattle.grace.specs.Grace.{grace}
use Rattle.law_refusal.specs.Sound.{EpochSound, Sound}
use Rattle.cutover.specs.Cutover.{heard_frame}
use Rattle.frame_evidence.specs.Evidence.{EpochStep, put_heard, put_moved, blind_to, prompt_due, staying, moves_now, heard_first, heard_cands, moved_first, shortened, prompted_now, stayed_now, heard_epoch}
use Rattle.frame_hear.specs.Hear.{HearStep, hearing, heard_current}
use Rattle.law_sound.specs.Parts.{on-mem, keep-drain, keep-pendi, keep-cur, new-cands}
use Rattle.law_early.specs.Early.{Early}
use Rattle.law_early.specs.Parts.{with_mem, with_drain, with_cur, with_pendi, with_cands}

-- ---- the current epoch: its tag and its start stay, and its ladders stay or go

pub record Like (e x : Epoch) : Type 0 where
  pub tag : x.tag ≡ e.tag
  pub started : x.started ≡ e.started
  pub ladders : EpochSound e → EpochSound x

like_self : (e : Epoch) → Like e e
like_self e = record { tag = refl; started = refl; ladders = λ o. o }

like_then : (e x y : Epoch) → Like e x → Like x y → Like e y
like_then e x y a b = record { tag = b.tag ∙ a.tag; started = b.started ∙ a.started; ladders = λ o. b.ladders (a.ladders o) }

first_like : (e : Epoch) (now : ℕ) → Like e (heard_first e now)
unfolding heard_first
first_like e now =
    by-test (Like e) e.heard.some e (put_assumed (put_fin (put_heard e (at now)) (drop_fin e.fin)) false)
    (λ h. like_self e)
    (λ h. record { tag = refl; started = refl; ladders = λ o. record { fin = λ q. absurd (false≢true q); elicit = o.elicit } })

moved_like : (e : Epoch) (blind : Bool) (now : ℕ) → Like e (moved_first e blind now)
unfolding moved_first
moved_like e blind now =
    by-test (Like e) (moves_now e blind) (put_elicit (put_moved e (at now)) (drop_ladder e.elicit) e.prompted) e
    (λ h. record { tag = refl; started = refl; ladders = λ o. record { fin = o.fin; elicit = λ q. absurd (false≢true q) } })
    (λ h. like_self e)

pub prompted_like : (e : Epoch) (asks : Bool) (now : ℕ) → Like e (prompted_now e asks now).ep
unfolding prompted_now
prompted_like e asks now =
    by-test (λ (x : EpochStep). Like e x.ep) (and asks (prompt_due e.prompted now)) _ _
    (λ h. record { tag = refl; started = refl; ladders = λ o. record { fin = o.fin; elicit = o.elicit } })
    (λ h. like_self e)

heard_like : (e : Epoch) (blind : Bool) (now : ℕ) → Like e (heard_epoch e blind now).ep
unfolding heard_epoch
heard_like e blind now =
    like_then e (heard_first e now) _ (first_like e now)
    (like_then (heard_first e now) (moved_first (heard_first e now) blind now) _ (moved_like (heard_first e now) blind now)
    (prompted_like (moved_first (heard_first e now) blind now) blind now))

-- ---- the drain: the same epoch, at most shortened

abbrev SameDrain : Drain → Drain → Type 0
SameDrain d x = (x.some ≡ d.some) × (x.ep ≡ d.ep)

shortened_same : (d : Drain) (moves : Bool) (hold now : ℕ) → SameDrain d (shortened d moves hold now)
unfolding shortened
shortened_same d moves hold now =
    by-test (SameDrain d) (and moves (and d.some (not d.evidenced))) (record { some = d.some; ep = d.ep; deadline = least d.deadline (later_of now hold); evidenced = true }) d
    (λ h. (refl, refl)) (λ h. (refl, refl))

-- ---- the candidates: some stay

abbrev Fits : Candidates → Type 0
Fits v = (v.len ≤ 32) × (repeated (firsts v.len v.seq) ≡ false)

heard-fits : (v : Candidates) (e : Epoch) (smaller : Bool) → Fits v → Fits (heard_cands v e smaller)
unfolding heard_cands
heard-fits v e smaller f =
    by-test Fits (and (not e.heard.some) e.fin.some) (pick smaller (cleared_of v) (kept_after v e.started)) v
    (λ h. by-test Fits smaller (cleared_of v) (kept_after v e.started)
    (λ q. (omega (arith, cleared_len v), cleared_once v f.1))
    (λ q. (omega (arith, kept-len v e.started, f.0), kept-once v f.1 e.started)))
    (λ h. f)

-- ---- the cycle: a pending own epoch may be marked as stayed

module _ (s : State) (o : Sound s) where
  pub stayed-sound : (g now : ℕ) → Sound (put_cycle s (stayed_now s.cycle g now))
  unfolding stayed_now
  stayed-sound g now =
      by-test (λ c. Sound (put_cycle s c)) (staying s.cycle g now) (put_pend_i s.cycle (with_probes s.cycle.pendi s.cycle.pendi.probes s.cycle.pendi.probed true)) s.cycle
      (λ h. keep-pendi s o (with_probes s.cycle.pendi s.cycle.pendi.probes s.cycle.pendi.probed true) refl o.pendi-fin o.pendi-probes)
      (λ h. o)

module _ (s : State) (t : ℕ) (o : Early s t) where
  pub stayed-early : (g now : ℕ) → Early (put_cycle s (stayed_now s.cycle g now)) t
  unfolding stayed_now
  stayed-early g now =
      by-test (λ c. Early (put_cycle s c) t) (staying s.cycle g now) (put_pend_i s.cycle (with_probes s.cycle.pendi s.cycle.pendi.probes s.cycle.pendi.probed true)) s.cycle
      (λ h. with_pendi s t o (with_probes s.cycle.pendi s.cycle.pendi.probes s.cycle.pendi.probed true) refl)
      (λ h. o)

-- ---- `heard_current`

module _ (s : State) (g : Given) (k : Bool) where
  module _ (blind : Bool) where
    mem : Memory
    mem = heard_frame s.mem k g.now

    cur : MayEpoch
    cur = record { some = true; ep = (heard_epoch s.cur.ep blind g.now).ep }

    drain : Drain
    drain = shortened s.drain (moves_now s.cur.ep blind) g.cfg.drain g.now

    cands : Candidates
    cands = heard_cands s.cands s.cur.ep g.profile.smaller

    abbrev s1 : State
    s1 = put_mem s mem

    abbrev s2 : State
    s2 = put_cur s1 cur

    abbrev s3 : State
    s3 = put_drain s2 drain

    abbrev s4 : State
    s4 = put_cycle s3 (stayed_now s.cycle (grace s.mem g.cfg) g.now)

    whole : (hearing s g k blind).state ≡ put_cands s4 cands
    unfolding hearing mem cur drain cands
    whole = refl

    hearing-sound : Sound s → s.cur.some ≡ true → Sound (hearing s g k blind).state
    unfolding hearing mem cur drain cands
    hearing-sound o h =
        let l = heard_like s.cur.ep blind g.now in
        let d = shortened_same s.drain (moves_now s.cur.ep blind) g.cfg.drain g.now in
        let f = heard-fits s.cands s.cur.ep g.profile.smaller (o.count, o.seqs) in
        let o1 : Sound s1 = on-mem s o mem in
        let o2 : Sound s2 = keep-cur s1 o1 cur (sym h) l.tag (λ q. l.ladders (o.cur-ladders h)) in
        let o3 : Sound s3 = keep-drain s2 o2 drain d.0 d.1 in
        new-cands s4 (stayed-sound s3 o3 (grace s.mem g.cfg) g.now) cands f.0 f.1

    hearing-early : (t : ℕ) → Early s t → s.cur.some ≡ true → Early (hearing s g k blind).state t
    unfolding hearing heard_frame mem cur drain cands
    hearing-early t o h =
        let l = heard_like s.cur.ep blind g.now in
        let d = shortened_same s.drain (moves_now s.cur.ep blind) g.cfg.drain g.now in
        let o1 : Early s1 t = with_mem s t o mem o.link o.cutover in
        let o2 : Early s2 t = with_cur s1 t o1 cur (λ q. omega (arith, l.started, o.current h)) in
        let o3 : Early s3 t = with_drain s2 t o2 drain (λ q. omega (arith, ap (λ (x : Epoch). x.started) d.1, o.drained (sym d.0 ∙ q))) in
        with_cands s4 t (stayed-early s3 t o3 (grace s.mem g.cfg) g.now) cands

  pub current-sound : (probe : Bool) → Sound s → Sound (heard_current s g k probe).state
  unfolding heard_current
  current-sound probe o =
      by-test (λ (x : HearStep). Sound x.state) s.cur.some (hearing s g k (blind_to s.cur.ep g.profile.at_proof probe)) _
      (λ h. hearing-sound (blind_to s.cur.ep g.profile.at_proof probe) o h) (λ h. o)

  pub current-early : (probe : Bool) (t : ℕ) → Early s t → Early (heard_current s g k probe).state t
  unfolding heard_current
  current-early probe t o =
      by-test (λ (x : HearStep). Early x.state t) s.cur.some (hearing s g k (blind_to s.cur.ep g.profile.at_proof probe)) _
      (λ h. hearing-early (blind_to s.cur.ep g.profile.at_proof probe) t o h) (λ h. o)
