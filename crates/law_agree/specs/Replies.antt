-- A start reply, a told sent count, the wake and the link line are decided by what stands.
use Rattle.std.specs.Prelude.{ℕ, Bool, true, false, not, ◌≡◌, [], ◌∷◌, ◌++◌}
use Rattle.std.proofs.Math.Path.{refl, ap, ap₂}
use Rattle.std.proofs.Common.{sym, ◌∙◌, eqb-true}
use Rattle.std.proofs.Math.Dec.{ltb}
use Rattle.time.specs.declared.When.{When}
use Rattle.time.specs.Pick.{pick}
use Rattle.settings.specs.declared.Config.{Config}
use Rattle.epoch.specs.declared.Epoch.{Epoch}
use Rattle.cycle.specs.declared.Cycle.{Cycle}
use Rattle.cycle.specs.Kind.{is_init, is_pend_i, is_pend_r, is_idle}
use Rattle.state.specs.declared.Memory.{Memory}
use Rattle.state.specs.declared.State.{State}
use Rattle.state.specs.declared.Profile.{Profile}
use Rattle.state.specs.Stands.{init, epoch_view, attempt_view, cycle_view, memory_view}
use Rattle.refusal.specs.Refusal.{numbered, first, by, before_link}
use Rattle.call_reply.specs.declared.StartReply.{StartReply}
use Rattle.call_reply.specs.Reply.{setup_rtt, setup_first, setup_sched, attempt_sched, attempt_of, raises_silence, silence_after, memory_after, started_of, taken_of, replied_tests, reply_refused, reply_of}
use Rattle.time.specs.Time.{whenever}
use Rattle.call_sent.specs.Told.{put_sent, below_held, told_tests, told_number, told_state, told_of}
use Rattle.call_read.specs.Read.{woke_of, kind_shown, quiet_time, status_of}
use Rattle.law_alike.specs.Optional.{Same, picked, both, related}
use Rattle.law_alike.specs.Parts.{AlikeEpoch, AlikeMemory, memory_fields}
use Rattle.law_alike.specs.Cycle.{AlikeCycle, cycle_fields}
use Rattle.law_alike.specs.Whole.{Alike, cur-some, cur-ep, cur-whole}
use Rattle.law_alike.specs.Start.{value-alike, latest-alike, interval_alike, start-kind, called-alike}
use Rattle.law_alike.specs.Due.{wake-alike}
use Rattle.law_alike.specs.Refusals.{tests-alike, link-tests}
use Rattle.law_agree.specs.Outcomes.{Outcomes, outcome-alike}
use Rattle.law_agree.specs.Turn.{with_cur}

-- ---- a start reply

module _ {m n : Memory} (h : AlikeMemory m n) (cfg : Config) where
  attempt-alike : (p : Profile) (now : ℕ) (r : StartReply) → attempt_of m cfg p now r ≡ attempt_of n cfg p now r
  unfolding attempt_of attempt_sched setup_sched setup_first setup_rtt
  attempt-alike p now r = cc (value-alike h.hs_rtt 0, value-alike h.srtt 0, value-alike h.setup_rto 0)

  silence-after : {w z : When} → w ≡ z → silence_after m cfg w ≡ silence_after n cfg z
  unfolding silence_after raises_silence
  silence-after e = cc (interval_alike h cfg, h.silence, e)

  memory_after_lem : {w z : When} → w ≡ z → Same memory_view (memory_after m cfg w) (memory_after n cfg z)
  unfolding memory_after memory_view
  memory_after_lem e = record { eq = cc (silence-after e) }

module _ {s t : State} (a : Alike s t) (cfg : Config) (p : Profile) (now : ℕ) where
  started-alike : (r : StartReply) → Alike (started_of s cfg p now r) (started_of t cfg p now r)
  unfolding started_of cycle_view
  started-alike r =
      let m = memory_fields a.mem in
      record {
        mem = memory_after_lem m cfg (start-kind a cfg p now);
        cur = a.cur;
        drain = a.drain;
        cycle = record { eq = ap (λ x. init (attempt_view x)) (attempt-alike m cfg p now r) };
        cands = a.cands;
      }

  taken-alike : (r : StartReply) → Alike (taken_of s cfg p now r) (taken_of t cfg p now r)
  unfolding taken_of
  taken-alike r = related Alike {p = r.opened} {q = r.opened} refl (λ _. started-alike r) (λ _. a)

  refused-alike : reply_refused s cfg p now ≡ reply_refused t cfg p now
  unfolding reply_refused replied_tests
  refused-alike = ap₂ (λ l b. first (l ++ by 10 (not b) ∷ [])) (link-tests a cfg p) (called-alike a cfg p now)

pub reply-alike : {s t : State} → Alike s t → (cfg : Config) (p : Profile) (now : ℕ) (r : StartReply) → Outcomes (reply_of s cfg p now r) (reply_of t cfg p now r)
unfolding reply_of
reply-alike a cfg p now r =
    outcome-alike a (refused-alike a cfg p now)
    (λ _. record { number = refl; place = refl; state = taken-alike a cfg p now r; written = refl; out = refl; count = refl })

-- ---- a told sent count

put-sent : {x y : Epoch} → AlikeEpoch x y → (n : ℕ) → Same epoch_view (put_sent x n) (put_sent y n)
unfolding epoch_view
put-sent h n = record { eq = cc }

module _ {s t : State} (a : Alike s t) (count : ℕ) where
  below-held : below_held s.cur.some s.cur.ep.sent count ≡ below_held t.cur.some t.cur.ep.sent count
  unfolding below_held
  below-held = both (cur-some a.cur) (λ q. ap (λ n. ltb count n) (cur-ep a.cur q).sent)

  told-number : told_number s count ≡ told_number t count
  unfolding told_number told_tests
  told-number = ap₂ (λ l b. (first (l ++ by 11 b ∷ [])).number) (tests-alike a) below-held

  told-state : Alike (told_state s count) (told_state t count)
  unfolding told_state
  told-state =
      related Alike (cur-some a.cur) (λ q. with_cur a (cur-whole (cur-some a.cur) (λ _. put-sent (cur-ep a.cur q) count))) (λ _. a)

pub told-alike : {s t : State} → Alike s t → (count : ℕ) → Outcomes (told_of s count) (told_of t count)
unfolding told_of
told-alike a count =
    outcome-alike a (ap (λ n. numbered n) (told-number a count))
    (λ _. record { number = refl; place = refl; state = told-state a count; written = refl; out = refl; count = refl })

-- ---- the wake and the link line

module _ {s t : State} (a : Alike s t) (cfg : Config) (p : Profile) where
  before-alike : before_link s cfg p ≡ before_link t cfg p
  before-alike = ap first (link-tests a cfg p)

  pub woke_alike : woke_of s cfg p ≡ woke_of t cfg p
  unfolding woke_of
  woke_alike = cc (before-alike, wake-alike a cfg p)

kind-shown : {c d : Cycle} → AlikeCycle c d → kind_shown c.kind ≡ kind_shown d.kind
unfolding kind_shown
kind-shown {c} {d} h = under (is_init c.kind) (is_pend_i c.kind) (is_pend_r c.kind) refl refl refl
  where
    under : (i p r : Bool) → is_init c.kind ≡ i → is_pend_i c.kind ≡ p → is_pend_r c.kind ≡ r → pick (is_idle c.kind) 0 c.kind ≡ pick (is_idle d.kind) 0 d.kind
    under true p r x y z = cc (eqb-true c.kind 1 x, eqb-true d.kind 1 (sym h.inits ∙ x))
    under false true r x y z = cc (eqb-true c.kind 2 y, eqb-true d.kind 2 (sym h.owns ∙ y))
    under false false true x y z = cc (eqb-true c.kind 3 z, eqb-true d.kind 3 (sym h.peers ∙ z))
    under false false false x y z = cc (x, y, z, h.inits, h.owns, h.peers)

pub status_alike : {s t : State} → Alike s t → (cfg : Config) (p : Profile) (time : ℕ) → status_of s cfg p time ≡ status_of t cfg p time
unfolding status_of quiet_time
status_alike {s} {t} a cfg p time =
    let tag : whenever s.cur.some s.cur.ep.tag ≡ whenever t.cur.some t.cur.ep.tag =
    picked (cur-some a.cur) (λ q. cc (cur-ep a.cur q).tag) (λ _. refl) in
    let quiet : quiet_time s time ≡ quiet_time t time =
    picked (cur-some a.cur) (λ q. cc (latest-alike (memory_fields a.mem).rx_cur s.cur.ep.started, (cur-ep a.cur q).started)) (λ _. refl) in
    cc (before-alike a cfg p, wake-alike a cfg p, kind-shown (cycle_fields a.cycle), tag, quiet)
