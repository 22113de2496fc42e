-- What hearing the previous epoch leaves: an accepted state, and no start past t. A revert makes the
-- drained epoch current and the assumed one pending, so that tags and starts only change places.
use Rattle.std.specs.Prelude.{ℕ, Bool, true, false, not, ◌≡◌}
use Rattle.std.proofs.lemmas.Bool.{false≢true}
use Rattle.std.proofs.Math.Path.{refl}
use Rattle.std.proofs.Common.{arith}
use Rattle.settings.specs.declared.Config.{Config}
use Rattle.epoch.specs.declared.MayEpoch.{MayEpoch}
use Rattle.epoch.specs.Put.{put_ep}
use Rattle.cycle.specs.Kind.{is_init, is_pend_i, is_pend_r}
use Rattle.state.specs.declared.State.{State}
use Rattle.state.specs.declared.Given.{Given}
use Rattle.state.specs.Parts.{put_mem}
use Rattle.time.specs.Pick.{and}
use Rattle.grace.specs.Grace.{grace}
use Rattle.law_refusal.specs.Sound.{Sound}
use Rattle.frame_evidence.specs.Evidence.{prompted_now, unassumed, reverted_pend, heard_any, only_assumed, confirming}
use Rattle.frame_hear.specs.Hear.{HearStep, revert_of, assumed_heard, confirming_heard, heard_previous}
use Rattle.law_sound.specs.Ladders.{revert-within}
use Rattle.law_sound.specs.Parts.{on-mem, keep-cur}
use Rattle.law_sound.specs.Cutover.{apart}
use Rattle.law_early.specs.Early.{Early}
use Rattle.law_early.specs.Parts.{with_mem, with_cur}
use Rattle.law_frame.specs.Hearing.{prompted_like, stayed-sound, stayed-early}
use Rattle.time.specs.Pick.{by-test}

-- ---- `revert`, with a current and a drained epoch held

module _ (s : State) (cfg : Config) (now : ℕ) (d : s.drain.some ≡ true) where
  revert-sound : Sound s → Sound (revert_of s cfg now).state
  unfolding revert_of reverted_pend unassumed
  revert-sound o =
      record {
        count = o.count;
        pendi-led = λ e. refl;
        pendr-led = λ e. absurd (false≢true e);
        drain-led = λ e. absurd (false≢true e);
        cur-pendi = λ e. apart s.cur.ep.tag s.drain.ep.tag (o.cur-drain d);
        cur-pendr = λ e. absurd (false≢true e);
        cur-drain = λ e. absurd (false≢true e);
        pendi-drain = λ e q. absurd (false≢true q);
        pendr-drain = λ e. absurd (false≢true e);
        seqs = o.seqs;
        init-ladder = λ e. absurd (false≢true e);
        pendi-fin = λ e q. absurd (false≢true q);
        pendi-probes = λ e q. revert-within cfg;
        cur-ladders = λ e. o.drain-ladders d;
        pendi-ladders = λ e. record { fin = λ q. absurd (false≢true q); elicit = λ q. absurd (false≢true q) };
        pendr-ladders = λ e. absurd (false≢true e);
        drain-ladders = λ e. absurd (false≢true e);
      }

  revert-early : (t : ℕ) → s.cur.some ≡ true → Early s t → Early (revert_of s cfg now).state t
  unfolding revert_of reverted_pend unassumed
  revert-early t c o =
      record {
        link = o.link;
        cutover = o.cutover;
        current = λ e. o.drained d;
        own = λ e. o.current c;
        peers = λ e. absurd (false≢true e);
        drained = λ e. absurd (false≢true e);
      }

-- ---- `heard_previous`

module _ (s : State) (g : Given) where
  assumed-sound : s.drain.some ≡ true → Sound s → Sound (assumed_heard s g).state
  unfolding assumed_heard
  assumed-sound d o =
      by-test (λ (x : HearStep). Sound x.state) (is_init s.cycle.kind) _ _ (λ e. revert-sound s g.cfg g.now d o)
      (λ e. by-test (λ (x : HearStep). Sound x.state) (is_pend_i s.cycle.kind) _ _ (λ e. stayed-sound s o (grace s.mem g.cfg) g.now)
      (λ e. by-test (λ (x : HearStep). Sound x.state) (is_pend_r s.cycle.kind) _ (revert_of s g.cfg g.now) (λ e. o)
      (λ e. revert-sound s g.cfg g.now d o)))

  assumed-early : (t : ℕ) → s.cur.some ≡ true → s.drain.some ≡ true → Early s t → Early (assumed_heard s g).state t
  unfolding assumed_heard
  assumed-early t c d o =
      by-test (λ (x : HearStep). Early x.state t) (is_init s.cycle.kind) _ _ (λ e. revert-early s g.cfg g.now d t c o)
      (λ e. by-test (λ (x : HearStep). Early x.state t) (is_pend_i s.cycle.kind) _ _ (λ e. stayed-early s t o (grace s.mem g.cfg) g.now)
      (λ e. by-test (λ (x : HearStep). Early x.state t) (is_pend_r s.cycle.kind) _ (revert_of s g.cfg g.now) (λ e. o)
      (λ e. revert-early s g.cfg g.now d t c o)))

  asks : Bool
  asks = confirming s.cur g.profile.at_proof g.cfg g.now

  confirming-sound : Sound s → Sound (confirming_heard s g).state
  unfolding confirming_heard asks
  confirming-sound o =
      let l = prompted_like s.cur.ep asks g.now in
      keep-cur s o (put_ep s.cur (prompted_now s.cur.ep asks g.now).ep) refl l.tag (λ q. l.ladders (o.cur-ladders q))

  confirming-early : (t : ℕ) → Early s t → Early (confirming_heard s g).state t
  unfolding confirming_heard asks
  confirming-early t o =
      let l = prompted_like s.cur.ep asks g.now in
      with_cur s t o (put_ep s.cur (prompted_now s.cur.ep asks g.now).ep) (λ q. omega (arith, l.started, o.current q))

only-held : (cur : MayEpoch) → only_assumed cur ≡ true → cur.some ≡ true
unfolding only_assumed
only-held cur e = under cur.some e
  where
    under : (b : Bool) → and b (and cur.ep.assumed (not cur.ep.heard.some)) ≡ true → b ≡ true
    under true e = refl
    under false e = e

module _ (s : State) (g : Given) (d : s.drain.some ≡ true) where
  pub previous_sound : Sound s → Sound (heard_previous s g).state
  unfolding heard_previous
  previous_sound o =
      let m : State = put_mem s (heard_any s.mem g.now) in
      let p : Sound m = on-mem s o (heard_any s.mem g.now) in
      by-test (λ (x : HearStep). Sound x.state) (only_assumed s.cur) (assumed_heard m g) (confirming_heard m g)
      (λ e. assumed-sound m g d p) (λ e. confirming-sound m g p)

  pub previous_early : (t : ℕ) → Early s t → Early (heard_previous s g).state t
  unfolding heard_previous heard_any
  previous_early t o =
      let m : State = put_mem s (heard_any s.mem g.now) in
      let p : Early m t = with_mem s t o (heard_any s.mem g.now) o.link o.cutover in
      by-test (λ (x : HearStep). Early x.state t) (only_assumed s.cur) (assumed_heard m g) (confirming_heard m g)
      (λ e. assumed-early m g t (only-held s.cur e) d p) (λ e. confirming-early m g t p)
