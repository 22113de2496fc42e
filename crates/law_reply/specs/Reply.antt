-- A start reply leaves an accepted state accepted and moves no start: an attempt has no epoch.
use Rattle.std.specs.Prelude.{ℕ, ◌≡◌, []}
use Rattle.std.proofs.lemmas.Bool.{false≢true}
use Rattle.time.specs.Pick.{pick, of_choice}
use Rattle.time.specs.Time.{at}
use Rattle.ladder.specs.declared.Schedule.{Schedule}
use Rattle.settings.specs.declared.Config.{Config}
use Rattle.params.specs.Params.{first_made}
use Rattle.state.specs.declared.Memory.{Memory}
use Rattle.state.specs.declared.State.{State}
use Rattle.state.specs.declared.Profile.{Profile}
use Rattle.refusal.specs.Refusal.{state_back}
use Rattle.law_refusal.specs.Sound.{Within, Sound, sound, sounding}
use Rattle.call_reply.specs.declared.StartReply.{StartReply}
use Rattle.answer.specs.Outcome.{done}
use Rattle.answer.proofs.Laws.{by-either}
use Rattle.call_reply.specs.Reply.{measures, setup_first, setup_sched, attempt_sched, attempt_of, memory_after, started_of, taken_of, reply_refused, reply_of}
use Rattle.law_sound.specs.Ladders.{doubling_within, first-within}
use Rattle.law_early.specs.Early.{Early}

setup_within : (m : Memory) (cfg : Config) → Within (setup_sched m cfg).len 0
unfolding setup_sched
setup_within m cfg = doubling_within (setup_first m cfg) 255 (at cfg.handshake)

attempt-within : (m : Memory) (cfg : Config) (p : Profile) → Within (attempt_sched m cfg p).len 0
unfolding attempt_sched
attempt-within m cfg p = of_choice (λ (x : Schedule). Within x.len 0) (measures p) (setup_sched m cfg) (first_made cfg).sched (setup_within m cfg) (first-within cfg)

module _ (s : State) (cfg : Config) (p : Profile) (now : ℕ) (r : StartReply) where
  started-sound : Sound s → Sound (started_of s cfg p now r)
  unfolding started_of attempt_of
  started-sound o =
      record {
        count = o.count;
        pendi-led = λ e. absurd (false≢true e);
        pendr-led = λ e. absurd (false≢true e);
        drain-led = o.drain-led;
        cur-pendi = λ e. absurd (false≢true e);
        cur-pendr = λ e. absurd (false≢true e);
        cur-drain = o.cur-drain;
        pendi-drain = λ e. absurd (false≢true e);
        pendr-drain = λ e. absurd (false≢true e);
        seqs = o.seqs;
        init-ladder = λ e. attempt-within s.mem cfg p;
        pendi-fin = λ e. absurd (false≢true e);
        pendi-probes = λ e. absurd (false≢true e);
        cur-ladders = o.cur-ladders;
        pendi-ladders = λ e. absurd (false≢true e);
        pendr-ladders = λ e. absurd (false≢true e);
        drain-ladders = o.drain-ladders;
      }

  started-early : (t : ℕ) → Early s t → Early (started_of s cfg p now r) t
  unfolding started_of memory_after
  started-early t o =
      record {
        link = o.link;
        cutover = o.cutover;
        current = o.current;
        own = λ e. absurd (false≢true e);
        peers = λ e. absurd (false≢true e);
        drained = o.drained;
      }

  -- refused or not, opened or not
  pub reply-kept : Sound s → Sound (reply_of s cfg p now r).state
  unfolding reply_of taken_of
  reply-kept o =
      by-either (reply_refused s cfg p now) s (done (pick r.opened (started_of s cfg p now r) s) []) (λ a. Sound a.state) o
      (of_choice Sound r.opened (started_of s cfg p now r) s (started-sound o) o)

  pub reply-accepted : state_back s ≡ 0 → state_back (reply_of s cfg p now r).state ≡ 0
  reply-accepted e = sounding (reply_of s cfg p now r).state (reply-kept (sound s e))

  pub reply-ages : (t : ℕ) → Early s t → Early (reply_of s cfg p now r).state t
  unfolding reply_of taken_of
  reply-ages t o =
      by-either (reply_refused s cfg p now) s (done (pick r.opened (started_of s cfg p now r) s) []) (λ a. Early a.state t) o
      (of_choice (λ x. Early x t) r.opened (started_of s cfg p now r) s (started-early t o) o)
