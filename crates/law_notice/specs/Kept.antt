-- Accepted calls leave accepted states, and starts stay early: the five notices, refused or not. A notice
-- moves no start, so its instant does not count.
use Rattle.std.specs.Prelude.{ℕ, Bool, true, ◌≡◌, refl, ℤ}
use Rattle.std.proofs.Math.Bool.{false}
use Rattle.std.proofs.Common.{arith}
use Rattle.time.specs.declared.When.{When}
use Rattle.time.specs.Pick.{of_choice}
use Rattle.settings.specs.declared.Config.{Config}
use Rattle.epoch.specs.declared.Epoch.{Epoch}
use Rattle.epoch.specs.Put.{put_ep}
use Rattle.state.specs.declared.Memory.{Memory}
use Rattle.state.specs.declared.State.{State}
use Rattle.state.specs.declared.Profile.{Profile}
use Rattle.state.specs.declared.Given.{Given}
use Rattle.state.specs.Parts.{put_mem}
use Rattle.refusal.specs.Refusal.{before_frame, state_back}
use Rattle.answer.specs.Outcome.{Outcome, done}
use Rattle.answer.proofs.Laws.{by-either}
use Rattle.law_refusal.specs.Sound.{Sound, sound, sounding}
use Rattle.law_sound.specs.Parts.{on-mem, keep-cur}
use Rattle.law_early.specs.Early.{Early}
use Rattle.law_early.specs.Parts.{with_mem, with_cur, with_drain}
use Rattle.frame_hear.specs.Hear.{HearStep}
use Rattle.law_frame.specs.Hearing.{Like, current-sound, current-early}
use Rattle.law_frame.specs.Revert.{previous_sound, previous_early}
use Rattle.notice_rows.specs.Rows.{put_floor, put_recv, put_current, put_previous, raised, raised_current, raised_previous, worker_of, already, handed, data_mem, data_sent_of, path_mem, path_of}
use Rattle.notice_rows.proofs.Laws.{slotted}
use Rattle.notice.specs.Notices.{notice_by}

-- ---- what a state that follows another keeps of it

pub record Keeps (s x : State) : Type 0 where
  -- 3 to 6 pass it
  pub sound : Sound s → Sound x
  -- no start is past t
  pub early : (t : ℕ) → Early s t → Early x t

pub keeps_self : (s : State) → Keeps s s
keeps_self s = record { sound = λ o. o; early = λ t y. y }

keeps_then : {s x y : State} → Keeps s x → Keeps x y → Keeps s y
keeps_then a b = record { sound = λ o. b.sound (a.sound o); early = λ t y. b.early t (a.early t y) }

-- ---- an epoch with that tag, that start and such ladders, in the current or the previous place

module _ (s : State) (e : Epoch) where
  current_like : Like s.cur.ep e → Keeps s (put_current s e)
  current_like l =
      record {
        sound = λ o. keep-cur s o (put_ep s.cur e) refl l.tag (λ q. l.ladders (o.cur-ladders q));
        early = λ t y. with_cur s t y (put_ep s.cur e) (λ q. omega (arith, l.started, y.current q));
      }

  previous_like : Like s.drain.ep e → Keeps s (put_previous s e)
  previous_like l =
      record {
        sound =
            λ o. record {
              count = o.count;
              pendi-led = o.pendi-led;
              pendr-led = o.pendr-led;
              drain-led = o.drain-led;
              cur-pendi = o.cur-pendi;
              cur-pendr = o.cur-pendr;
              cur-drain = λ d. rw l.tag (o.cur-drain d);
              pendi-drain = λ k d. rw l.tag (o.pendi-drain k d);
              pendr-drain = λ k d. rw l.tag (o.pendr-drain k d);
              seqs = o.seqs;
              init-ladder = o.init-ladder;
              pendi-fin = o.pendi-fin;
              pendi-probes = o.pendi-probes;
              cur-ladders = o.cur-ladders;
              pendi-ladders = o.pendi-ladders;
              pendr-ladders = o.pendr-ladders;
              drain-ladders = λ d. l.ladders (o.drain-ladders d);
            };
        early = λ t y. with_drain s t y _ (λ q. omega (arith, l.started, y.drained q));
      }

floor_like : (e : Epoch) (w : When) → Like e (put_floor e w)
floor_like e w = record { tag = refl; started = refl; ladders = λ o. record { fin = o.fin; elicit = o.elicit } }

recv_like : (e : Epoch) (on : Bool) → Like e (put_recv e on)
recv_like e on = record { tag = refl; started = refl; ladders = λ o. record { fin = o.fin; elicit = o.elicit } }

-- a memory with that link start and that last cutover
mem_keeps : (s : State) (m : Memory) → m.link_since ≡ s.mem.link_since → m.last_cutover ≡ s.mem.last_cutover → Keeps s (put_mem s m)
mem_keeps s m e f =
    record {
      sound = λ o. on-mem s o m;
      early = λ t y. with_mem s t y m (rw e y.link) (rw f y.cutover);
    }

-- ---- the five

module _ (s : State) (g : Given) (tag : ℕ) (k : Bool) (counter : ℕ) where
  raised-current : Keeps s (raised_current s counter)
  unfolding raised_current
  raised-current = current_like s _ (floor_like s.cur.ep (raised s.cur.ep.floor counter))

  raised_previous_lem : Keeps s (raised_previous s counter)
  unfolding raised_previous
  raised_previous_lem = previous_like s _ (floor_like s.drain.ep (raised s.drain.ep.floor counter))

  still-drained : s.drain.some ≡ true → (raised_previous s counter).drain.some ≡ true
  unfolding raised_previous
  still-drained d = d

  pub worker_keeps : Keeps s (worker_of s g tag k counter).state
  unfolding worker_of
  worker_keeps =
      slotted (λ (x : HearStep). Keeps s x.state) s tag _ _ _ _
      (λ c. keeps_then raised-current (record { sound = current-sound (raised_current s counter) g k false; early = current-early (raised_current s counter) g k false }))
      (λ d. keeps_then raised_previous_lem (record { sound = previous_sound (raised_previous s counter) g (still-drained d); early = previous_early (raised_previous s counter) g (still-drained d) }))
      (keeps_self s) (keeps_self s)

pub handed_keeps : (s : State) (tag : ℕ) (on : Bool) (same early : ℕ) → Keeps s (handed s tag on same early).state
unfolding handed
handed_keeps s tag on same early =
    slotted (λ (x : HearStep). Keeps s x.state) s tag _ _ _ _
    (λ c. of_choice (λ (x : HearStep). Keeps s x.state) (already s.cur.ep.delegated on) _ _ (keeps_self s) (current_like s _ (recv_like s.cur.ep on)))
    (λ d. of_choice (λ (x : HearStep). Keeps s x.state) (already s.drain.ep.delegated on) _ _ (keeps_self s) (previous_like s _ (recv_like s.drain.ep on)))
    (keeps_self s) (keeps_self s)

pub data_keeps : (s : State) → Keeps s (data_sent_of s).state
unfolding data_mem
data_keeps s = mem_keeps s (data_mem s.mem) refl refl

pub path_keeps : (s : State) (reachable : Bool) (srtt : When) → Keeps s (path_of s reachable srtt).state
unfolding path_mem
path_keeps s reachable srtt = mem_keeps s (path_mem s.mem reachable srtt) refl refl

-- ---- the call: what its case keeps, it keeps; sent back, it leaves the state

module _ (s : State) (cfg : Config) (p : Profile) (spread : ℤ) (step : HearStep) (h : Keeps s step.state) where
  pub notice_keeps : Keeps s (notice_by s cfg p spread step).state
  unfolding notice_by
  notice_keeps =
      by-either (before_frame s cfg p spread) s (done step.state step.out) (λ (a : Outcome). Keeps s a.state) (keeps_self s) h

  -- an accepted state stays accepted
  pub notice_kept : state_back s ≡ 0 → state_back (notice_by s cfg p spread step).state ≡ 0
  notice_kept e = sounding _ (notice_keeps.sound (sound s e))
