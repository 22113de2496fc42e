-- A told sent count and an `open`: accepted states, and no start past t.
use Rattle.std.specs.Prelude.{ℕ, ◌≤◌, Bool, [], ℤ}
use Rattle.std.proofs.lemmas.Bool.{false≢true}
use Rattle.std.proofs.Common.{◌∙◌, arith}
use Rattle.time.specs.Pick.{pick, of_choice}
use Rattle.settings.specs.declared.Config.{Config}
use Rattle.epoch.specs.declared.Index.{Index}
use Rattle.epoch.specs.Put.{put_ep}
use Rattle.state.specs.declared.State.{State}
use Rattle.state.specs.declared.Profile.{Profile}
use Rattle.state.specs.Parts.{put_cur}
use Rattle.refusal.specs.Refusal.{numbered, before_open}
use Rattle.law_refusal.specs.Sound.{Sound, sound, sounding}
use Rattle.call_open.specs.Blank.{no_current, no_drain, idle}
use Rattle.answer.specs.Outcome.{done}
use Rattle.answer.proofs.Laws.{by-either}
use Rattle.call_open.specs.Open.{new_memory, first_epoch, alone, fresh_state, blank_state, opened, open_of}
use Rattle.call_sent.specs.Told.{put_sent, told_number, told_state, told_of}
use Rattle.call_open.proofs.Laws.{open_accepted}
use Rattle.call_sent.proofs.Laws.{told-accepted}
use Rattle.law_early.specs.Early.{Early}
use Rattle.law_early.specs.Parts.{with_cur}

-- ---- a told sent count, refused or not

module _ (s : State) (count : ℕ) where
  pub told-kept : Sound s → Sound (told_of s count).state
  told-kept o = sound (told_of s count).state (told-accepted s count ∙ sounding s o)

  pub told-ages : (t : ℕ) → Early s t → Early (told_of s count).state t
  unfolding told_of told_state
  told-ages t o =
      by-either (numbered (told_number s count)) s (done (pick s.cur.some (put_cur s (put_ep s.cur (put_sent s.cur.ep count))) s) []) (λ a. Early a.state t) o
      (of_choice (λ x. Early x t) s.cur.some (put_cur s (put_ep s.cur (put_sent s.cur.ep count))) s
      (with_cur s t o (put_ep s.cur (put_sent s.cur.ep count)) o.current) o)

-- ---- an `open` at an instant that is not after t; a refused one hands back a blank state

module _ (cfg : Config) (p : Profile) (responder : Bool) (transport : ℕ) (lease : Index) (workers : Bool) (spread : ℤ) (time : ℕ) where
  pub open_kept : Sound (open_of cfg p responder transport lease workers spread time).state
  open_kept = sound (open_of cfg p responder transport lease workers spread time).state (open_accepted cfg p responder transport lease workers spread time)

  fresh-early : (t : ℕ) → time ≤ t → Early (fresh_state responder transport lease spread time) t
  unfolding fresh_state alone new_memory first_epoch no_drain idle
  fresh-early t n =
      record {
        link = n;
        cutover = λ e. absurd (false≢true e);
        current = λ e. n;
        own = λ e. absurd (false≢true e);
        peers = λ e. absurd (false≢true e);
        drained = λ e. absurd (false≢true e);
      }

  blank_early : (t : ℕ) → Early blank_state t
  unfolding blank_state alone new_memory no_current no_drain idle
  blank_early t =
      record {
        link = omega arith;
        cutover = λ e. absurd (false≢true e);
        current = λ e. absurd (false≢true e);
        own = λ e. absurd (false≢true e);
        peers = λ e. absurd (false≢true e);
        drained = λ e. absurd (false≢true e);
      }

  pub open_ages : (t : ℕ) → time ≤ t → Early (open_of cfg p responder transport lease workers spread time).state t
  unfolding open_of opened
  open_ages t n =
      by-either (before_open cfg p spread) blank_state (opened responder transport lease workers spread time) (λ a. Early a.state t) (blank_early t) (fresh-early t n)
