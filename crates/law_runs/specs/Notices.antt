-- The five notices as calls of a run. "They count among the other calls that two runs must share."
use Rattle.std.specs.Prelude.{ℕ, Bool, refl, ℤ}
use Rattle.std.proofs.Math.Option.{none}
use Rattle.time.specs.declared.When.{When}
use Rattle.settings.specs.declared.Config.{Config}
use Rattle.state.specs.declared.State.{State}
use Rattle.state.specs.declared.Profile.{Profile}
use Rattle.law_refusal.specs.Sound.{Sound}
use Rattle.frame_hear.specs.Hear.{HearStep, given_of}
use Rattle.notice_rows.specs.Rows.{worker_of, delegated_of, undelegated_of, data_sent_of, path_of}
use Rattle.notice.specs.Notices.{notice_by}
use Rattle.notice.proofs.Exact.{notice_exact}
use Rattle.law_alike.specs.Whole.{Alike, alike}
use Rattle.law_agree.specs.Hear.{HearSteps}
use Rattle.law_notice.specs.Kept.{Keeps, worker_keeps, handed_keeps, data_keeps, path_keeps, notice_keeps, notice_kept}
use Rattle.law_notice.specs.Agree.{worker-alike, handed-alike, data_alike, path-alike, notice_alike}
use Rattle.law_runs.specs.Served.{Name, worker, delegated, undelegated, datasent, path, no_buffers, step_of, Served}
use Rattle.law_runs.specs.Others.{refused, decided}

-- a notice by its case: what the case does to a state, with its two laws
module _
    (name : Name) (cfg : Config) (p : Profile) (now : ℕ) (spread : ℤ) (row : State → HearStep)
    (keeps : (s : State) → Keeps s (row s).state)
    (agrees : (s t : State) → Alike s t → Sound s → HearSteps (row s) (row t))
  where
    abbrev pub notice_served : Served
    notice_served =
        record {
          name = name;
          at = now;
          given = no_buffers;
          step = λ s. step_of no_buffers none (notice_by s cfg p spread (row s));
          kept = λ s. notice_kept s cfg p spread (row s) (keeps s);
          ages = λ s t o h. (notice_keeps s cfg p spread (row s) (keeps s)).early t;
          leaves = λ s q. (((notice_exact s cfg p spread (row s)).back (refused _ _ _ _ q)).0, refl);
          one = λ s t e. let a = alike (record { eq = e }) in decided (notice_alike a cfg p spread (agrees s t a)) refl;
        }

module _ (cfg : Config) (p : Profile) (now : ℕ) (workers : Bool) (spread : ℤ) where
  abbrev pub worker_served : ℕ → Bool → ℕ → Served
  worker_served tag k counter =
      notice_served worker cfg p now spread (λ s. worker_of s (given_of cfg p now workers) tag k counter)
      (λ s. worker_keeps s (given_of cfg p now workers) tag k counter)
      (λ s t a o. worker-alike a o (given_of cfg p now workers) tag k counter)

  abbrev pub delegated_served : ℕ → Served
  delegated_served tag =
      notice_served delegated cfg p now spread (λ s. delegated_of s tag) (λ s. handed_keeps s tag _ _ _) (λ s t a o. handed-alike a tag _ _ _)

  abbrev pub undelegated_served : ℕ → Served
  undelegated_served tag =
      notice_served undelegated cfg p now spread (λ s. undelegated_of s tag) (λ s. handed_keeps s tag _ _ _) (λ s t a o. handed-alike a tag _ _ _)

  abbrev pub data_sent_served : Served
  data_sent_served = notice_served datasent cfg p now spread data_sent_of data_keeps (λ s t a o. data_alike a)

  abbrev pub path_served : Bool → When → Served
  path_served reachable srtt =
      notice_served path cfg p now spread (λ s. path_of s reachable srtt) (λ s. path_keeps s reachable srtt) (λ s t a o. path-alike a reachable srtt)
