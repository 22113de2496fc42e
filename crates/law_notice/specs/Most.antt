-- How many events a notice has at most, and that it has no count.
use Rattle.std.specs.Prelude.{ℕ, ◌≤◌, Bool, false, ◌≡◌, [], ℤ}
use Rattle.std.proofs.Math.Path.{refl}
use Rattle.std.proofs.Common.{arith}
use Rattle.std.proofs.Math.ListN.{length}
use Rattle.time.specs.declared.When.{When}
use Rattle.time.specs.Pick.{of_choice}
use Rattle.settings.specs.declared.Config.{Config}
use Rattle.state.specs.declared.State.{State}
use Rattle.state.specs.declared.Profile.{Profile}
use Rattle.state.specs.declared.Given.{Given}
use Rattle.refusal.specs.Refusal.{before_frame}
use Rattle.answer.specs.Outcome.{Outcome, done}
use Rattle.answer.proofs.Laws.{by-either}
use Rattle.frame_evidence.specs.Evidence.{blind_to, prompted_now, heard_epoch}
use Rattle.frame_hear.specs.Hear.{HearStep, given_of, hearing, heard_current}
use Rattle.notice_rows.proofs.Most.{worker-most, handed-most}
use Rattle.notice.specs.Notices.{notice_by, worker_answer, delegated_answer, undelegated_answer, data_sent_answer, path_answer}

-- ---- the call tells what its case tells, or nothing, and has no count

module _ (s : State) (cfg : Config) (p : Profile) (spread : ℤ) where
  told-most : (n : ℕ) (step : HearStep) → length step.out ≤ n → length (notice_by s cfg p spread step).out ≤ n
  unfolding notice_by
  told-most n step h =
      by-either (before_frame s cfg p spread) s (done step.state step.out) (λ (a : Outcome). length a.out ≤ n) (omega arith) h

  pub no-count : (step : HearStep) → (notice_by s cfg p spread step).count ≡ 0
  unfolding notice_by
  no-count step =
      by-either (before_frame s cfg p spread) s (done step.state step.out) (λ (a : Outcome). a.count ≡ 0) refl refl

  told-nothing : (step : HearStep) → step.out ≡ [] → (notice_by s cfg p spread step).out ≡ []
  unfolding notice_by
  told-nothing step h =
      by-either (before_frame s cfg p spread) s (done step.state step.out) (λ (a : Outcome). a.out ≡ []) refl h

  -- a worker's answer has 6 events at most
  pub worker-tells : (time : ℕ) (workers : Bool) (tag : ℕ) (k : Bool) (counter : ℕ) → length (worker_answer s cfg p time workers spread tag k counter).out ≤ 6
  worker-tells time workers tag k counter = told-most 6 _ (worker-most s (given_of cfg p time workers) tag k counter)

  -- where the receive half lives: one, a reject
  pub delegated-tells : (tag : ℕ) → length (delegated_answer s cfg p spread tag).out ≤ 1
  delegated-tells tag = told-most 1 _ (handed-most s tag _ _ _)

  pub undelegated-tells : (tag : ℕ) → length (undelegated_answer s cfg p spread tag).out ≤ 1
  undelegated-tells tag = told-most 1 _ (handed-most s tag _ _ _)

  -- the other two tell nothing
  pub data_tells : (data_sent_answer s cfg p spread).out ≡ []
  data_tells = told-nothing _ refl

  pub path-tells : (reachable : Bool) (srtt : When) → (path_answer s cfg p spread reachable srtt).out ≡ []
  path-tells reachable srtt = told-nothing _ refl

-- ---- a worker never reports a probe, so hearing the current epoch tells nothing

pub current-tells : (s : State) (g : Given) (k : Bool) → (heard_current s g k false).out ≡ []
unfolding heard_current hearing heard_epoch prompted_now blind_to
current-tells s g k = of_choice (λ (x : HearStep). x.out ≡ []) s.cur.some _ _ refl refl
