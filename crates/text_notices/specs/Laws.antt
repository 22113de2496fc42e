-- Laws of the notices by number: what each promises is what its number does.
use Rattle.std.specs.Prelude.{ℕ, ◌≡◌, List}
use borrow.Author.Tests.{ne_eqb}
use Rattle.settings.specs.declared.Config.{Config}
use Rattle.state.specs.declared.State.{State}
use Rattle.state.specs.declared.Profile.{Profile}
use Rattle.answer.specs.declared.Answer.{Answer}
use Rattle.answer.specs.Answers.{Answers}
use Rattle.text_notices.specs.Notices.{worker_on, delegated_on, undelegated_on, data_sent_on, path_on, notice_on, call_worker, call_delegated, call_undelegated, call_data_sent}

module _ (call : ℕ) (s : State) (cfg : Config) (profile : Profile) (a : List ℕ) (r : Answer) (ws ws' : List ℕ) where
  pub by-worker : call ≡ call_worker → Answers (worker_on s cfg profile a) r ws ws' → Answers (notice_on call s cfg profile a) r ws ws'
  unfolding notice_on
  by-worker e h = rw e h

  pub by-delegated : call ≡ call_delegated → Answers (delegated_on s cfg profile a) r ws ws' → Answers (notice_on call s cfg profile a) r ws ws'
  unfolding notice_on
  by-delegated e h = rw e h

  pub by-undelegated : call ≡ call_undelegated → Answers (undelegated_on s cfg profile a) r ws ws' → Answers (notice_on call s cfg profile a) r ws ws'
  unfolding notice_on
  by-undelegated e h = rw e h

  pub by-datasent : call ≡ call_data_sent → Answers (data_sent_on s cfg profile a) r ws ws' → Answers (notice_on call s cfg profile a) r ws ws'
  unfolding notice_on
  by-datasent e h = rw e h

  pub by-path :
      (call ≡ call_worker → ⊥) → (call ≡ call_delegated → ⊥) → (call ≡ call_undelegated → ⊥) → (call ≡ call_data_sent → ⊥)
      → Answers (path_on s cfg profile a) r ws ws'
      → Answers (notice_on call s cfg profile a) r ws ws'
  unfolding notice_on
  by-path w d u t h = rw (ne_eqb call call_worker w, ne_eqb call call_delegated d, ne_eqb call call_undelegated u, ne_eqb call call_data_sent t) h
