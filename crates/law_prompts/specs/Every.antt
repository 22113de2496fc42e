-- What holds of every event of a list, and of all that is told where an epoch is retired, an attempt is
-- given up, a frame is copied, or an epoch becomes current: it needs to hold of each event that is neither
-- a send nor a prompt, and of the prompt that is told.
use Rattle.std.specs.Prelude.{ℕ, Bool, true, false, ◌≡◌, List, [], ◌∷◌, ◌++◌, eqb, length, get_or}
use Rattle.std.proofs.Math.Path.{refl}
use Rattle.std.proofs.Common.{◌∙◌, ap₂}
use Rattle.time.specs.declared.When.{When}
use Rattle.time.specs.Pick.{pick, and, and_left, by-test, of_choice}
use Rattle.time.specs.Lists.{kept, kept_append}
use Rattle.numbers.specs.Numbers.{event_send, event_prompt}
use Rattle.epoch.specs.declared.Epoch.{Epoch}
use Rattle.epoch.specs.declared.Drain.{Drain}
use Rattle.cycle.specs.declared.Attempt.{Attempt}
use Rattle.cycle.specs.declared.Cycle.{Cycle}
use Rattle.cycle.specs.Kind.{is_pend_r}
use Rattle.events.specs.Events.{Event, Prompt, words_of, no_rungs}
use Rattle.retire.specs.Retire.{only, retire_out, abandon_out, offerable, delegate_out}
use Rattle.cutover.specs.Cutover.{given_up, announced}
use Rattle.frame_deliver.specs.Deliver.{reaches, deliver_out}
use Rattle.frame_evidence.specs.Evidence.{EpochStep, prompt_due, prompted_now}
use Rattle.frame_slots.specs.Frame.{ended_out}

-- a send or a prompt
abbrev pub outgoing : Event → Bool
outgoing e = pick (eqb (get_or (words_of e) 0 0) event_send) true (eqb (get_or (words_of e) 0 0) event_prompt)

module _ (p : Event → Bool) where
  -- it holds of every event of a list
  abbrev pub Every : List Event → Type 0
  Every l = kept p l ≡ l

  -- it holds of each event that is neither a send nor a prompt
  abbrev pub Others : Type 0
  Others = (e : Event) → outgoing e ≡ false → p e ≡ true

  pub every-none : Every []
  unfolding kept
  every-none = refl

  pub every-both : (l m : List Event) → Every l → Every m → Every (l ++ m)
  every-both l m a b = kept_append p l m ∙ ap₂ (λ x y. x ++ y) a b

  pub every_more : (e : Event) (l : List Event) → p e ≡ true → Every l → Every (e ∷ l)
  unfolding kept
  every_more e l a b = rw (a, b)

  pub every_one : (e : Event) → p e ≡ true → Every (e ∷ [])
  every_one e a = every_more e [] a every-none

  pub every-only : (b : Bool) (e : Event) → p e ≡ true → Every (only b e)
  every-only b e a = of_choice Every b (e ∷ []) [] (every_one e a) every-none

module _ (p : Event → Bool) (h : Others p) where
  -- ---- what is given up, offered or copied: neither a send nor a prompt

  pub retired-every : (e : Epoch) → Every p (retire_out e)
  unfolding retire_out
  retired-every e =
      every-both p _ _ (every-only p e.ids.lease.some _ (h _ refl))
      (every-both p _ _ (every-only p (pick e.ids.lease.some e.delegated false) _ (h _ refl))
      (every-both p _ _ (every-only p e.ids.lease.some _ (h _ refl)) (every_one p _ (h _ refl))))

  pub abandoned-every : (a : Attempt) (cause : ℕ) → Every p (abandon_out a cause)
  unfolding abandon_out
  abandoned-every a cause =
      every-both p _ _ (every-only p a.lease.some _ (h _ refl))
      (every-both p _ _ (every-only p a.lease.some _ (h _ refl)) (every_one p _ (h _ refl)))

  pub offered-every : (e : Epoch) (workers : Bool) → Every p (delegate_out e workers)
  unfolding delegate_out
  offered-every e workers = every-only p (pick workers (offerable e) false) _ (h _ refl)

  pub ended-every : (c : Cycle) → Every p (ended_out c)
  unfolding ended_out
  ended-every c = every-only p (and (is_pend_r c.kind) c.pendr.answer.some) _ (h _ refl)

  pub delivered_every : (slot tag body n floor : ℕ) (source target : List ℕ) → Every p (deliver_out slot tag body n floor source target)
  unfolding deliver_out
  delivered_every slot tag body n floor source target =
      of_choice (Every p) (reaches body n floor (length source) (length target)) _ _ (every_one p _ (h _ refl)) (every_one p _ (h _ refl))

  pub given-up-every : (d : Drain) (old : Epoch) (restart : Bool) → Every p (given_up d old restart)
  unfolding given_up
  given-up-every d old restart =
      every-both p _ _ (of_choice (Every p) d.some _ _ (retired-every d.ep) (every-none p))
      (of_choice (Every p) restart _ _ (retired-every old) (every-none p))

  -- ---- what is told of a new epoch, with a prompt under it

  pub announced-every : (e : Epoch) (restart : Bool) (peer : When) (evidence : ℕ) (workers : Bool) → p (Prompt e.tag no_rungs) ≡ true → Every p (announced e restart peer evidence workers)
  unfolding announced
  announced-every e restart peer evidence workers a =
      every-both p _ _ (offered-every e workers)
      (every_more p _ _ (h _ refl)
      (every-both p _ _ (every-only p (and restart peer.some) _ (h _ refl))
      (every_more p _ _ a (every_one p _ (h _ refl)))))

  -- ---- a prompt that is asked for

  pub prompted-every : (e : Epoch) (asks : Bool) (now : ℕ) → (asks ≡ true → p (Prompt e.tag no_rungs) ≡ true) → Every p (prompted_now e asks now).out
  unfolding prompted_now
  prompted-every e asks now a =
      by-test (λ (t : EpochStep). Every p t.out) (and asks (prompt_due e.prompted now)) _ _
      (λ q. every_one p _ (a (and_left asks (prompt_due e.prompted now) q)))
      (λ q. every-none p)
