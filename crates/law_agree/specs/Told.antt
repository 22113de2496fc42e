-- Events about an epoch or an attempt tell only what stands.
use Rattle.std.specs.Prelude.{ℕ, Bool, true, false, ◌≡◌, refl, [], ◌∷◌, ◌++◌}
use Rattle.std.proofs.Common.{ap}
use Rattle.time.specs.declared.When.{When}
use Rattle.time.specs.Pick.{pick}
use Rattle.time.specs.Time.{none}
use Rattle.epoch.specs.declared.Epoch.{Epoch}
use Rattle.epoch.specs.declared.Final.{Final}
use Rattle.cycle.specs.declared.Attempt.{Attempt}
use Rattle.events.specs.Events.{Event, Unbind, Revoke, Release, Retired, Abandoned, Delegate, Send}
use Rattle.state.specs.Stands.{when_view, final_view}
use Rattle.retire.specs.Retire.{only, retire_out, abandon_out, offerable, floor_told, delegate_out}
use Rattle.law_alike.specs.Optional.{Same, when, index, picked}
use Rattle.law_alike.specs.Parts.{AlikeEpoch, AlikeAttempt}
use Rattle.law_alike.specs.Ladders.{fin-some, fin-msg}

pub retire_out_lem : {x y : Epoch} → AlikeEpoch x y → retire_out x ≡ retire_out y
unfolding retire_out
retire_out_lem {x} {y} h =
    cc (
      h.tag,
      h.transport,
      h.delegated,
      index (λ b n. only b (Unbind y.ids.transport n) ++ (only (pick b y.delegated false) (Revoke y.tag y.ids.transport n) ++ (only b (Release n) ++ (Retired y.tag ∷ [])))) (λ u v. refl) h.lease,
    )

pub abandon_out_lem : {x y : Attempt} → AlikeAttempt x y → (cause : ℕ) → abandon_out x cause ≡ abandon_out y cause
unfolding abandon_out
abandon_out_lem {x} {y} h cause =
    cc (h.transport, index (λ b n. only b (Unbind y.transport n) ++ (only b (Release n) ++ (Abandoned cause ∷ []))) (λ u v. refl) h.lease)

-- a counter that is absent is told as 0
pub floor-told : {w z : When} → Same when_view w z → floor_told w ≡ floor_told z
floor-told e = when (λ b n. pick b (record { some = b; at = n }) none) (λ u v. refl) e

no-offer : (w d : Bool) (a b : Event) → only (pick w (pick d false false) false) a ≡ only (pick w (pick d false false) false) b
no-offer true true a b = refl
no-offer true false a b = refl
no-offer false d a b = refl

pub delegate_out_lem : {x y : Epoch} → AlikeEpoch x y → (workers : Bool) → delegate_out x workers ≡ delegate_out y workers
unfolding delegate_out offerable
delegate_out_lem {x} {y} h workers =
    cc (
      h.tag,
      h.transport,
      h.delegated,
      h.session,
      floor-told h.floor,
      index (λ b n. only (pick workers (pick y.delegated false b) false) (Delegate y.tag y.ids.transport n y.session (floor_told y.floor))) (λ u v. no-offer workers y.delegated _ _) h.lease,
    )

-- a final message that is held is sent
pub fin-send : {f g : Final} → Same final_view f g → (kind rungs : ℕ) → only f.some (Send f.msg kind rungs) ≡ only g.some (Send g.msg kind rungs)
fin-send e kind rungs = picked (fin-some e) (λ q. ap (λ m. Send m kind rungs ∷ []) (fin-msg e q)) (λ _. refl)
