-- The rows of the poll that change the drained or the current epoch, one definition each, in the order
-- of `Due`: what a row leaves of its epoch, and its events. A row whose item is no longer there changes
-- nothing.
use Rattle.std.specs.Prelude.{ℕ, Bool, false, not, ◌≡◌, List, [], ◌∷◌, ◌++◌}
use Rattle.time.specs.Pick.{pick}
use Rattle.time.specs.Time.{at}
use Rattle.ladder.specs.Took.{Took}
use Rattle.ladder.specs.Ladder.{take_of}
use Rattle.numbers.specs.Numbers.{kind_msg3, abandon_adoption_not_seen}
use Rattle.epoch.specs.declared.Drain.{Drain}
use Rattle.epoch.specs.declared.MayEpoch.{MayEpoch}
use Rattle.epoch.specs.Put.{put_fin, put_elicit, moved_fin, put_ep}
use Rattle.events.specs.Events.{Event, Send, Prompt, Abandoned}
use Rattle.events.specs.declared.Log.{Log}
use Rattle.events.specs.Told.{Tells}
use Rattle.retire.specs.Retire.{only, retire_out}
use Rattle.time.specs.Pick.{and}
use Rattle.epoch.specs.Held.{is_tag}

-- ---- what a row leaves

pub record DrainStep : Type 0 where
  pub drain : Drain
  pub out : List Event

-- with whether a repair falls due
pub record CurStep : Type 0 where
  pub cur : MayEpoch
  pub out : List Event
  pub due : Bool

-- what a row of the current epoch promises: the epoch, its events, and whether a repair falls due
abbrev pub DidCur : CurStep → Log → MayEpoch → Bool → Log → Type 0
DidCur t l cur due l' = (cur ≡ t.cur) × (Tells t.out l l' × (due ≡ t.due))

-- ---- Drain: the drained epoch is retired; without evidence that the peer moved, that is told

unfoldable pub drain_due : Drain → ℕ → DrainStep
drain_due d tag =
    pick (is_tag d.some d.ep.tag tag)
    (record { drain = record { some = false; ep = d.ep; deadline = d.deadline; evidenced = d.evidenced }; out = retire_out d.ep ++ only (not d.evidenced) (Abandoned abandon_adoption_not_seen) })
    (record { drain = d; out = [] })

-- ---- Fin: the current epoch's final message is sent again, with the number of rungs taken; its last
-- rung drops it, and a repair falls due if nothing was heard

unfoldable pub fin_taken : MayEpoch → Took → CurStep
fin_taken cur t =
    record { cur = put_ep cur (put_fin cur.ep (moved_fin cur.ep.fin (not t.last) t.ladder)); out = Send cur.ep.fin.msg kind_msg3 t.taken ∷ []; due = and t.last (not cur.ep.heard.some) }

unfoldable pub fin_due : MayEpoch → ℕ → ℕ → CurStep
fin_due cur tag now =
    pick (and (and (is_tag cur.some cur.ep.tag tag) cur.ep.fin.some) (take_of cur.ep.fin.ladder now).any)
    (fin_taken cur (take_of cur.ep.fin.ladder now))
    (record { cur = cur; out = []; due = false })

-- ---- Elicit: a prompt is repeated until the peer is seen to move, with the number of rungs taken

unfoldable pub elicit_taken : MayEpoch → Took → ℕ → ℕ → CurStep
elicit_taken cur t tag now =
    record { cur = put_ep cur (put_elicit cur.ep (record { some = not t.last; ladder = t.ladder }) (at now)); out = Prompt tag t.taken ∷ []; due = false }

unfoldable pub elicit_due : MayEpoch → ℕ → ℕ → CurStep
elicit_due cur tag now =
    pick (and (and (is_tag cur.some cur.ep.tag tag) (and (not cur.ep.moved.some) cur.ep.elicit.some)) (take_of cur.ep.elicit.ladder now).any)
    (elicit_taken cur (take_of cur.ep.elicit.ladder now) tag now)
    (record { cur = cur; out = []; due = false })
