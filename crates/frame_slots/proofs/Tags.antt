-- The pending epoch's tag, as an option.
use Rattle.std.specs.Prelude.{Bool, true, false, ◌≡◌, refl, Some, None, option_map}
use Rattle.time.specs.Pick.{pick}
use Rattle.time.specs.Time.{none, at}
use Rattle.time.specs.Options.{option_of}
use Rattle.cycle.specs.declared.Cycle.{Cycle}
use Rattle.cycle.specs.Kind.{is_pend_i, is_pend_r}
use Rattle.cycle.specs.Held.{pending}
use Rattle.frame_slots.specs.Frame.{pending_tag}

pub tag_held : (c : Cycle) → option_map (λ e. e.tag) (pending c) ≡ option_of (pending_tag c)
unfolding pending pending_tag
tag_held c = under (is_pend_i c.kind) (is_pend_r c.kind)
  where
    under : (i r : Bool) → option_map (λ e. e.tag) (pick i (Some c.pendi.ep) (pick r (Some c.pendr.ep) None)) ≡ option_of (pick i (at c.pendi.ep.tag) (pick r (at c.pendr.ep.tag) none))
    under true r = refl
    under false true = refl
    under false false = refl
