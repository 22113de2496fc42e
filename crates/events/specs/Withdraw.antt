-- Withdrawing the prompts that can be sealed no more: the events that stay move down, in order.
use Rattle.std.specs.Prelude.{ℕ, ◌-◌, Bool, true, false, List, eqb, get_or}
use Rattle.time.specs.declared.When.{When}
use Rattle.time.specs.Pick.{pick}
use Rattle.time.specs.Lists.{fold, range}
use Rattle.numbers.specs.Numbers.{event_prompt}
use Rattle.events.specs.Events.{Event, words_of}
use Rattle.events.specs.Log.{Log, at, stored, place_of, taken_of}

-- a tag that may be absent
abbrev pub given : Bool → ℕ → When
given some x = record { some = some; at = x }

-- whether one is given and is this one
abbrev pub names : When → ℕ → Bool
names w tag = pick w.some (eqb tag w.at) false

-- "Whether `seal_prompt` accepts `tag`: the current epoch, or the pending epoch of a completed own
-- attempt waiting for evidence" (machine.rs, `sealable`); the caller gives the tags of the two
unfoldable pub sealable : When → When → ℕ → Bool
sealable cur pend tag = pick (names cur tag) true (names pend tag)

-- whether words stay: all but those of a Prompt that may not be sealed
unfoldable pub words_stay : When → When → List ℕ → Bool
words_stay cur pend w = pick (eqb (get_or w 0 0) event_prompt) (sealable cur pend (get_or w 1 0)) true

abbrev pub stays : When → When → Event → Bool
stays cur pend e = words_stay cur pend (words_of e)

-- place i put at the next place, where it stays
unfoldable pub sifted : (List ℕ → Bool) → Log → ℕ → Log
sifted p v i = pick (p (place_of v.words i)) (stored v (place_of v.words i)) v

-- "Drop every prompt that no longer names an epoch `seal_prompt` accepts" (machine.rs, `withdraw`)
unfoldable pub withdrawn : When → When → Log → Log
withdrawn cur pend v = fold (sifted (words_stay cur pend)) (at 0 v.words) (range 0 (taken_of v.len))

-- what a loop at place i of n has still to do
unfoldable pub sifting : (List ℕ → Bool) → ℕ → ℕ → Log → Log
sifting p n i v = fold (sifted p) v (range i (n - i))
