-- Which numbers each list has an entry for, and how many words of the log a field of an event takes.
use Rattle.std.specs.Prelude.{ℕ, ◌+◌, Bool, false, cond, ltb}
use Rattle.text_lists.specs.declared.List.{List}
use Rattle.text_lists.specs.declared.List.TheVariants.{Messages, Slots, Purposes, Roles, Evidence, Reasons, Causes, Teardowns, Starts, Cycles, Waits, Refusals, Places}
use Rattle.text_lists.specs.declared.Table.{Table}
use Rattle.text_lists.specs.declared.Table.TheVariants.{Events, Of}
use Rattle.text_lists.specs.declared.Sign.{Sign}
use Rattle.text_lists.specs.declared.Sign.TheVariants.{Number, MayNumber, Tag, MayTag, Case, Zero}

-- how many events there are; their numbers begin at 0
abbrev pub events_count : ℕ
events_count = 20

-- the number of a list's first entry
abbrev pub first_of : List → ℕ
first_of Messages = 0
first_of Slots = 0
first_of Purposes = 0
first_of Roles = 0
first_of Evidence = 0
first_of Reasons = 0
first_of Causes = 0
first_of Teardowns = 0
first_of Starts = 0
first_of Cycles = 0
first_of Waits = 0
first_of Refusals = 1
first_of Places = 1

-- how many entries a list has
abbrev pub count_of : List → ℕ
count_of Messages = 5
count_of Slots = 3
count_of Purposes = 4
count_of Roles = 2
count_of Evidence = 6
count_of Reasons = 31
count_of Causes = 9
count_of Teardowns = 3
count_of Starts = 2
count_of Cycles = 4
count_of Waits = 3
count_of Refusals = 11
count_of Places = 15

-- whether a list has an entry with a number
abbrev pub has : List → ℕ → Bool
has l n = cond (ltb n (first_of l)) false (ltb n (first_of l + count_of l))

-- the number of a list; that of the events is 0
abbrev pub table_no : Table → ℕ
table_no Events = 0
table_no (Of Messages) = 1
table_no (Of Slots) = 2
table_no (Of Purposes) = 3
table_no (Of Roles) = 4
table_no (Of Evidence) = 5
table_no (Of Reasons) = 6
table_no (Of Causes) = 7
table_no (Of Teardowns) = 8
table_no (Of Starts) = 9
table_no (Of Cycles) = 10
table_no (Of Waits) = 11
table_no (Of Refusals) = 12
table_no (Of Places) = 13

-- whether any of the lists has an entry with a number
abbrev pub holds : Table → ℕ → Bool
holds Events n = ltb n events_count
holds (Of l) n = has l n

abbrev pub width_of : Sign → ℕ
width_of Number = 1
width_of MayNumber = 2
width_of Tag = 1
width_of MayTag = 2
width_of (Case _) = 1
width_of Zero = 0
