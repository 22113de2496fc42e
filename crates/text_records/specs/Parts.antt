-- The lines whose fields have names.
use Rattle.std.specs.Prelude.{ℕ, Bool, true, false, List, [], ◌∷◌}
use Rattle.text_records.specs.declared.parts.Part.{Part}
use Rattle.text_records.specs.declared.parts.Part.TheVariants.{Settings, Profile, Memory, Current, Drained, PendI, PendR, Candidate}

-- the bytes of a line's first word
abbrev pub name_of : Part → List ℕ
name_of Settings = 115 ∷ 101 ∷ 116 ∷ []
name_of Profile = 112 ∷ 114 ∷ 111 ∷ 102 ∷ 105 ∷ 108 ∷ 101 ∷ []
name_of Memory = 109 ∷ 101 ∷ 109 ∷ 111 ∷ 114 ∷ 121 ∷ []
name_of Current = 99 ∷ 117 ∷ 114 ∷ 114 ∷ 101 ∷ 110 ∷ 116 ∷ []
name_of Drained = 100 ∷ 114 ∷ 97 ∷ 105 ∷ 110 ∷ 101 ∷ 100 ∷ []
name_of PendI = 112 ∷ 101 ∷ 110 ∷ 100 ∷ 105 ∷ []
name_of PendR = 112 ∷ 101 ∷ 110 ∷ 100 ∷ 114 ∷ []
name_of Candidate = 99 ∷ 97 ∷ 110 ∷ 100 ∷ 105 ∷ 100 ∷ 97 ∷ 116 ∷ 101 ∷ []

-- whether a line is about the memory
abbrev pub is_memory : Part → Bool
is_memory Settings = false
is_memory Profile = false
is_memory Memory = true
is_memory Current = false
is_memory Drained = false
is_memory PendI = false
is_memory PendR = false
is_memory Candidate = false

-- whether a line is about the current epoch
abbrev pub is_current : Part → Bool
is_current Settings = false
is_current Profile = false
is_current Memory = false
is_current Current = true
is_current Drained = false
is_current PendI = false
is_current PendR = false
is_current Candidate = false

-- whether a line is about the drained epoch
abbrev pub is_drained : Part → Bool
is_drained Settings = false
is_drained Profile = false
is_drained Memory = false
is_drained Current = false
is_drained Drained = true
is_drained PendI = false
is_drained PendR = false
is_drained Candidate = false

-- whether a line is about the cycle
abbrev pub is_cycle : Part → Bool
is_cycle Settings = false
is_cycle Profile = false
is_cycle Memory = false
is_cycle Current = false
is_cycle Drained = false
is_cycle PendI = true
is_cycle PendR = true
is_cycle Candidate = false

-- whether a line is about a candidate
abbrev pub is_candidate : Part → Bool
is_candidate Settings = false
is_candidate Profile = false
is_candidate Memory = false
is_candidate Current = false
is_candidate Drained = false
is_candidate PendI = false
is_candidate PendR = false
is_candidate Candidate = true
