-- The words that name the calls, and how many numbers of a row their arguments take.
use Rattle.std.specs.Prelude.{ℕ, Bool, true, false, List, [], ◌∷◌}
use Rattle.text_words.specs.declared.Call.{Call}
use Rattle.text_words.specs.declared.Call.TheVariants.{Open, Poll, Frame, Reply, Sent, Worker, Delegated, Undelegated, DataSent, Path, Wake, Status}

-- the bytes of a call's name
abbrev pub name_of : Call → List ℕ
name_of Open = 111 ∷ 112 ∷ 101 ∷ 110 ∷ []
name_of Poll = 112 ∷ 111 ∷ 108 ∷ 108 ∷ []
name_of Frame = 102 ∷ 114 ∷ 97 ∷ 109 ∷ 101 ∷ []
name_of Reply = 114 ∷ 101 ∷ 112 ∷ 108 ∷ 121 ∷ []
name_of Sent = 115 ∷ 101 ∷ 110 ∷ 116 ∷ []
name_of Worker = 119 ∷ 111 ∷ 114 ∷ 107 ∷ 101 ∷ 114 ∷ []
name_of Delegated = 100 ∷ 101 ∷ 108 ∷ 101 ∷ 103 ∷ 97 ∷ 116 ∷ 101 ∷ 100 ∷ []
name_of Undelegated = 117 ∷ 110 ∷ 100 ∷ 101 ∷ 108 ∷ 101 ∷ 103 ∷ 97 ∷ 116 ∷ 101 ∷ 100 ∷ []
name_of DataSent = 100 ∷ 97 ∷ 116 ∷ 97 ∷ 115 ∷ 101 ∷ 110 ∷ 116 ∷ []
name_of Path = 112 ∷ 97 ∷ 116 ∷ 104 ∷ []
name_of Wake = 119 ∷ 97 ∷ 107 ∷ 101 ∷ []
name_of Status = 115 ∷ 116 ∷ 97 ∷ 116 ∷ 117 ∷ 115 ∷ []

-- how many numbers of a row the arguments of a call take
abbrev pub places_of : Call → ℕ
places_of Open = 7
places_of Poll = 4
places_of Frame = 12
places_of Reply = 7
places_of Sent = 2
places_of Worker = 6
places_of Delegated = 4
places_of Undelegated = 4
places_of DataSent = 3
places_of Path = 6
places_of Wake = 1
places_of Status = 1

-- whether the arguments by name can begin with a word of a choice
abbrev pub has_choice : Call → Bool
has_choice Open = true
has_choice Poll = false
has_choice Frame = false
has_choice Reply = true
has_choice Sent = false
has_choice Worker = false
has_choice Delegated = false
has_choice Undelegated = false
has_choice DataSent = false
has_choice Path = false
has_choice Wake = false
has_choice Status = false
