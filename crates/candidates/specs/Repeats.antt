-- "or two candidates a sequence number": whether a list of numbers holds one twice.
use Rattle.std.specs.Prelude.{ℕ, Bool, true, false, ◌||◌, List, [], ◌∷◌, ltb, eqb}
use Rattle.time.specs.Pick.{pick}

-- whether x stands in a list
unfoldable pub among : ℕ → List ℕ → Bool
among x [] = false
among x (y ∷ l) = eqb y x || among x l

-- whether a list holds a number twice
unfoldable pub repeated : List ℕ → Bool
repeated [] = false
repeated (x ∷ l) = among x l || repeated l

-- whether each number of a list is above the one before it, the first above x
unfoldable pub rises_from : ℕ → List ℕ → Bool
rises_from x [] = true
rises_from x (y ∷ l) = pick (ltb x y) (rises_from y l) false

unfoldable pub rises : List ℕ → Bool
rises [] = true
rises (x ∷ l) = rises_from x l
