-- The candidates as a list, and what each operation makes of it.
use Rattle.std.specs.Prelude.{ℕ, suc, ◌+◌, ◌-◌, Bool, false, List, [], ◌∷◌, ◌++◌, map, leb, ltb, eqb, length, get_or, drop}
use Rattle.time.specs.declared.When.{When}
use Rattle.time.specs.Pick.{pick}
use Rattle.time.specs.Lists.{fold, range, kept}
use Rattle.time.specs.Time.{none, at, least, sooner_of}
use Rattle.candidates.specs.declared.Candidates.{Candidates}

-- `struct Candidate` (candidates.rs); `bounded` is 0 where `bound` is absent
pub record Candidate : Type 0 where
  pub hs : ℕ
  pub msg1 : ℕ
  pub ack : ℕ
  pub carrier : ℕ
  pub route : ℕ
  pub born : ℕ
  pub deadline : ℕ
  pub bounded : ℕ
  pub bound : ℕ
  pub seq : ℕ

-- "32 candidates pass, 33 do not": a count above 32 is sent back, and read as 32
unfoldable pub held_of : ℕ → ℕ
held_of len = least len 32

-- what stands in an array from place i up to place n
unfoldable pub between : ℕ → ℕ → List ℕ → List ℕ
between i n l = map (λ j. get_or l j 0) (range i (n - i))

-- the first n of an array, 32 at most
abbrev pub firsts : ℕ → List ℕ → List ℕ
firsts n l = between 0 (held_of n) l

-- the candidate at place i
unfoldable pub cand_at : Candidates → ℕ → Candidate
cand_at v i =
    record {
      hs = get_or v.hs i 0;
      msg1 = get_or v.msg1 i 0;
      ack = get_or v.ack i 0;
      carrier = get_or v.carrier i 0;
      route = get_or v.route i 0;
      born = get_or v.born i 0;
      deadline = get_or v.deadline i 0;
      bounded = get_or v.bounded i 0;
      bound = get_or v.bound i 0;
      seq = get_or v.seq i 0;
    }

-- "The candidates, oldest first." (`iter`)
unfoldable pub held_by : Candidates → List Candidate
held_by v = map (cand_at v) (range 0 (held_of v.len))

-- their arrival numbers
abbrev pub numbers : List Candidate → List ℕ
numbers l = map (λ c. c.seq) l

-- ---- what the operations are to give, on the list

-- `remove`: without the first of that number
unfoldable pub without : ℕ → List Candidate → List Candidate
without s [] = []
without s (c ∷ l) = pick (eqb c.seq s) l (c ∷ without s l)

-- `get(seq).is_some_and(|c| c.deadline <= now)`: the first of that number is due
unfoldable pub expired_in : ℕ → ℕ → List Candidate → Bool
expired_in s now [] = false
expired_in s now (c ∷ l) = pick (eqb c.seq s) (leb c.deadline now) (expired_in s now l)

-- `retain(|c| c.born > t)`
abbrev pub born_after : ℕ → Candidate → Bool
born_after t c = ltb t c.born

-- `earliest`: the least of the deadlines, absent where there is none
unfoldable pub earliest_of : List ℕ → When
earliest_of l = fold (λ w t. sooner_of w (at t)) none l

-- ---- what the operations leave in the arrays

-- the place of the first x of a list, or the list's length
unfoldable pub place_of : ℕ → List ℕ → ℕ
place_of x [] = 0
place_of x (y ∷ l) = pick (eqb y x) 0 (suc (place_of x l))

-- where the candidate of a number stands, or how many are held
abbrev pub spot_of : Candidates → ℕ → ℕ
spot_of v s = place_of s (firsts v.len v.seq)

-- an array whose first places hold what stood at the places ps, the others as they were
unfoldable pub chosen : List ℕ → List ℕ → List ℕ
chosen ps l = map (λ i. get_or l i 0) ps ++ drop (length ps) l

-- the candidates at the places ps
unfoldable pub choosing : List ℕ → Candidates → Candidates
choosing ps v =
    record {
      hs = chosen ps v.hs;
      msg1 = chosen ps v.msg1;
      ack = chosen ps v.ack;
      carrier = chosen ps v.carrier;
      route = chosen ps v.route;
      born = chosen ps v.born;
      deadline = chosen ps v.deadline;
      bounded = chosen ps v.bounded;
      bound = chosen ps v.bound;
      seq = chosen ps v.seq;
      len = length ps;
      next = v.next;
    }

-- the places below n but k
unfoldable pub others : ℕ → ℕ → List ℕ
others k n = range 0 k ++ range (k + 1) (n - (k + 1))

-- `remove`: nothing changes where none has that number
unfoldable pub removed_of : Candidates → ℕ → Candidates
removed_of v s = pick (ltb (spot_of v s) (held_of v.len)) (choosing (others (spot_of v s) (held_of v.len)) v) v

-- the places below n whose birth is after t
abbrev pub younger : ℕ → ℕ → List ℕ → List ℕ
younger t n born = kept (λ i. ltb t (get_or born i 0)) (range 0 n)

-- `retain(|c| c.born > t)`
unfoldable pub kept_after : Candidates → ℕ → Candidates
kept_after v t = choosing (younger t (held_of v.len) v.born) v

-- `retain(|_| false)`: none is held, and no array changes
unfoldable pub cleared_of : Candidates → Candidates
cleared_of v = choosing [] v

-- the candidates left, and whether one went
pub record Expired : Type 0 where
  pub cands : Candidates
  pub gone : Bool

-- a candidate of that number goes, or all stay
abbrev pub leaving : Bool → Candidates → ℕ → Expired
leaving gone v s = record { cands = pick gone (removed_of v s) v; gone = gone }

-- the row `Due::Candidate` of `expire_pass`: the candidate of that number goes where it is due
unfoldable pub expire_of : Candidates → ℕ → ℕ → Expired
expire_of v s now = leaving (expired_in s now (held_by v)) v s
