-- Candidates whose arrays were each changed by a relation, which tells how many places are left.
use Rattle.std.specs.Prelude.{ℕ, ◌≡◌, List}
use Rattle.candidates.specs.declared.Candidates.{Candidates}

pub record Changes (R : List ℕ → ℕ → List ℕ → Type 0) (v w : Candidates) : Type 0 where
  pub hs : (n : ℕ) × R v.hs n w.hs
  pub msg1 : (n : ℕ) × R v.msg1 n w.msg1
  pub ack : (n : ℕ) × R v.ack n w.ack
  pub carrier : (n : ℕ) × R v.carrier n w.carrier
  pub route : (n : ℕ) × R v.route n w.route
  pub born : (n : ℕ) × R v.born n w.born
  pub deadline : (n : ℕ) × R v.deadline n w.deadline
  pub bounded : (n : ℕ) × R v.bounded n w.bounded
  pub bound : (n : ℕ) × R v.bound n w.bound
  pub seq : R v.seq w.len w.seq
  pub next : w.next ≡ v.next
