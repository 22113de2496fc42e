-- A part of the state put in place of another, no start of it after t; and a cutover at an instant
-- that is not after t.
use Rattle.std.specs.Prelude.{ℕ, ◌≤◌, Bool, ◌≡◌, ℤ}
use Rattle.std.proofs.Math.Bool.{true, false}
use Rattle.std.proofs.lemmas.Bool.{false≢true}
use Rattle.std.proofs.Common.{arith}
use Rattle.time.specs.Pick.{pick}
use Rattle.time.specs.Time.{at}
use Rattle.epoch.specs.declared.MayEpoch.{MayEpoch}
use Rattle.epoch.specs.declared.Drain.{Drain}
use Rattle.cycle.specs.declared.Attempt.{Attempt}
use Rattle.cycle.specs.declared.PendI.{PendI}
use Rattle.cycle.specs.Kind.{idled}
use Rattle.cycle.specs.Put.{put_init, put_pend_i}
use Rattle.candidates.specs.declared.Candidates.{Candidates}
use Rattle.state.specs.declared.Memory.{Memory}
use Rattle.state.specs.declared.State.{State}
use Rattle.state.specs.declared.Given.{Given}
use Rattle.state.specs.Parts.{put_mem, put_cur, put_drain, put_cycle, put_cands}
use Rattle.cutover.specs.declared.Pend.{Pend}
use Rattle.cutover.specs.Cutover.{is_frame, heard_frame, cut_memory, remembered, demoted, adopted, cutover_of}
use Rattle.law_early.specs.Early.{Early}

module _ (s : State) (t : ℕ) (o : Early s t) where
  -- the memory
  pub with_mem : (m : Memory) → m.link_since ≤ t → (m.last_cutover.some ≡ true → m.last_cutover.at ≤ t) → Early (put_mem s m) t
  with_mem m h q =
      record {
        link = h;
        cutover = q;
        current = o.current;
        own = o.own;
        peers = o.peers;
        drained = o.drained;
      }

  -- the drained epoch
  pub with_drain : (d : Drain) → (d.some ≡ true → d.ep.started ≤ t) → Early (put_drain s d) t
  with_drain d h =
      record {
        link = o.link;
        cutover = o.cutover;
        current = o.current;
        own = o.own;
        peers = o.peers;
        drained = h;
      }

  -- the current epoch
  pub with_cur : (e : MayEpoch) → (e.some ≡ true → e.ep.started ≤ t) → Early (put_cur s e) t
  with_cur e h =
      record {
        link = o.link;
        cutover = o.cutover;
        current = h;
        own = o.own;
        peers = o.peers;
        drained = o.drained;
      }

  -- the cycle ends
  pub to-idle : Early (put_cycle s (idled s.cycle)) t
  to-idle =
      record {
        link = o.link;
        cutover = o.cutover;
        current = o.current;
        own = λ e. absurd (false≢true e);
        peers = λ e. absurd (false≢true e);
        drained = o.drained;
      }

  -- an own attempt has no epoch yet
  pub with_init : (a : Attempt) → Early (put_cycle s (put_init s.cycle a)) t
  with_init a =
      record {
        link = o.link;
        cutover = o.cutover;
        current = o.current;
        own = o.own;
        peers = o.peers;
        drained = o.drained;
      }

  -- an own completed attempt
  pub with_pendi : (p : PendI) → p.ep.started ≡ s.cycle.pendi.ep.started → Early (put_cycle s (put_pend_i s.cycle p)) t
  with_pendi p q =
      record {
        link = o.link;
        cutover = o.cutover;
        current = o.current;
        own = λ e. omega (arith, q, o.own e);
        peers = o.peers;
        drained = o.drained;
      }

  -- candidates have no start
  pub with_cands : (v : Candidates) → Early (put_cands s v) t
  with_cands v =
      record {
        link = o.link;
        cutover = o.cutover;
        current = o.current;
        own = o.own;
        peers = o.peers;
        drained = o.drained;
      }

-- ---- a cutover

module _ (m : Memory) (t : ℕ) (h : m.link_since ≤ t) (now : ℕ) (n : now ≤ t) where
  cut-link : (restart due : Bool) (spread : ℤ) → (cut_memory m restart due spread now).link_since ≤ t
  unfolding cut_memory
  cut-link true due spread = n
  cut-link false due spread = h

  cut-last : (restart due : Bool) (spread : ℤ) → (cut_memory m restart due spread now).last_cutover.at ≤ t
  unfolding cut_memory
  cut-last restart due spread = n

  remembered-link : (restart due : Bool) (evidence : ℕ) (k : Bool) (spread : ℤ) → (remembered m restart due evidence k spread now).link_since ≤ t
  unfolding remembered heard_frame
  remembered-link restart due evidence k spread = under (is_frame evidence)
    where
      under : (q : Bool) → (pick q (heard_frame (cut_memory m restart due spread now) k now) (cut_memory m restart due spread now)).link_since ≤ t
      under true = cut-link restart due spread
      under false = cut-link restart due spread

  remembered-last : (restart due : Bool) (evidence : ℕ) (k : Bool) (spread : ℤ) → (remembered m restart due evidence k spread now).last_cutover.at ≤ t
  unfolding remembered heard_frame
  remembered-last restart due evidence k spread = under (is_frame evidence)
    where
      under : (q : Bool) → (pick q (heard_frame (cut_memory m restart due spread now) k now) (cut_memory m restart due spread now)).last_cutover.at ≤ t
      under true = cut-last restart due spread
      under false = cut-last restart due spread

-- the new epoch starts now, and the old one is drained as it was
pub cut-early :
    (s : State) (g : Given) (spread : ℤ) (p : Pend) (evidence : ℕ) (k : Bool) (t : ℕ)
    → s.mem.link_since ≤ t → s.cur.ep.started ≤ t → g.now ≤ t
    → Early (cutover_of s g spread p evidence k).state t
unfolding cutover_of adopted demoted
cut-early s g spread p evidence k t h c n =
    record {
      link = remembered-link s.mem t h g.now n p.restart _ evidence k spread;
      cutover = λ e. remembered-last s.mem t h g.now n p.restart _ evidence k spread;
      current = λ e. n;
      own = λ e. absurd (false≢true e);
      peers = λ e. absurd (false≢true e);
      drained = λ e. c;
    }
