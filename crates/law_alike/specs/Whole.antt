-- Two records of a state in which the same stands, part by part.
use Rattle.std.specs.Prelude.{true, ◌≡◌, refl}
use Rattle.std.proofs.Common.{ap}
use Rattle.epoch.specs.declared.MayEpoch.{MayEpoch}
use Rattle.epoch.specs.declared.Drain.{Drain}
use Rattle.state.specs.declared.State.{State}
use Rattle.state.specs.Stands.{May, some, may, EpochView, epoch_view, DrainView, drain_view, cycle_view, candidates_view, memory_view, View, stands}
use Rattle.law_alike.specs.Optional.{Same, flags, behind, picked}
use Rattle.law_alike.specs.Parts.{AlikeEpoch, epoch_fields}

abbrev pub cur_view : MayEpoch → May EpochView
cur_view c = may c.some (epoch_view c.ep)

pub record Alike (s t : State) : Type 0 where
  pub mem : Same memory_view s.mem t.mem
  pub cur : Same cur_view s.cur t.cur
  pub drain : Same drain_view s.drain t.drain
  pub cycle : Same cycle_view s.cycle t.cycle
  pub cands : Same candidates_view s.cands t.cands

pub alike : {s t : State} → Same stands s t → Alike s t
unfolding stands
alike e =
    record {
      mem = record { eq = ap (λ (v : View). v.mem) e.eq };
      cur = record { eq = ap (λ (v : View). v.cur) e.eq };
      drain = record { eq = ap (λ (v : View). v.drain) e.eq };
      cycle = record { eq = ap (λ (v : View). v.cycle) e.eq };
      cands = record { eq = ap (λ (v : View). v.cands) e.eq };
    }

pub stood : {s t : State} → Alike s t → Same stands s t
unfolding stands
stood h = record { eq = cc }

-- ---- the current and the drained epoch

module _ {c d : MayEpoch} (e : Same cur_view c d) where
  pub cur-some : c.some ≡ d.some
  cur-some = flags c.some d.some _ _ e.eq

  pub cur-view : c.some ≡ true → Same epoch_view c.ep d.ep
  cur-view q = record { eq = behind c.some d.some _ _ e.eq q }

  pub cur-ep : c.some ≡ true → AlikeEpoch c.ep d.ep
  cur-ep q = epoch_fields (cur-view q)

pub record AlikeDrain (c d : Drain) : Type 0 where
  pub view : Same epoch_view c.ep d.ep
  pub ep : AlikeEpoch c.ep d.ep
  pub deadline : c.deadline ≡ d.deadline
  pub evidenced : c.evidenced ≡ d.evidenced

module _ {c d : Drain} (e : Same drain_view c d) where
  pub drain-some : c.some ≡ d.some
  drain-some = flags c.some d.some _ _ e.eq

  pub drain_fields : c.some ≡ true → AlikeDrain c d
  drain_fields q =
      let h = behind c.some d.some _ _ e.eq q in
      let v : Same epoch_view c.ep d.ep = record { eq = ap (λ (v : DrainView). v.ep) h } in
      record { view = v; ep = epoch_fields v; deadline = ap (λ (v : DrainView). v.deadline) h; evidenced = ap (λ (v : DrainView). v.evidenced) h }

-- parts put together
pub cur-whole : {c d : MayEpoch} → c.some ≡ d.some → (c.some ≡ true → Same epoch_view c.ep d.ep) → Same cur_view c d
cur-whole e f = record { eq = picked e (λ q. ap some (f q).eq) (λ _. refl) }

pub drain-whole : {c d : Drain} → c.some ≡ d.some → (c.some ≡ true → AlikeDrain c d) → Same drain_view c d
drain-whole e f =
    record { eq = picked e (λ q. let h = f q in cc (h.view.eq, h.deadline, h.evidenced)) (λ _. refl) }
