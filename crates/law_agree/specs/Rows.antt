-- The rows of the poll: what they leave and tell is decided by what stands.
use Rattle.std.specs.Prelude.{ℕ, Bool, false, ◌≡◌, [], ◌∷◌, ◌++◌, eqb}
use Rattle.std.proofs.Math.Bool.{true, not}
use Rattle.std.proofs.Common.{true≢false}
use Rattle.std.proofs.lemmas.Bool.{false≢true}
use Rattle.std.proofs.Math.Path.{refl, ap, ap₂}
use Rattle.std.proofs.Math.Dec.{leb, ltb}
use Rattle.time.specs.declared.When.{When}
use Rattle.time.specs.Pick.{pick}
use Rattle.ladder.specs.declared.Ladder.{Ladder}
use Rattle.ladder.specs.Took.{Took}
use Rattle.ladder.specs.Ladder.{take_of}
use Rattle.settings.specs.declared.Config.{Config}
use Rattle.epoch.specs.declared.Epoch.{Epoch}
use Rattle.epoch.specs.declared.Final.{Final}
use Rattle.epoch.specs.declared.MayLadder.{MayLadder}
use Rattle.epoch.specs.declared.MayEpoch.{MayEpoch}
use Rattle.epoch.specs.declared.Drain.{Drain}
use Rattle.epoch.specs.Put.{put_fin, put_elicit}
use Rattle.cycle.specs.declared.Attempt.{Attempt}
use Rattle.cycle.specs.declared.PendI.{PendI}
use Rattle.cycle.specs.declared.Cycle.{Cycle}
use Rattle.cycle.specs.Kind.{is_init, is_pend_i, is_pend_r, idled}
use Rattle.cycle.specs.Put.{put_init, put_pend_i, moved_init, with_fin, with_probes}
use Rattle.state.specs.declared.Memory.{Memory}
use Rattle.state.specs.Stands.{some, when_view, ladder_view, final_view, may_ladder_view, epoch_view, drain_view, attempt_view, pend_iView, cycle_view, memory_view}
use Rattle.events.specs.Events.{Send, Prompt, Teardown}
use Rattle.retire.specs.Retire.{only}
use Rattle.poll_epoch.specs.EpochRows.{DrainStep, CurStep, drain_due, fin_taken, fin_due, elicit_taken, elicit_due}
use Rattle.poll_cycle.specs.CycleRows.{CycleStep, FailStep, unadopted_due, late_for, probing, probe_due, delayed_due, resend_taken, resend_due, abandoned_mem, expire_due}
use Rattle.time.specs.Pick.{and, and_left, and_right}
use Rattle.epoch.specs.Held.{is_tag}
use Rattle.cycle.specs.Held.{is_own, is_peers}
use Rattle.grace.specs.Grace.{grace}
use Rattle.law_alike.specs.Optional.{Same, picked, related, some-when}
use Rattle.law_alike.specs.Parts.{AlikeEpoch, epoch_fields, AlikeAttempt, AlikePendI, AlikeMemory, memory_whole, attempt-whole, pendi-whole, pendr-whole}
use Rattle.law_alike.specs.Ladders.{AlikeTook, take-alike, fin-some, fin-msg, fin-ladder, may-some, may-ladder}
use Rattle.law_alike.specs.Cycle.{AlikeCycle, cycle-whole}
use Rattle.law_alike.specs.Whole.{cur_view, cur-some, cur-ep, cur-whole, drain-some, drain_fields}
use Rattle.law_alike.specs.Start.{value-alike}
use Rattle.law_agree.specs.Told.{retire_out_lem, abandon_out_lem, fin-send}

-- ---- steps that leave the same and tell the same

pub record DrainSteps (a b : DrainStep) : Type 0 where
  pub drain : Same drain_view a.drain b.drain
  pub out : a.out ≡ b.out

pub record CycleSteps (a b : CycleStep) : Type 0 where
  pub cycle : Same cycle_view a.cycle b.cycle
  pub out : a.out ≡ b.out

pub record CurSteps (a b : CurStep) : Type 0 where
  pub cur : Same cur_view a.cur b.cur
  pub out : a.out ≡ b.out
  pub due : a.due ≡ b.due

pub record FailSteps (a b : FailStep) : Type 0 where
  pub cycle : Same cycle_view a.cycle b.cycle
  pub mem : Same memory_view a.mem b.mem
  pub out : a.out ≡ b.out
  pub ends : a.ends ≡ b.ends

-- ---- tests

-- a choice by two tests and by three, in order
pub related2 : {A : Type 0} (R : A → A → Type 0) {p q a b : Bool} {x x' y y' : A} → p ≡ q → (p ≡ true → a ≡ b) → (p ≡ true → a ≡ true → R x x') → R y y' → R (pick (and p a) x y) (pick (and q b) x' y')
related2 R {p = true} {q = true} e f g h = related R (f refl) (g refl) (λ _. h)
related2 R {p = true} {q = false} e f g h = absurd (true≢false e)
related2 R {p = false} {q = true} e f g h = absurd (false≢true e)
related2 R {p = false} {q = false} e f g h = h

pub related3 : {A : Type 0} (R : A → A → Type 0) {p q a b m n : Bool} {x x' y y' : A} → p ≡ q → (p ≡ true → a ≡ b) → (p ≡ true → a ≡ true → m ≡ n) → (p ≡ true → a ≡ true → R x x') → R y y' → R (pick (and (and p a) m) x y) (pick (and (and q b) n) x' y')
related3 R {p = true} {q = true} e f k g h = related2 R (f refl) (k refl) (λ t _. g refl t) h
related3 R {p = true} {q = false} e f k g h = absurd (true≢false e)
related3 R {p = false} {q = true} e f k g h = absurd (false≢true e)
related3 R {p = false} {q = false} e f k g h = h

pub anded : {p q a b : Bool} → p ≡ q → (p ≡ true → a ≡ b) → and p a ≡ and q b
anded e f = picked e f (λ _. refl)

pub own-alike : {c d : Cycle} → AlikeCycle c d → (tag : ℕ) → is_own c tag ≡ is_own d tag
unfolding is_own is_tag
own-alike h tag = anded h.owns (λ q. ap (λ n. eqb n tag) (epoch_fields (h.pendi q).ep).tag)

pub own_is : (c : Cycle) (tag : ℕ) → is_own c tag ≡ true → is_pend_i c.kind ≡ true
unfolding is_own is_tag
own_is c tag e = and_left _ _ e

pub peers-alike : {c d : Cycle} → AlikeCycle c d → (tag : ℕ) → is_peers c tag ≡ is_peers d tag
unfolding is_peers is_tag
peers-alike h tag = anded h.peers (λ q. ap (λ n. eqb n tag) (epoch_fields (h.pendr q).ep).tag)

peers-is : (c : Cycle) (tag : ℕ) → is_peers c tag ≡ true → is_pend_r c.kind ≡ true
unfolding is_peers is_tag
peers-is c tag e = and_left _ _ e

pub cur-tag : {c d : MayEpoch} → Same cur_view c d → (tag : ℕ) → is_tag c.some c.ep.tag tag ≡ is_tag d.some d.ep.tag tag
unfolding is_tag
cur-tag e tag = anded (cur-some e) (λ q. ap (λ n. eqb n tag) (cur-ep e q).tag)

pub tag_is : (b : Bool) (held tag : ℕ) → is_tag b held tag ≡ true → b ≡ true
unfolding is_tag
tag_is b held tag e = and_left _ _ e

pub grace-alike : {m n : Memory} → AlikeMemory m n → (cfg : Config) → grace m cfg ≡ grace n cfg
unfolding grace
grace-alike h cfg = cc (value-alike h.hs_rtt 0, value-alike h.srtt 0)

-- ---- parts put in place

pub may-whole : {l m : MayLadder} → l.some ≡ m.some → (l.some ≡ true → Same ladder_view l.ladder m.ladder) → Same may_ladder_view l m
may-whole e f = record { eq = picked e (λ q. ap some (f q).eq) (λ _. refl) }

pub fin-whole : {f g : Final} → f.some ≡ g.some → (f.some ≡ true → f.msg ≡ g.msg) → (f.some ≡ true → Same ladder_view f.ladder g.ladder) → Same final_view f g
fin-whole e p q =
    record { eq = picked e (λ r. ap₂ (λ m l. some (record { msg = m; ladder = l })) (p r) (q r).eq) (λ _. refl) }

pub put-fin : {x y : Epoch} {f g : Final} → AlikeEpoch x y → Same final_view f g → Same epoch_view (put_fin x f) (put_fin y g)
unfolding epoch_view
put-fin h e = record { eq = cc }

pub put-elicit : {x y : Epoch} {l m : MayLadder} {w z : When} → AlikeEpoch x y → Same may_ladder_view l m → Same when_view w z → Same epoch_view (put_elicit x l w) (put_elicit y m z)
unfolding epoch_view
put-elicit h e f = record { eq = cc }

pub with_probes_lem : {p q : PendI} {l m : MayLadder} {w z : When} {b c : Bool} → AlikePendI p q → Same may_ladder_view l m → Same when_view w z → b ≡ c → Same pend_iView (with_probes p l w b) (with_probes q m z c)
unfolding pend_iView
with_probes_lem h e f g = record { eq = cc }

with_fin_lem : {p q : PendI} {f g : Final} → AlikePendI p q → Same final_view f g → Same pend_iView (with_fin p f) (with_fin q g)
unfolding pend_iView
with_fin_lem h e = record { eq = cc }

moved-init : {x y : Attempt} {l m : Ladder} {b c : Bool} → AlikeAttempt x y → Same ladder_view l m → b ≡ c → Same attempt_view (moved_init x l b) (moved_init y m c)
unfolding attempt_view
moved-init h e f = record { eq = cc }

module _ {c d : Cycle} (h : AlikeCycle c d) where
  pub put-pendi : {p q : PendI} → (is_pend_i c.kind ≡ true → Same pend_iView p q) → Same cycle_view (put_pend_i c p) (put_pend_i d q)
  put-pendi f = cycle-whole h.inits (λ q. attempt-whole (h.init q)) h.owns f h.peers (λ q. pendr-whole (h.pendr q))

  put-init : {a b : Attempt} → (is_init c.kind ≡ true → Same attempt_view a b) → Same cycle_view (put_init c a) (put_init d b)
  put-init f = cycle-whole h.inits f h.owns (λ q. pendi-whole (h.pendi q)) h.peers (λ q. pendr-whole (h.pendr q))

abandoned-mem : {m n : Memory} → AlikeMemory m n → (cfg : Config) (now extra : ℕ) → Same memory_view (abandoned_mem m cfg now extra) (abandoned_mem n cfg now extra)
unfolding memory_view abandoned_mem
abandoned-mem h cfg now extra = record { eq = cc }

pub same-idle : (c d : Cycle) → Same cycle_view (idled c) (idled d)
unfolding cycle_view
same-idle c d = record { eq = refl }

-- ---- the rows

pub drain-due : {d e : Drain} → Same drain_view d e → (tag : ℕ) → DrainSteps (drain_due d tag) (drain_due e tag)
unfolding drain_due is_tag
drain-due h tag =
    related2 DrainSteps (drain-some h) (λ q. ap (λ n. eqb n tag) (drain_fields h q).ep.tag)
    (λ q _. let f = drain_fields h q in record { drain = record { eq = refl }; out = cc (retire_out_lem f.ep, f.evidenced) })
    (record { drain = h; out = refl })

module _ {c d : Cycle} (h : AlikeCycle c d) where
  pub unadopted_due_lem : (tag : ℕ) → CycleSteps (unadopted_due c tag) (unadopted_due d tag)
  unfolding unadopted_due
  unadopted_due_lem tag =
      related CycleSteps (peers-alike h tag)
      (λ q. let f = h.pendr (peers-is c tag q) in record { cycle = same-idle c d; out = cc (some-when f.answer, retire_out_lem (epoch_fields f.ep)) })
      (λ _. record { cycle = h.whole; out = refl })

  late-alike : is_pend_i c.kind ≡ true → {g g' : ℕ} → g ≡ g' → (now : ℕ) → late_for c.pendi g now ≡ late_for d.pendi g' now
  unfolding late_for
  late-alike q r now = cc ((h.pendi q).reverted, (h.pendi q).deadline, r)

  probing-alike : {t u : Took} → is_pend_i c.kind ≡ true → AlikeTook t u → {g g' : ℕ} → g ≡ g' → (now : ℕ) {x y : ℕ} → x ≡ y → CycleSteps (probing c t g now x) (probing d u g' now y)
  unfolding probing
  probing-alike {t = t} q k r now e =
      let f = h.pendi q in
      let l = may-whole (may-some f.probes) (λ _. k.ladder) in
      related CycleSteps (anded k.send (λ _. ap not (late-alike q r now)))
      (λ _. record { cycle = put-pendi h (λ _. with_probes_lem f l (record { eq = refl }) refl); out = cc (fin-send f.fin 4 t.taken, (epoch_fields f.ep).tag, e, k.taken) })
      (λ _. record { cycle = put-pendi h (λ _. with_probes_lem f l f.probed f.stayed); out = cc (e, k.taken) })

  pub probe-due : {b b' : Bool} {x y g g' : ℕ} → b ≡ b' → (b ≡ true → x ≡ y) → g ≡ g' → (tag now : ℕ) → CycleSteps (probe_due c b x g tag now) (probe_due d b' y g' tag now)
  unfolding probe_due
  probe-due e f r tag now =
      related3 CycleSteps e (λ _. anded (own-alike h tag) (λ q. may-some (h.pendi (own_is c tag q)).probes))
      (λ _ a. (took (own_is c tag (and_left (is_own c tag) c.pendi.probes.some a)) (and_right (is_own c tag) c.pendi.probes.some a)).any)
      (λ b a. let o = own_is c tag (and_left (is_own c tag) c.pendi.probes.some a) in
      probing-alike o (took o (and_right (is_own c tag) c.pendi.probes.some a)) r now (f b))
      (record { cycle = h.whole; out = refl })
    where
      took : is_pend_i c.kind ≡ true → c.pendi.probes.some ≡ true → AlikeTook (take_of c.pendi.probes.ladder now) (take_of d.pendi.probes.ladder now)
      took o q = take-alike (may-ladder (h.pendi o).probes q) now

  pub delayed-due : (tag now : ℕ) → CycleSteps (delayed_due c tag now) (delayed_due d tag now)
  unfolding delayed_due
  delayed-due tag now =
      related3 CycleSteps (own-alike h tag) (λ q. fin-some (h.pendi (own_is c tag q)).fin)
      (λ q r. (take-alike (fin-ladder (h.pendi (own_is c tag q)).fin r) now).any)
      (λ q r. let f = h.pendi (own_is c tag q) in
      record { cycle = put-pendi h (λ _. with_fin_lem f (fin-whole (fin-some f.fin) (λ _. fin-msg f.fin r) (λ _. (take-alike (fin-ladder f.fin r) now).ladder))); out = ap₂ (λ m n. Send m 4 n ∷ []) (fin-msg f.fin r) (take-alike (fin-ladder f.fin r) now).taken })
      (record { cycle = h.whole; out = refl })

  resend_taken_lem : {t u : Took} → is_init c.kind ≡ true → AlikeTook t u → {b b' : Bool} → b ≡ b' → (young messages : ℕ) → CycleSteps (resend_taken c t b young messages) (resend_taken d u b' young messages)
  unfolding resend_taken
  resend_taken_lem q k e young messages =
      let f = h.init q in
      related CycleSteps (anded e (λ _. ap (λ n. ltb n young) k.latest))
      (λ _. record { cycle = put-init h (λ _. moved-init f k.ladder f.resent); out = refl })
      (λ _. record { cycle = put-init h (λ _. moved-init f k.ladder refl); out = cc (f.out, k.taken) })

  pub resend_due_lem : {b b' : Bool} → b ≡ b' → (young messages now : ℕ) → CycleSteps (resend_due c b young messages now) (resend_due d b' young messages now)
  unfolding resend_due
  resend_due_lem e young messages now =
      related3 CycleSteps h.inits (λ q. ap (λ n. ltb now n) (h.init q).deadline) (λ q _. (take-alike (h.init q).ladder now).any)
      (λ q _. resend_taken_lem q (take-alike (h.init q).ladder now) e young messages)
      (record { cycle = h.whole; out = refl })

  pub expire_due_lem : {m n : Memory} → AlikeMemory m n → (cfg : Config) {b b' : Bool} → b ≡ b' → (now extra : ℕ) → FailSteps (expire_due c m cfg b now extra) (expire_due d n cfg b' now extra)
  unfolding expire_due
  expire_due_lem k cfg e now extra =
      related2 FailSteps h.inits (λ q. ap (λ n. leb n now) (h.init q).deadline)
      (λ q _. record { cycle = same-idle c d; mem = abandoned-mem k cfg now extra; out = ap₂ (λ l b. l ++ only b (Teardown 1)) (abandon_out_lem (h.init q) 4) e; ends = e })
      (record { cycle = h.whole; mem = memory_whole k; out = refl; ends = refl })

module _ {c d : MayEpoch} (e : Same cur_view c d) where
  fin-taken : {t u : Took} → c.some ≡ true → c.ep.fin.some ≡ true → AlikeTook t u → CurSteps (fin_taken c t) (fin_taken d u)
  unfolding fin_taken
  fin-taken q r k =
      let h = cur-ep e q in
      record {
        cur = cur-whole (cur-some e) (λ _. put-fin h (fin-whole (ap not k.last) (λ _. fin-msg h.fin r) (λ _. k.ladder)));
        out = cc (fin-msg h.fin r, k.taken);
        due = cc (k.last, some-when h.heard);
      }

  pub fin-due : (tag now : ℕ) → CurSteps (fin_due c tag now) (fin_due d tag now)
  unfolding fin_due
  fin-due tag now =
      related3 CurSteps (cur-tag e tag) (λ q. fin-some (cur-ep e (tag_is c.some c.ep.tag tag q)).fin)
      (λ q r. (take-alike (fin-ladder (cur-ep e (tag_is c.some c.ep.tag tag q)).fin r) now).any)
      (λ q r. let o = tag_is c.some c.ep.tag tag q in fin-taken o r (take-alike (fin-ladder (cur-ep e o).fin r) now))
      (record { cur = e; out = refl; due = refl })

  elicit-taken : {t u : Took} → c.some ≡ true → AlikeTook t u → (tag now : ℕ) → CurSteps (elicit_taken c t tag now) (elicit_taken d u tag now)
  unfolding elicit_taken
  elicit-taken q k tag now =
      record {
        cur = cur-whole (cur-some e) (λ _. put-elicit (cur-ep e q) (may-whole (ap not k.last) (λ _. k.ladder)) (record { eq = refl }));
        out = ap (λ n. Prompt tag n ∷ []) k.taken;
        due = refl;
      }

  pub elicit-due : (tag now : ℕ) → CurSteps (elicit_due c tag now) (elicit_due d tag now)
  unfolding elicit_due
  elicit-due tag now =
      related3 CurSteps (cur-tag e tag)
      (λ q. let h = cur-ep e (tag_is c.some c.ep.tag tag q) in anded (ap not (some-when h.moved)) (λ _. may-some h.elicit))
      (λ q r. (take-alike (may-ladder (cur-ep e (tag_is c.some c.ep.tag tag q)).elicit (and_right (not c.ep.moved.some) c.ep.elicit.some r)) now).any)
      (λ q r. let o = tag_is c.some c.ep.tag tag q in
      elicit-taken o (take-alike (may-ladder (cur-ep e o).elicit (and_right (not c.ep.moved.some) c.ep.elicit.some r)) now) tag now)
      (record { cur = e; out = refl; due = refl })
