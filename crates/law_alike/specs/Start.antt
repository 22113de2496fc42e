-- The start reads only what stands: `start_kind` and `start_at`.
use Rattle.std.specs.Prelude.{ℕ, ◌-◌, Bool, not, ◌&&◌, ◌||◌, ◌≡◌, leb, ltb}
use Rattle.std.proofs.Math.Bool.{true, false}
use Rattle.std.proofs.lemmas.Bool.{false≢true}
use Rattle.std.proofs.Math.Path.{refl, ap}
use Rattle.time.specs.declared.When.{When}
use Rattle.time.specs.Pick.{pick}
use Rattle.time.specs.Time.{later_of, most, none}
use Rattle.settings.specs.declared.Config.{Config}
use Rattle.params.specs.Params.{value_or}
use Rattle.state.specs.declared.Memory.{Memory}
use Rattle.state.specs.declared.State.{State}
use Rattle.state.specs.declared.Profile.{Profile}
use Rattle.state.specs.Parts.{listed}
use Rattle.state.specs.Stands.{when_view}
use Rattle.start.specs.Start.{trigger_of, silence_interval, latest_of, ahead, aged, instants, trigger_at, silence_at, floors_passed, floor_ends, damped_ends, backed_ends, silence_waits, damped_now, backed_now, triggered_now, scheduled_now, silent_now, kind_of, scheduled_waits, at_of, may_start, start_kind, start_at, called_for}
use Rattle.law_alike.specs.Optional.{Same, when, picked, both, holds-first}
use Rattle.law_alike.specs.Parts.{AlikeMemory, memory_fields}
use Rattle.law_alike.specs.Cycle.{cycle_fields, idles}
use Rattle.law_alike.specs.Ladders.{fin-some}
use Rattle.law_alike.specs.Whole.{Alike, cur-some, cur-ep}

-- ---- an instant that may be absent

module _ {w z : When} (e : Same when_view w z) where
  pub aged-alike : (floor now : ℕ) → aged w floor now ≡ aged z floor now
  aged-alike floor now = when (λ b t. not b || leb floor (now - t)) (λ x y. refl) e

  pub ahead-alike : (now : ℕ) → ahead w now ≡ ahead z now
  ahead-alike now = when (λ b t. b && ltb now t) (λ x y. refl) e

  pub latest-alike : (t : ℕ) → latest_of w t ≡ latest_of z t
  unfolding latest_of
  latest-alike t = when (λ b u. pick b (most u t) t) (λ x y. refl) e

  pub instants-alike : instants w ≡ instants z
  instants-alike = when (λ b t. listed b t) (λ x y. refl) e

  pub moved-alike : (d : ℕ) → listed w.some (later_of w.at d) ≡ listed z.some (later_of z.at d)
  moved-alike d = when (λ b t. listed b (later_of t d)) (λ x y. refl) e

  pub value-alike : (n : ℕ) → value_or n w ≡ value_or n z
  value-alike n = when (λ b t. pick b t n) (λ x y. refl) e

-- ---- the memory

module _ {m n : Memory} (h : AlikeMemory m n) (cfg : Config) where
  pub interval_alike : silence_interval m cfg ≡ silence_interval n cfg
  unfolding silence_interval
  interval_alike = rw h.silence

module _ {m n : Memory} (h : AlikeMemory m n) (cfg : Config) (started : ℕ) where
  trigger_alike : trigger_at m cfg started ≡ trigger_at n cfg started
  unfolding trigger_at
  trigger_alike = ap (λ j. later_of started (trigger_of cfg.after j)) h.jitter

  silence-alike : silence_at m cfg started ≡ silence_at n cfg started
  unfolding silence_at
  silence-alike = cc (latest-alike h.rx_cur started, interval_alike h cfg)

  floors_alike : (now : ℕ) → floors_passed m cfg started now ≡ floors_passed n cfg started now
  unfolding floors_passed
  floors_alike now = cc (h.link_since, aged-alike h.last_cutover cfg.floor_cutover now)

  floor-ends : floor_ends m cfg started ≡ floor_ends n cfg started
  unfolding floor_ends
  floor-ends = cc (h.link_since, moved-alike h.last_cutover cfg.floor_cutover)

  damped_ends_lem : damped_ends m cfg started ≡ damped_ends n cfg started
  unfolding damped_ends
  damped_ends_lem = cc (floor-ends, instants-alike h.damp)

  backed_ends_lem : backed_ends m cfg started ≡ backed_ends n cfg started
  unfolding backed_ends
  backed_ends_lem = cc (damped_ends_lem, instants-alike h.backoff)

  silence-waits : silence_waits m cfg started ≡ silence_waits n cfg started
  unfolding silence_waits
  silence-waits = cc (backed_ends_lem, silence-alike)

module _ {m n : Memory} (h : AlikeMemory m n) (cfg : Config) (sent : ℕ) where
  damped_alike : (now : ℕ) → damped_now m cfg sent now ≡ damped_now n cfg sent now
  unfolding damped_now
  damped_alike now = cc (ahead-alike h.damp now)

  backed_alike : (repair : Bool) (now : ℕ) → backed_now m cfg sent repair now ≡ backed_now n cfg sent repair now
  unfolding backed_now
  backed_alike repair now = cc (ahead-alike h.backoff now)

module _ {m n : Memory} (h : AlikeMemory m n) (cfg : Config) (started sent : ℕ) where
  triggered_alike : (now : ℕ) → triggered_now m cfg started sent now ≡ triggered_now n cfg started sent now
  unfolding triggered_now
  triggered_alike now = cc (h.due, trigger_alike h cfg started)

  scheduled_alike : (now : ℕ) → scheduled_now m cfg started sent now ≡ scheduled_now n cfg started sent now
  unfolding scheduled_now
  scheduled_alike now = cc (triggered_alike now, h.due, backed_alike h cfg sent n.due now)

  silent-alike : (now : ℕ) → silent_now m cfg started sent now ≡ silent_now n cfg started sent now
  unfolding silent_now
  silent-alike now = cc (h.sent_data, silence-alike h cfg started, backed_alike h cfg sent false now)

  pub kind-alike : (silence : Bool) (now : ℕ) → kind_of m cfg started sent silence now ≡ kind_of n cfg started sent silence now
  unfolding kind_of
  kind-alike silence now = cc (floors_alike h cfg started now, damped_alike h cfg sent now, scheduled_alike now, silent-alike now)

  waits-alike : scheduled_waits m cfg started sent ≡ scheduled_waits n cfg started sent
  unfolding scheduled_waits
  waits-alike = cc (h.due, floor-ends h cfg started, damped_ends_lem h cfg started, backed_ends_lem h cfg started, trigger_alike h cfg started)

  pub at-alike : (silence : Bool) → at_of m cfg started sent silence ≡ at_of n cfg started sent silence
  unfolding at_of
  at-alike silence = cc (h.sent_data, waits-alike, silence-waits h cfg started)

-- ---- the state

begins : (s : State) → may_start s ≡ true → s.cur.some ≡ true
unfolding may_start
begins s e = holds-first s.cur.some _ e

module _ {s t : State} (a : Alike s t) where
  may-alike : may_start s ≡ may_start t
  unfolding may_start
  may-alike =
      both (cur-some a.cur)
      (λ q. cc (idles (cycle_fields a.cycle), fin-some (cur-ep a.cur q).fin, (memory_fields a.mem).reachable))

  module _ (cfg : Config) (p : Profile) where
    pub start-kind : (now : ℕ) → start_kind s cfg p now ≡ start_kind t cfg p now
    unfolding start_kind
    start-kind now =
        picked may-alike
        (λ q. let e = cur-ep a.cur (begins s q) in cc (e.started, e.sent, kind-alike (memory_fields a.mem) cfg t.cur.ep.started t.cur.ep.sent p.silence now))
        (λ _. refl)

    pub start-at : start_at s cfg p ≡ start_at t cfg p
    unfolding start_at
    start-at =
        picked may-alike
        (λ q. let e = cur-ep a.cur (begins s q) in cc (e.started, e.sent, at-alike (memory_fields a.mem) cfg t.cur.ep.started t.cur.ep.sent p.silence))
        (λ _. refl)

    starts : (now : ℕ) → (start_kind s cfg p now).some ≡ true → s.cur.some ≡ true
    unfolding start_kind
    starts now = under (may_start s) refl
      where
        under : (b : Bool) → may_start s ≡ b → (pick b (kind_of s.mem cfg s.cur.ep.started s.cur.ep.sent p.silence now) none).some ≡ true → s.cur.some ≡ true
        under true e k = begins s e
        under false e k = absurd (false≢true k)

    pub called-alike : (now : ℕ) → called_for s cfg p now ≡ called_for t cfg p now
    unfolding called_for
    called-alike now = both (ap (λ w. w.some) (start-kind now)) (λ q. cc (cur-ep a.cur (starts now q)).sent)
