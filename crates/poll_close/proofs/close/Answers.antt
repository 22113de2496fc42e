use Rattle.std.specs.Prelude.{ℕ, Bool, true, false, ◌≡◌}
use Rattle.std.specs.Bool.{then_some}
use Rattle.std.proofs.Math.Path.{refl}
use Rattle.std.proofs.Common.{sym, ◌∙◌, ap₂}
use Rattle.time.specs.Pick.{pick}
use Rattle.time.specs.Time.{none}
use Rattle.time.specs.Options.{when_of}
use Rattle.events.specs.Log.{Log}
use Rattle.events.specs.Withdraw.{given, withdrawn}
use Rattle.events.proofs.Laws.{withdrawn-given}
use Rattle.poll_close.specs.Logs.{closed_log}
use Rattle.poll_close.proofs.close.Goals as goal

given_by : (b : Bool) (x : ℕ) → when_of (then_some b x) ≡ pick b (given b x) none
given_by true x = refl
given_by false x = refl

withdrawn-held : (a b : Bool) (x y : ℕ) (v : Log) → withdrawn (when_of (then_some a x)) (when_of (then_some b y)) v ≡ withdrawn (given a x) (given b y) v
withdrawn-held a b x y v = ap₂ (λ p q. withdrawn p q v) (given_by a x) (given_by b y) ∙ sym (withdrawn-given a b x y v)

pub returns : goal.returns
unfolding closed_log
returns c =
    record {
      log =
          c.withdraw.ensures.withdrawn
          ∙ simp (c.tag.ensures, c.then_some-pend.ensures, c.waits_for.ensures, withdrawn-held, c.go.ensures.log, c.tests-ends.ensures.told.appends, c.tests-ends.ensures.ends);
      same_reference = c.withdraw.ensures.same_reference ∙ (c.go.ensures.same_reference ∙ c.tests-ends.ensures.told.same_reference);
    }
