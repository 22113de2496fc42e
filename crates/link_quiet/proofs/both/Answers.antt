use Rattle.std.proofs.Common.{◌∙◌, arith}
use borrow.Author.Tests.{le-leb, lt-leb}
use Rattle.candidates.proofs.Places.{rising-start, rising-on, rising-end}
use Rattle.link_quiet.specs.Due.{here, there, past, found, none_found}
use Rattle.link_quiet.proofs.both.Goals as goal

pub returns-then-v-time : goal.returns-then-v-time
returns-then-v-time c = found _ _ _ _ c.requires.1 (here _ _ _ _ c.requires.0 (le-leb _ _ c.if-v-time.true))

pub loop-i-init : goal.loop-i-init
loop-i-init c = (there _ _ _ _ c.requires.0 (lt-leb _ _ c.if-v-time.false), rising-start _ _)

pub returns-then-v-i : goal.returns-then-v-i
returns-then-v-i c =
    found _ _ _ _ c.requires.1 (c.loop-i.invariant.0 ∙ here _ _ _ _ (omega arith) (le-leb _ _ c.if-v-i.true))

pub loop-i-preserved : goal.loop-i-preserved
loop-i-preserved c =
    (c.loop-i.invariant.0 ∙ there _ _ _ _ (omega arith) (lt-leb _ _ c.if-v-i.false), c.loop-i.invariant.1 ∙ rising-on _ _ _ _ (omega arith) c.if-x-last.false)

pub returns : goal.returns
returns c =
    none_found _ _ _ _ c.requires.1
    (c.loop-i.invariant.0 ∙ past _ _ _ _ (omega arith))
    (c.loop-i.invariant.1 ∙ rising-end _ _ _ _ (omega arith))
