-- The rings are gone through in order until as many are taken as are wanted. Assumes nothing.
use mathlib.Core.Path.{refl}
use native.Mathlib.Omega.{arith}
use Rattle.sets.specs.Bond.{room}
use Rattle.sets.proofs.Lists.{sets-blank}
use Rattle.choosing.proofs.Selecting.{selecting_none, selecting_more, selecting_full}
use borrow.Author.Rules.{rules}
use Rattle.choosing.proofs.smallest_of.Goals as goal

pub loop-i-init : goal.loop-i-init
loop-i-init c = (refl, selecting_none c.requires (sets-blank room))

pub returns-then-count-want : goal.returns-then-count-want
returns-then-count-want c = selecting_full c.requires c.loop-i.invariant.1 c.if-count-want.true

pub loop-i-preserved : goal.loop-i-preserved
loop-i-preserved c = (search rules, selecting_more c.requires c.loop-i.invariant.1 (omega arith) c.if-count-want.false c.at.ensures c.take_new-count.ensures)
