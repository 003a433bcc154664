-- What is left of the pairs at i, on the list as it is, is what there was at j + 1 on the list as lent. Assumes nothing.
use mathlib.Core.Path.{refl, ◌∙◌}
use native.Mathlib.Omega.{arith}
use Rattle.sets.proofs.Lists.{sets-length}
use Rattle.reduced.proofs.Underway.{along-none, along_more, along_all}
use Rattle.reduced.proofs.sweep.along.Goals as goal

pub overflow_step-i : goal.overflow_step-i
overflow_step-i c = omega (arith, sets-length c.args.sets.now)

pub loop-i-init : goal.loop-i-init
loop-i-init c = (refl, along-none _ _ (omega arith))

pub exchange-changed-requires : goal.exchange-changed-requires
exchange-changed-requires c = (omega (arith, c.loop-i.invariant.1.from), omega (arith, c.loop-i.invariant.1.long))

pub loop-i-preserved : goal.loop-i-preserved
loop-i-preserved c = let step = c.exchange-changed.ensures in
    let inv = c.loop-i.invariant in
    (step.long ∙ inv.0, along_more _ _ _ _ inv.1 (omega arith) (step.list, step.told))

pub shape_of-sets : goal.shape_of-sets
shape_of-sets c = c.loop-i.invariant.0

pub returns : goal.returns
returns c = let all = along_all _ _ _ c.loop-i.invariant.1 (omega arith) in record { long = c.loop-i.invariant.0; list = all.0; told = all.1 }
