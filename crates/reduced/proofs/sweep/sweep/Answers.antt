-- What is left of the pairs at j, on the list as it is, is what there was at 0 on the list as lent. Assumes nothing.
use mathlib.Core.Path.{refl, ◌∙◌}
use native.Mathlib.Omega.{arith}
use Rattle.reduced.proofs.Underway.{across-none, across_more, across_all}
use Rattle.reduced.proofs.sweep.sweep.Goals as goal

pub loop-j-init : goal.loop-j-init
loop-j-init c = (refl, across-none _)

pub along-changed-requires : goal.along-changed-requires
along-changed-requires c = omega (arith, c.loop-j.invariant.1.long)

pub loop-j-preserved : goal.loop-j-preserved
loop-j-preserved c = let step = c.along-changed.ensures in
    let inv = c.loop-j.invariant in
    (step.long ∙ inv.0, across_more _ _ _ inv.1 (omega arith) (step.list, step.told))

pub shape_of-sets : goal.shape_of-sets
shape_of-sets c = c.loop-j.invariant.0

pub returns : goal.returns
returns c = let all = across_all _ _ c.loop-j.invariant.1 (omega arith) in record { long = c.loop-j.invariant.0; list = all.0; told = all.1 }
