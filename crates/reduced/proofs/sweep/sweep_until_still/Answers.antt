-- The list has the same reduced list throughout, and the total size falls until a sweep changes nothing. Assumes nothing.
use mathlib.Core.Path.{refl, ◌∙◌}
use Rattle.reduced.proofs.Still.{swept_falls, swept_same, swept_still}
use Rattle.reduced.proofs.sweep.sweep_until_still.Goals as goal

pub loop-init : goal.loop-init
loop-init c = (refl, refl)

pub loop-smaller : goal.loop-smaller
loop-smaller c = swept_falls _ _ (c.sweep.ensures.list, c.sweep.ensures.told) c.loop-test.true

pub loop-preserved : goal.loop-preserved
loop-preserved c = let swept = c.sweep.ensures in
    let inv = c.loop.invariant in
    (swept.long ∙ inv.0, swept_same _ _ _ inv.1 (swept.list, swept.told))

pub shape_of-sets : goal.shape_of-sets
shape_of-sets c = c.sweep.ensures.long ∙ c.loop.invariant.0

pub returns : goal.returns
returns c = let swept = c.sweep.ensures in
    let inv = c.loop.invariant in
    record { long = swept.long ∙ inv.0; list = swept_still _ _ _ inv.1 (swept.list, swept.told) c.loop-test.false }
