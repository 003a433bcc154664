-- Each old set is summed with the ring, and stands after them all at its own place. Assumes nothing.
use mathlib.Core.Path.{◌∙◌}
use native.Mathlib.Omega.{arith}
use Rattle.sets.proofs.Lists.{sets-length}
use Rattle.combining.proofs.Combining.{doubling_more}
use Rattle.combining.proofs.double.Goals as goal

pub overflow_add-half : goal.overflow_add-half
overflow_add-half c = omega (arith, sets-length c.args.sums.now)

pub loop-j-preserved : goal.loop-j-preserved
loop-j-preserved c =
    let turn = c.loop-j.invariant in
    let put = c.put_at.ensures in
    (put.long ∙ turn.0, doubling_more turn.1 (omega arith) c.at.ensures c.sum.ensures put.sets)
