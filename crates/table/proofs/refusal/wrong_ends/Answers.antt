-- Before each turn it is told of the bonds tried so far whether one is wrong. Assumes nothing.
use mathlib.Core.Path.{sym}
use Rattle.definitions.proofs.Tests.{some-none, some_or}
use Rattle.table.proofs.refusal.wrong_ends.Goals as goal

pub loop-k-init : goal.loop-k-init
loop-k-init c = (sym (some-none _), sym (some-none _))

pub loop-k-preserved : goal.loop-k-preserved
loop-k-preserved c =
    let (outside, same) = c.loop-k.invariant in (some_or _ outside c.bad_end-outside.ensures, some_or _ same c.self_bond-same.ensures)
