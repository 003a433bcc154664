-- What is left of the pairs at i, on the list as it is, is what there was at j + 1 on the list as lent. Assumes nothing.
use mathlib.Core.Path.{◌≡◌}
use lib.ListN.{length}
use Rattle.sets.specs.Lists.{sets_in}
use Rattle.reduced.proofs.Underway.{AlongTo}
use Rattle.reduced.proofs.sweep.along.Given as goal

abbrev pub invariant-loop-i : goal.invariant-loop-i
invariant-loop-i l = (length l.sets ≡ length l.initial.sets) × AlongTo l.j (sets_in l.initial.sets) (sets_in l.sets) l.changed l.i
