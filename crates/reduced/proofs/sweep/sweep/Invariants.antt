-- What is left of the pairs at j, on the list as it is, is what there was at 0 on the list as lent. Assumes nothing.
use mathlib.Core.Path.{◌≡◌}
use lib.ListN.{length}
use Rattle.sets.specs.Lists.{sets_in}
use Rattle.reduced.proofs.Underway.{AcrossTo}
use Rattle.reduced.proofs.sweep.sweep.Given as goal

abbrev pub invariant-loop-j : goal.invariant-loop-j
invariant-loop-j l = (length l.sets ≡ length l.initial.sets) × AcrossTo (sets_in l.initial.sets) (sets_in l.sets) l.changed l.j
