-- Each old set is summed with the ring, and stands after them all at its own place. Assumes nothing.
use mathlib.Core.Path.{◌≡◌}
use lib.ListN.{length}
use Rattle.sets.specs.Bond.{bits}
use Rattle.sets.specs.Lists.{sets_in}
use Rattle.combining.proofs.Combining.{Doubling}
use Rattle.combining.proofs.double.Given as goal

abbrev pub invariant-loop-j : goal.invariant-loop-j
invariant-loop-j l = (length l.sums ≡ length l.initial.sums) × Doubling (sets_in l.initial.sums) l.half (bits l.ring) (sets_in l.sums) l.j
