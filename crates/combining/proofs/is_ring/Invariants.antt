-- The sum is compared with each of the rings, two in a turn: those that are left decide. Assumes nothing.
use Rattle.sets.specs.Bond.{bits}
use Rattle.combining.proofs.Combining.{Left}
use Rattle.combining.proofs.is_ring.Given as goal

abbrev pub invariant-loop-pair : goal.invariant-loop-pair
invariant-loop-pair l = Left l.rings (bits l.sum) l.pair-iterator.size l.pair-iterator.rest.now l.last
