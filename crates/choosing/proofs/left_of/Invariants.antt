-- What is left differs from the ring by a sum of sets kept, and its lowest bond rises until no set is kept there. Assumes nothing.
use Prim.Native.Nat.{◌^◌, ◌<◌}
use Rattle.sets.specs.Bond.{bits, room}
use Rattle.sets.specs.Lists.{sets_in}
use Rattle.spans.specs.Elimination.{Left}
use Rattle.choosing.proofs.Reducing.{from_lowest}
use Rattle.choosing.proofs.left_of.Given as goal

abbrev pub invariant-loop-other : goal.invariant-loop-other
invariant-loop-other l = (bits l.rest < 2 ^ room) × Left (sets_in l.kept) (bits l.fn.ring) (bits l.rest)

abbrev pub decreases-loop-other : goal.decreases-loop-other
decreases-loop-other l = from_lowest (bits l.rest)
