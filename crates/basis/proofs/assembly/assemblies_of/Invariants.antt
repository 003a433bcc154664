-- Before each turn the first assemblies are found and the rings of the others are left. Assumes nothing.
use Prim.Native.Nat.{◌-◌}
use lib.ListN.{length}
use Rattle.sets.specs.Ring.{bits, room}
use Rattle.sets.specs.Lists.{sets_in}
use Rattle.basis.specs.Held.{held_sets}
use Rattle.basis.proofs.Numbering.{Divided}
use Rattle.basis.proofs.assembly.assemblies_of.Given as goal

abbrev pub invariant-loop-first : goal.invariant-loop-first
invariant-loop-first l = Divided (sets_in l.known) (held_sets l.found) (bits l.left)

abbrev pub decreases-loop-first : goal.decreases-loop-first
decreases-loop-first l = room - length (held_sets l.found)
