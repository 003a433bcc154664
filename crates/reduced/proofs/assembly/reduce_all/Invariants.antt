-- The reduced sets of the assemblies passed stand over the start of the list, and the next come after them. Assumes nothing.
use mathlib.Core.List.{map}
use lib.ListN.{length}
use Rattle.sets.specs.Ring.{bits}
use Rattle.sets.specs.Lists.{sets_in}
use Rattle.basis.proofs.Holding.{Left}
use Rattle.reduced.specs.Picked.{picked_by}
use Rattle.reduced.proofs.Gathering.{Gathered}
use Rattle.reduced.proofs.assembly.reduce_all.Given as goal

abbrev pub invariant-loop-members : goal.invariant-loop-members
invariant-loop-members l =
    let all = l.initial.members-iterator.rest.now in
    Left all (length l.yielded) l.members-iterator.rest.now
    × Gathered (picked_by (sets_in l.rings) (map bits all)) (length all) l.initial.out l.out l.at (length l.yielded)
