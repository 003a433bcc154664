-- Before each turn the rings of the assemblies passed stand at the start of a list; at last those of all are put in order. Assumes nothing.
use mathlib.Core.Path.{◌≡◌}
use mathlib.Core.List.{map}
use lib.ListN.{length}
use Rattle.sets.specs.Lists.{sets_in}
use Rattle.sets.specs.Ring.{bits}
use Rattle.lent.proofs.Appending.{Strung}
use Rattle.basis.proofs.Holding.{Left}
use Rattle.combining.specs.Gibbs.{found_at}
use Rattle.lists.proofs.listing.list_rings.Given as goal

abbrev pub invariant-loop-members : goal.invariant-loop-members
invariant-loop-members l =
    let all = l.initial.members-iterator.rest.now in
    Left all (length l.yielded) l.members-iterator.rest.now
    × (length l.found ≡ length l.initial.found) × (length l.ordered ≡ length l.initial.ordered)
    × Strung (found_at (sets_in l.rings) (map bits all)) (length all) (sets_in l.initial.found) (sets_in l.found) 0 l.count (length l.yielded)
