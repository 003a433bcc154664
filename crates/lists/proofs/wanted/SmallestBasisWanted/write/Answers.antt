-- The rings that are chosen of those in order are written. Assumes nothing.
use mathlib.Core.Path.{ap}
use lib.ListN.{length}
use Rattle.sets.proofs.Lists.{sets-blank}
use Rattle.definitions.specs.Table.{max_bonds}
use Rattle.lists.proofs.wanted.SmallestBasisWanted.write.Goals as goal

pub smallest_of-chosen-requires : goal.smallest_of-chosen-requires
smallest_of-chosen-requires c = record { lent = ap length (sets-blank max_bonds); few = c.requires.0; spanned = c.requires.1 }
