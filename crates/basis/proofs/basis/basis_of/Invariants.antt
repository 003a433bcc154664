-- Before each turn the bonds below k are tried, and the rings of the closure bonds among them are in the array. Assumes nothing.
use Rattle.sets.specs.Lists.{sets_in}
use Rattle.definitions.specs.Table.{table}
use Rattle.basis.proofs.Trying.{Tried}
use Rattle.basis.proofs.basis.basis_of.Given as goal

abbrev pub invariant-loop-k : goal.invariant-loop-k
invariant-loop-k l = Tried (table l.atoms l.bonds) l.fragments.lower (sets_in l.fragments.ways) (sets_in l.basis.rings) l.basis.count l.k
