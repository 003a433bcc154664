-- Each place has the empty set. Assumes nothing.
use mathlib.Core.Path.{ap, ◌∙◌}
use lib.ListN.{replicate}
use Rattle.sets.specs.Ring.{bits, no_rings}
use Rattle.definitions.specs.Table.{max_bonds}
use Rattle.definitions.proofs.Lists.{get_or-same}
use Rattle.basis.proofs.Holding.{members-at}
use Rattle.basis.proofs.found.Assemblies.new.Goals as goal

pub invariant_of-result-clause-blank : goal.invariant_of-result-clause-blank
invariant_of-result-clause-blank c a l = members-at (replicate max_bonds no_rings) a ∙ ap bits (get_or-same max_bonds a no_rings)
