-- The refusals are tried in order, and the sums of one assembly after another are added up. Assumes nothing.
use mathlib.Core.List.{map}
use lib.ListN.{length}
use Rattle.sets.specs.Ring.{bits}
use Rattle.basis.proofs.Holding.{Left}
use Rattle.perception.proofs.Perceiving.{Added}
use Rattle.perception.proofs.perceive.Given as goal

abbrev pub invariant-loop-members : goal.invariant-loop-members
invariant-loop-members l =
    let all = l.initial.members-iterator.rest.now in
    Left all (length l.yielded) l.members-iterator.rest.now × Added (map bits all) (length all) l.sums (length l.yielded)
