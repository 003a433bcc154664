-- Before each turn those of the first j sums that are rings are put. Assumes nothing.
use Rattle.sets.specs.Lists.{sets_in}
use Rattle.combining.proofs.Adding.{Adding}
use Rattle.combining.proofs.add_group.Given as goal

abbrev pub invariant-loop-j : goal.invariant-loop-j
invariant-loop-j l = Adding (sets_in l.rings) (sets_in l.group) (sets_in l.initial.out) (sets_in l.out) l.n l.j
