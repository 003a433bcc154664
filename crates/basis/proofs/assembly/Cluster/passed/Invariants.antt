-- Before each turn the rings taken so far share no bond with the cluster, or the pass has added a ring. Assumes nothing.
use Rattle.sets.specs.Lists.{sets_in}
use Rattle.basis.specs.Clusters.{group_of}
use Rattle.basis.proofs.Grouping.{Passing}
use Rattle.basis.proofs.assembly.Cluster.passed.Given as goal

abbrev pub invariant-loop-i : goal.invariant-loop-i
invariant-loop-i l = Passing (sets_in l.rings) (group_of l.fn.self) (group_of l.cluster) l.yielded
