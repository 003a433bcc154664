-- Before each pass the cluster is a group of the first ring. Assumes nothing.
use Rattle.sets.specs.Bits.{size}
use Rattle.sets.specs.Ring.{bits}
use Rattle.sets.specs.Lists.{sets_in}
use Rattle.basis.specs.Clusters.{group_of, Grouped}
use Rattle.basis.proofs.assembly.cluster_of.Given as goal

abbrev pub invariant-loop-cluster : goal.invariant-loop-cluster
invariant-loop-cluster l = Grouped (sets_in l.rings) l.first (bits l.fn.left) (group_of l.cluster)

abbrev pub decreases-loop-cluster : goal.decreases-loop-cluster
decreases-loop-cluster l = size (bits l.cluster.left)
