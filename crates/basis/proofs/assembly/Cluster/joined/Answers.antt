-- The ring is taken in where it shares a bond. Assumes nothing.
use Rattle.sets.specs.Bond.{bits}
use Rattle.basis.specs.Clusters.{group_of}
use Rattle.basis.proofs.Grouping.{joined_takes, joined_leaves}
use Rattle.basis.proofs.assembly.Cluster.joined.Goals as goal

pub returns-then-meets : goal.returns-then-meets
returns-then-meets c = let given = c.args in
    joined_takes (group_of given.self) given.i (bits given.ring) c.meets.ensures c.if-meets.true
    c.with.ensures c.union.ensures c.without.ensures

pub returns-else-meets : goal.returns-else-meets
returns-else-meets c = let given = c.args in
    joined_leaves (group_of given.self) given.i (bits given.ring) c.meets.ensures c.if-meets.false
