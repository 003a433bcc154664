-- Before each turn the rings taken so far share no bond with the cluster, or the pass has added a ring. Assumes nothing.
use borrow.Author.Rules.{rules}
use Rattle.sets.specs.Ring.{bits, room}
use Rattle.sets.proofs.Machine.{ring-lt}
use Rattle.sets.proofs.Upward.{Turn, turn_of, turns_done}
use Rattle.basis.proofs.Grouping.{passing_turn, passing_all}
use Rattle.basis.proofs.assembly.Cluster.passed.Goals as goal
use Rattle.basis.proofs.assembly.Cluster.passed.Goals.{In-Some}

turn : (c : In-Some) → Turn room (bits c.args.self.left) c.loop-i.yielded c.in-Some.i
turn c = turn_of _ _ _ _ _ _ c.into_iter-i-iterator.ensures.into_iter_gives c.loop-i.yielded_by c.next.ensures.steps c.in-Some.is

pub at-requires : goal.at-requires
at-requires c = c.requires c.in-Some.i (turn (goal.at.at-requires c).In-Some).member

pub loop-i-preserved : goal.loop-i-preserved
loop-i-preserved c = passing_turn c.loop-i.invariant (turn (goal.at.loop-i-preserved c).In-Some) c.at.ensures c.joined-cluster.ensures

pub returns : goal.returns
returns c =
    passing_all (ring-lt c.args.self.left (search rules))
    (turns_done _ _ _ _ _ _ c.into_iter-i-iterator.ensures.into_iter_gives c.loop-i.yielded_by c.next.ensures.steps c.in-None.is)
    c.loop-i.invariant
