-- Before each pass the cluster is a group of the first ring. Assumes nothing.
use native.Mathlib.Omega.{arith}
use borrow.Author.Rules.{rules}
use Rattle.sets.specs.Ring.{bits, room}
use Rattle.sets.specs.Lists.{sets_in}
use Rattle.sets.proofs.Laws.{member_below}
use Rattle.sets.proofs.Machine.{ring-lt}
use Rattle.basis.proofs.Grouping.{grouped_one, pass_falls, pass_apart}
use Rattle.basis.proofs.assembly.cluster_of.Goals as goal

pub loop-cluster-init : goal.loop-cluster-init
loop-cluster-init c = let low = member_below room c.args.first (ring-lt c.args.left (search rules)) c.requires.first in
    grouped_one (sets_in c.args.rings.now) c.args.first (bits c.args.left) c.requires.inside c.requires.first low
    c.only.ensures c.at.ensures c.without.ensures

pub returns-then-size-before-clause-grouped : goal.returns-then-size-before-clause-grouped
returns-then-size-before-clause-grouped c = c.passed-cluster.ensures.kept _ _ c.loop-cluster.invariant

pub returns-then-size-before-clause-apart : goal.returns-then-size-before-clause-apart
returns-then-size-before-clause-apart c = pass_apart c.passed-cluster.ensures (omega (arith, c.size.ensures.0, c.size-before.ensures.0))

pub loop-cluster-smaller : goal.loop-cluster-smaller
loop-cluster-smaller c = pass_falls c.passed-cluster.ensures (omega (arith, c.size.ensures.0, c.size-before.ensures.0))

pub loop-cluster-preserved : goal.loop-cluster-preserved
loop-cluster-preserved c = c.passed-cluster.ensures.kept _ _ c.loop-cluster.invariant
