-- Before each turn the first assemblies are found and the rings of the others are left; where a ring is left there is a place for its
-- assembly. Assumes nothing.
use mathlib.Core.Path.{refl}
use mathlib.Core.List.{[]}
use Prim.Native.Nat.{◌≤◌, ◌<◌}
use native.Mathlib.Omega.{arith}
use lib.ListN.{length}
use Rattle.std.proofs.Common.{length-take}
use borrow.Author.Rules.{rules}
use Rattle.sets.specs.Ring.{bits, room}
use Rattle.sets.specs.Lists.{sets_in}
use Rattle.sets.proofs.Lists.{sets-whole}
use Rattle.sets.proofs.Upward.{Turn, turn_of, turns_done}
use Rattle.definitions.specs.Table.{max_bonds}
use Rattle.basis.specs.Held.{held_sets}
use Rattle.basis.proofs.Numbering.{divided_none, divided_room, divided_more, divided_all}
use Rattle.basis.proofs.assembly.assemblies_of.Goals as goal
use Rattle.basis.proofs.assembly.assemblies_of.Goals.{In-Some}

-- the first ring left
turn : (c : In-Some) → Turn room (bits c.loop-first.left) [] c.in-Some.first
turn c = turn_of _ _ _ _ _ [] c.into_iter.ensures.into_iter_gives refl c.next.ensures.steps c.in-Some.is

-- its assembly has a place
place : (c : In-Some) → length (held_sets c.loop-first.found) < room
place c = divided_room c.loop-first.invariant (turn c)

pub loop-first-init : goal.loop-first-init
loop-first-init c = let whole = sets-whole max_bonds c.args.rings.now (search rules) in
    let few : length (sets_in c.first_sets-known.result.now) ≤ room = rw c.first_sets-known.ensures (omega (arith, length-take c.args.count (sets_in c.args.rings.now), whole)) in
    rw c.new-found.ensures (divided_none _ few (rw c.sets_in.ensures at c.below-left.ensures))

pub cluster_of-cluster-requires-clause-first : goal.cluster_of-cluster-requires-clause-first
cluster_of-cluster-requires-clause-first c = (turn (goal.at.cluster_of-cluster-requires-clause-first c).In-Some).member

pub push-requires : goal.push-requires
push-requires c = place (goal.at.push-requires c).In-Some

pub loop-first-smaller : goal.loop-first-smaller
loop-first-smaller c = omega (arith, place (goal.at.loop-first-smaller c).In-Some)

pub loop-first-preserved : goal.loop-first-preserved
loop-first-preserved c = let found = c.cluster_of-cluster.ensures in
    rw c.push.ensures.items (divided_more c.loop-first.invariant (turn (goal.at.loop-first-preserved c).In-Some) found.grouped found.apart refl)

pub returns : goal.returns
returns c = rw c.first_sets-known.ensures at (divided_all c.loop-first.invariant {s = c.loop-first.found} refl (turns_done _ _ _ _ _ [] c.into_iter.ensures.into_iter_gives refl c.next.ensures.steps c.in_default.is))
