-- The reduced sets of the assemblies passed stand over the start of the list, and the next come after them. Assumes nothing.
use mathlib.Core.Path.{◌≡◌, sym, ap}
use mathlib.Core.List.{[], ◌∷◌, map}
use native.Mathlib.Omega.{arith}
use lib.ListN.{length, length-append}
use Rattle.sets.specs.Lists.{sets_in}
use Rattle.sets.proofs.Lists.{sets-length}
use Rattle.sets.specs.Ring.{bits}
use Rattle.definitions.specs.Search.{picked}
use Rattle.reduced.specs.Picked.{picked_by}
use Rattle.basis.proofs.Holding.{left_all, left_inside, left_at, left_next, left_none}
use Rattle.reduced.proofs.Gathering.{gathered_none, gathered_low, gathered_room, gathered_rest, gathered_more, gathered_all}
use Rattle.reduced.proofs.assembly.reduce_all.Goals as goal
use Rattle.reduced.proofs.assembly.reduce_all.Goals.{In-Some}

pub loop-members-init : goal.loop-members-init
loop-members-init c = rw c.into_iter-members-iterator.ensures.into_iter_gives.0 (left_all _, gathered_none _ _ _ c.requires)

-- the set of the assembly picks what the set at its place does
picks : (c : In-Some) → picked (sets_in c.args.rings.now) (bits c.in-Some.members.now)
    ≡ picked_by (sets_in c.args.rings.now) (map bits c.into_iter-members-iterator.result.rest.now) (length c.loop-members.yielded)
picks c = ap (picked (sets_in c.args.rings.now)) (sym (left_at c.loop-members.invariant.0 c.in-Some.ensures.steps))

pub overflow_mul-at : goal.overflow_mul-at
overflow_mul-at c = omega (arith, gathered_low c.loop-members.invariant.1)

pub offset_bounds-out-at : goal.offset_bounds-out-at
offset_bounds-out-at c = omega (arith, gathered_low c.loop-members.invariant.1)

pub slice_bounds-reduce_assembly-count : goal.slice_bounds-reduce_assembly-count
slice_bounds-reduce_assembly-count c = omega (arith, gathered_low c.loop-members.invariant.1)

pub slice_bounds-reduce_assembly-start : goal.slice_bounds-reduce_assembly-start
slice_bounds-reduce_assembly-start c = omega (arith, gathered_low c.loop-members.invariant.1)

pub slice_bounds-reduce_assembly-end : goal.slice_bounds-reduce_assembly-end
slice_bounds-reduce_assembly-end c = omega (arith, gathered_low c.loop-members.invariant.1)

pub reduce_assembly-at-requires : goal.reduce_assembly-at-requires
reduce_assembly-at-requires c =
    gathered_rest c.loop-members.invariant.1 (left_inside c.loop-members.invariant.0 c.in-Some.ensures.steps) (picks (goal.at.reduce_assembly-at-requires c).In-Some)

pub overflow_add-at : goal.overflow_add-at
overflow_add-at c = omega (
  arith,
  gathered_room c.loop-members.invariant.1 (left_inside c.loop-members.invariant.0 c.in-Some.ensures.steps) (picks (goal.at.overflow_add-at c).In-Some),
  sets-length c.loop-members.out,
  c.reduce_assembly-at.ensures.count,
)

pub loop-members-preserved : goal.loop-members-preserved
loop-members-preserved c =
    let (left, gathered) = c.loop-members.invariant in
    let step = c.in-Some.ensures.steps in
    let done = c.reduce_assembly-at.ensures in
    rw (length-append c.loop-members.yielded (c.in-Some.members ∷ []))
    (left_next left step, gathered_more gathered (left_inside left step) (picks (goal.at.loop-members-preserved c).In-Some) _ (done.count, (done.long, done.list)))

pub shape_of-out : goal.shape_of-out
shape_of-out c = c.loop-members.invariant.1.long

pub returns : goal.returns
returns c =
    let all = gathered_all c.loop-members.invariant.1 (left_none c.loop-members.invariant.0 c.in-None.ensures.steps.0) in
    record { long = all.0; list = rw c.into_iter-members-iterator.ensures.into_iter_gives.0 at all.1 }
