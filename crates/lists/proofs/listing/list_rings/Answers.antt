-- Before each turn the rings of the assemblies passed stand at the start of a list; at last those of all are put in order. Assumes nothing.
use mathlib.Core.Path.{refl, ◌∙◌}
use mathlib.Core.List.{[], ◌∷◌, map}
use lib.ListN.{length, length-append}
use Rattle.sets.specs.Ring.{bits}
use Rattle.lists.specs.Listed.{Listable}
use native.Mathlib.Omega.{arith}
use Rattle.sets.specs.Lists.{sets_in}
use Rattle.sets.proofs.Lists.{sets-long}
use Rattle.lent.proofs.Appending.{strung_none, strung_room, strung_more, strung_all}
use Rattle.basis.specs.Held.{members_of}
use Rattle.basis.proofs.Holding.{left_all, left_inside, left_at, left_next, left_none}
use Rattle.ordering.proofs.Firsts.{firsts_long, firsts_room, firsts_words, firsts_ordered}
use Rattle.lists.proofs.Laws.{listable_room, listable_sums, listable_within, listed-ordered}
use Rattle.lists.proofs.listing.list_rings.Goals as goal
use Rattle.lists.proofs.listing.list_rings.Goals.{In-Some}

pub loop-members-init : goal.loop-members-init
loop-members-init c =
    rw c.into_iter-members-iterator.ensures.into_iter_gives.0
    (left_all _, refl, refl, strung_none _ _ _ 0 (listable_room (sets_in c.args.rings.now) (members_of c.args.assemblies.now) c.requires.0))

-- the lists have room for all that are gone over
listable : (c : In-Some) → Listable (map bits c.into_iter-members-iterator.result.rest.now) (length c.into_iter-members-iterator.result.rest.now) (length (sets_in c.args.ordered.now))
listable c = rw c.into_iter-members-iterator.ensures.into_iter_gives.0 c.requires.1

pub add_assembly-count-requires : goal.add_assembly-count-requires
add_assembly-count-requires c = let (left, _, ordered, strung) = c.loop-members.invariant in
    let step = c.in-Some.ensures.steps in
    let is = left_at left step in
    (listable_sums (listable (goal.at.add_assembly-count-requires c).In-Some) (left_inside left step) is (sets-long _ _ ordered), rw (← is) (strung_room strung (left_inside left step)))

pub loop-members-preserved : goal.loop-members-preserved
loop-members-preserved c =
    let (left, found, ordered, strung) = c.loop-members.invariant in
    let step = c.in-Some.ensures.steps in
    let done = c.add_assembly-count.ensures in
    rw (length-append c.loop-members.yielded (c.in-Some.members ∷ []))
    (left_next left step, done.found ∙ found, done.sums ∙ ordered, strung_more strung (left_inside left step) (rw (left_at left step) done.added))

pub order_rings-requires : goal.order_rings-requires
order_rings-requires c = let rings = sets_in c.args.rings.now in
    let all = rw c.into_iter-members-iterator.ensures.into_iter_gives.0 at (strung_all c.loop-members.invariant.3 (left_none c.loop-members.invariant.0 c.in-None.ensures.steps.0)) in
    omega (
      arith,
      firsts_long c.loop-members.count _ (listable_within rings c.requires.0 all (sets-long _ _ c.loop-members.invariant.1)),
      listable_within rings c.requires.1 all (sets-long _ _ c.loop-members.invariant.2),
    )

pub slice_bounds-order_rings-end : goal.slice_bounds-order_rings-end
slice_bounds-order_rings-end c =
    let all = rw c.into_iter-members-iterator.ensures.into_iter_gives.0 at (strung_all c.loop-members.invariant.3 (left_none c.loop-members.invariant.0 c.in-None.ensures.steps.0)) in
    firsts_room c.loop-members.count _ (listable_within (sets_in c.args.rings.now) c.requires.0 all (sets-long _ _ c.loop-members.invariant.1))

pub slice_bounds-order_rings-end-2 : goal.slice_bounds-order_rings-end-2
slice_bounds-order_rings-end-2 c =
    let all = rw c.into_iter-members-iterator.ensures.into_iter_gives.0 at (strung_all c.loop-members.invariant.3 (left_none c.loop-members.invariant.0 c.in-None.ensures.steps.0)) in
    firsts_words c.loop-members.count _ (listable_within (sets_in c.args.rings.now) c.requires.0 all (sets-long _ _ c.loop-members.invariant.1))

pub returns : goal.returns
returns c =
    let rings = sets_in c.args.rings.now in
    let all = rw c.into_iter-members-iterator.ensures.into_iter_gives.0 at (strung_all c.loop-members.invariant.3 (left_none c.loop-members.invariant.0 c.in-None.ensures.steps.0)) in
    let done = c.order_rings.ensures in
    let held = listable_within rings c.requires.0 all (sets-long _ _ c.loop-members.invariant.1) in
    listed-ordered all (listable_within rings c.requires.1 all (sets-long _ _ (done.0 ∙ c.loop-members.invariant.2))) (firsts_ordered c.loop-members.count _ held _ done.1)
