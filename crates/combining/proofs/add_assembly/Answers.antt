-- The basis rings of the assembly are taken in turn, each with its group. Assumes nothing.
use mathlib.Core.Path.{◌≡◌, refl, ◌∙◌}
use Prim.Native.Nat.{◌+◌, ◌-◌, ◌*◌, ◌≤◌}
use native.Mathlib.Omega.{arith}
use lib.ListN.{length, take, drop}
use Rattle.sets.specs.Lists.{sets_in, words}
use Rattle.sets.specs.Ring.{bits, room}
use Rattle.sets.proofs.Lists.{sets-length, sets-whole}
use Rattle.sets.proofs.Machine.{no_bonds_lem}
use Rattle.sets.proofs.Upward.{Turn, turn_of, turns_done}
use Rattle.definitions.specs.Table.{max_bonds}
use Rattle.lent.specs.Appended.{between}
use Rattle.combining.proofs.Adding.{sets_between, sets_found, room_behind, appended_behind}
use Rattle.combining.proofs.Turns.{turned_none, turned_few, turned_held, turned_room, turned_more, turned_all}
use borrow.Author.Rules.{rules}
use Rattle.combining.proofs.add_assembly.Goals as goal
use Rattle.combining.proofs.add_assembly.Goals.{In-Some, After-double, After-split_at_mut-before}

turn : (c : In-Some) → Turn room (bits c.args.members) c.loop-i.yielded c.in-Some.i
turn c = turn_of _ _ _ _ _ _ c.into_iter-i-iterator.ensures.into_iter_gives c.loop-i.yielded_by c.next.ensures.steps c.in-Some.is

pub loop-i-init : goal.loop-i-init
loop-i-init c =
    (refl, turned_none (sets_in c.args.rings.now) (sets_in c.args.sums.now) c.requires.0 c.requires.1 no_bonds_lem c.put_at.ensures.sets)

pub at-requires : goal.at-requires
at-requires c = omega (arith, sets-whole max_bonds c.args.rings.now (search rules), (turn (goal.at.at-requires c).In-Some).below)

pub double-requires : goal.double-requires
double-requires c = turned_few c.loop-i.invariant.1 (turn (goal.at.double-requires c).In-Some)

pub overflow_mul-group-in-loop-i : goal.overflow_mul-group-in-loop-i
overflow_mul-group-in-loop-i c = omega (arith, turned_few c.loop-i.invariant.1 (turn (goal.at.overflow_mul-group-in-loop-i c).In-Some), sets-length c.loop-i.sums)

pub offset_bounds-sums-half : goal.offset_bounds-sums-half
offset_bounds-sums-half c = omega (arith, turned_few c.loop-i.invariant.1 (turn (goal.at.offset_bounds-sums-half c).In-Some), sets-length c.loop-i.sums)

pub slice_bounds-group-end : goal.slice_bounds-group-end
slice_bounds-group-end c = omega (arith, turned_few c.loop-i.invariant.1 (turn (goal.at.slice_bounds-group-end c).In-Some), sets-length c.loop-i.sums, c.double.ensures.long)

pub overflow_add-group : goal.overflow_add-group
overflow_add-group c = omega (arith, turned_few c.loop-i.invariant.1 (turn (goal.at.overflow_add-group c).In-Some), sets-length c.loop-i.sums)

-- at most as many rings are found as the list can have
few : (c : After-double) → Turn room (bits c.args.members) c.loop-i.yielded c.in-Some.i → c.loop-i.count ≤ length (sets_in c.loop-i.found)
few c h = omega (arith, turned_room c.loop-i.invariant.1 h c.at.ensures c.double.ensures.sums refl refl)

pub split_at_mut-before-requires : goal.split_at_mut-before-requires
split_at_mut-before-requires c =
    let at = goal.at.split_at_mut-before-requires c in
    omega (arith, few at.After-double (turn at.In-Some), sets-length c.loop-i.found)

-- the rings found before are in the first part of the list
olds : (c : After-split_at_mut-before) → Turn room (bits c.args.members) c.loop-i.yielded c.in-Some.i → c.loop-i.count ≤ length (sets_in c.loop-i.found)
    → let front = c.split_at_mut-before.result.0.now in
    sets_in (take (length front - c.args.n * words) (drop (c.args.n * words) front)) ≡ between c.args.n c.loop-i.count (sets_in c.loop-i.found)
olds c h fits =
    let split = c.split_at_mut-before.ensures in
    sets_found c.loop-i.count c.loop-i.found fits split.front split.back c.args.n (omega (arith, c.loop-i.invariant.1.appended.end))

-- the group is the part of the sums that is lent
group : (c : After-double) → Turn room (bits c.args.members) c.loop-i.yielded c.in-Some.i
    → let half = c.loop-i.half in
    sets_in (take ((half + half) * words - half * words) (drop (half * words) c.double.new.sums)) ≡ between half (half + half) (sets_in c.double.new.sums)
group c h =
    let half = c.loop-i.half in
    sets_between half (half + half) c.double.new.sums (omega arith) (turned_held c.loop-i.invariant.1 h c.at.ensures c.double.ensures.sums)

pub add_group-count-requires : goal.add_group-count-requires
add_group-count-requires c =
    let at = goal.at.add_group-count-requires c in
    let h = turn at.In-Some in
    let fits = few at.After-double h in
    let split = c.split_at_mut-before.ensures in
    room_behind c.loop-i.count c.loop-i.found fits split.front split.back _
    (turned_room c.loop-i.invariant.1 h c.at.ensures c.double.ensures.sums (olds at.After-split_at_mut-before h fits) (group at.After-double h))

pub overflow_add-count : goal.overflow_add-count
overflow_add-count c =
    let at = goal.at.overflow_add-count c in
    let h = turn at.In-Some in
    let fits = few at.After-double h in
    let room = turned_room c.loop-i.invariant.1 h c.at.ensures c.double.ensures.sums (olds at.After-split_at_mut-before h fits) (group at.After-double h) in
    omega (arith, room, c.add_group-count.ensures.added.end, sets-length c.loop-i.found)

pub loop-i-preserved : goal.loop-i-preserved
loop-i-preserved c =
    let at = goal.at.loop-i-preserved c in
    let h = turn at.In-Some in
    let fits = few at.After-double h in
    let split = c.split_at_mut-before.ensures in
    let added = appended_behind c.loop-i.count c.loop-i.found fits split.front split.back c.add_group-count.new.out c.add_group-count.ensures.added in (
      c.double.ensures.long ∙ c.loop-i.invariant.0,
      turned_more c.loop-i.invariant.1 h c.at.ensures c.double.ensures.sums (olds at.After-split_at_mut-before h fits) (group at.After-double h) added,
    )

pub returns-clause-added : goal.returns-clause-added
returns-clause-added c =
    let done = turns_done _ _ _ _ _ _ c.into_iter-i-iterator.ensures.into_iter_gives c.loop-i.yielded_by c.next.ensures.steps c.in-None.is in
    turned_all c.loop-i.invariant.1 done
