-- The members taken so far are put, in order, from the start of the list. Assumes nothing.
use native.Mathlib.Omega.{arith}
use Rattle.sets.specs.Ring.{bits, room}
use Rattle.sets.proofs.Lists.{sets-length, sets-whole}
use Rattle.sets.proofs.Upward.{Turn, turn_of, turns_done}
use Rattle.definitions.specs.Table.{max_bonds}
use Rattle.reduced.proofs.Picking.{picking_none, picking_room, picking_more, picking_all}
use borrow.Author.Rules.{rules}
use Rattle.reduced.proofs.assembly.write_members.Goals as goal
use Rattle.reduced.proofs.assembly.write_members.Goals.{In-Some}

turn : (c : In-Some) → Turn room (bits c.args.members) c.loop-i.yielded c.in-Some.i
turn c = turn_of _ _ _ _ _ _ c.into_iter-i-iterator.ensures.into_iter_gives c.loop-i.yielded_by c.next.ensures.steps c.in-Some.is

pub loop-i-init : goal.loop-i-init
loop-i-init c = picking_none _ _ _ _ c.requires

pub at-requires : goal.at-requires
at-requires c = omega (arith, sets-whole max_bonds c.args.rings.now (search rules), (turn (goal.at.at-requires c).In-Some).below)

pub put_at-requires : goal.put_at-requires
put_at-requires c = picking_room c.loop-i.invariant c.loop-i.auto.out (turn (goal.at.put_at-requires c).In-Some)

pub overflow_add-n : goal.overflow_add-n
overflow_add-n c = omega (arith, picking_room c.loop-i.invariant c.loop-i.auto.out (turn (goal.at.overflow_add-n c).In-Some), sets-length c.loop-i.out)

pub loop-i-preserved : goal.loop-i-preserved
loop-i-preserved c = picking_more c.loop-i.invariant c.loop-i.auto.out (turn (goal.at.loop-i-preserved c).In-Some) c.at.ensures c.put_at.ensures

pub returns : goal.returns
returns c =
    let done = turns_done _ _ _ _ _ _ c.into_iter-i-iterator.ensures.into_iter_gives c.loop-i.yielded_by c.next.ensures.steps c.in-None.is in
    let all = picking_all c.loop-i.invariant done in
    record { count = all.0; long = c.loop-i.auto.out; list = all.1 }
