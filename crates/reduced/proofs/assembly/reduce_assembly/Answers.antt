-- The rings are written first, and their part of the list is then reduced in its place. Assumes nothing.
use mathlib.Core.Path.{sym}
use native.Mathlib.Omega.{arith}
use Rattle.reduced.proofs.Gathering.{front_room, front_long, front_reduced}
use Rattle.reduced.proofs.assembly.reduce_assembly.Goals as goal

pub overflow_mul-words : goal.overflow_mul-words
overflow_mul-words c =
    let wrote = c.write_members-n.ensures in
    omega (arith, front_room _ _ _ c.requires (wrote.count, (wrote.long, wrote.list)))

pub slice_bounds-sweep_until_still-end : goal.slice_bounds-sweep_until_still-end
slice_bounds-sweep_until_still-end c =
    let wrote = c.write_members-n.ensures in
    front_room _ _ _ c.requires (wrote.count, (wrote.long, wrote.list))

pub slice_bounds-sweep_until_still-end-2 : goal.slice_bounds-sweep_until_still-end-2
slice_bounds-sweep_until_still-end-2 c =
    let wrote = c.write_members-n.ensures in
    sym (front_long _ _ _ c.requires (wrote.count, (wrote.long, wrote.list)))

pub returns : goal.returns
returns c =
    let wrote = c.write_members-n.ensures in
    let swept = c.sweep_until_still.ensures in
    let done = front_reduced _ _ _ c.requires (wrote.count, (wrote.long, wrote.list)) _ (swept.long, swept.list) in
    record { count = done.0; long = done.1.0; list = done.1.1 }
