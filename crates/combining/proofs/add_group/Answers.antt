-- Before each turn those of the first j sums that are rings are put. Assumes nothing.
use native.Mathlib.Omega.{arith}
use Rattle.sets.proofs.Lists.{sets-length}
use Rattle.combining.proofs.Adding.{adding_none, adding_room, adding_taken, adding_left}
use Rattle.combining.proofs.add_group.Goals as goal
use Rattle.combining.proofs.add_group.Goals.{then-is_ring, else-is_ring}

pub loop-j-init : goal.loop-j-init
loop-j-init c = adding_none _ _ _ c.requires

pub put_at-requires : goal.put_at-requires
put_at-requires c = adding_room c.loop-j.invariant (omega arith) c.at-sum.ensures c.is_ring.ensures c.if-is_ring.true

pub overflow_add-n : goal.overflow_add-n
overflow_add-n c = omega (arith, adding_room c.loop-j.invariant (omega arith) c.at-sum.ensures c.is_ring.ensures c.if-is_ring.true, sets-length c.loop-j.out)

pub loop-j-preserved : goal.loop-j-preserved
loop-j-preserved c =
    elim c.if-is_ring.branch [
      | then-is_ring w ↦ rw (w.n-is, w.out-is) (adding_taken c.loop-j.invariant (omega arith) c.at-sum.ensures c.is_ring.ensures w.if-is_ring.true w.put_at.ensures.sets)
      | else-is_ring w ↦ rw (w.n-is, w.out-is) (adding_left c.loop-j.invariant (omega arith) c.at-sum.ensures c.is_ring.ensures w.if-is_ring.false)
    ]
