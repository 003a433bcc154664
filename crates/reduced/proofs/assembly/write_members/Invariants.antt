-- The members taken so far are put, in order, from the start of the list. Assumes nothing.
use lib.ListN.{get_or}
use Rattle.sets.specs.Ring.{bits, room}
use Rattle.sets.specs.Lists.{sets_in}
use Rattle.reduced.proofs.Picking.{Picking}
use Rattle.reduced.proofs.assembly.write_members.Given as goal

abbrev pub invariant-loop-i : goal.invariant-loop-i
invariant-loop-i l = Picking room (bits l.fn.members) (λ k. get_or (sets_in l.rings) k 0) l.initial.out l.out l.n l.yielded
