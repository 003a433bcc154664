-- The members taken so far have the number at their places. Assumes nothing.
use Rattle.basis.proofs.Writing.{Marked}
use Rattle.basis.proofs.assembly.number_members.Given as goal

abbrev pub invariant-loop-i : goal.invariant-loop-i
invariant-loop-i l = Marked l.a l.yielded l.initial.out l.out
