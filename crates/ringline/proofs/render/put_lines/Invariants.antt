-- What is printed so far and the lines of what is left are the lines of the input; each record takes bytes of what is left.
-- Assumes nothing.
use lib.ListN.{length}
use Rattle.ringline.proofs.Printing.{Printed}
use Rattle.ringline.proofs.render.put_lines.Given as goal

abbrev pub invariant-loop-first : goal.invariant-loop-first
invariant-loop-first l = Printed l.input l.rest l.initial.writer l.writer l.number

abbrev pub decreases-loop-first : goal.decreases-loop-first
decreases-loop-first l = length l.rest
