-- What was read stands over the start of the list, and each read leaves less to fill. Assumes nothing.
use Prim.Native.Nat.{◌-◌}
use lib.ListN.{length}
use Rattle.records.proofs.Reading.{Reading}
use Rattle.records.proofs.input.read_input.Given as goal

abbrev pub invariant-loop-done : goal.invariant-loop-done
invariant-loop-done g l = Reading (g.R.Read.remaining l.initial.input) (g.R.Read.remaining l.input) l.bytes l.done

abbrev pub decreases-loop-done : goal.decreases-loop-done
decreases-loop-done g l = length l.initial.bytes - l.done
