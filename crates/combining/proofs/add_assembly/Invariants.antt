-- The basis rings of the assembly are taken in turn, each with its group. Assumes nothing.
use mathlib.Core.Path.{◌≡◌}
use lib.ListN.{length}
use Rattle.sets.specs.Lists.{sets_in}
use Rattle.sets.specs.Ring.{bits}
use Rattle.combining.proofs.Turns.{Turned}
use Rattle.combining.proofs.add_assembly.Given as goal

abbrev pub invariant-loop-i : goal.invariant-loop-i
invariant-loop-i l =
    (length l.sums ≡ length l.initial.sums) × Turned (sets_in l.rings) (bits l.fn.members) (sets_in l.initial.found) l.n (sets_in l.sums) l.half (sets_in l.found) l.count l.yielded
