-- The rings are gone through in order until as many are taken as are wanted. Assumes nothing.
use mathlib.Core.Path.{◌≡◌}
use lib.ListN.{length}
use Rattle.sets.specs.Lists.{sets_in}
use Rattle.choosing.proofs.Selecting.{Selecting}
use Rattle.choosing.proofs.smallest_of.Given as goal

abbrev pub invariant-loop-i : goal.invariant-loop-i
invariant-loop-i l =
    (length l.taken ≡ length l.initial.taken) × Selecting (sets_in l.found) l.want (sets_in l.initial.taken) (sets_in l.kept) (sets_in l.taken) l.count l.i
