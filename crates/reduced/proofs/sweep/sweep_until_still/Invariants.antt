-- The list has the same reduced list throughout, and the total size falls until a sweep changes nothing. Assumes nothing.
use mathlib.Core.Path.{◌≡◌}
use lib.ListN.{length}
use Rattle.sets.specs.Lists.{sets_in}
use Rattle.definitions.specs.Reduced.{weight, reduced}
use Rattle.reduced.proofs.sweep.sweep_until_still.Given as goal

abbrev pub invariant-loop : goal.invariant-loop
invariant-loop l = (length l.sets ≡ length l.initial.sets) × (reduced (sets_in l.sets) ≡ reduced (sets_in l.initial.sets))

abbrev pub decreases-loop : goal.decreases-loop
decreases-loop l = weight (sets_in l.sets)
