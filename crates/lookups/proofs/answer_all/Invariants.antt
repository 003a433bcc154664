-- Each record takes words of what is left, so there are no more records than words. Assumes nothing.
use Rattle.std.proofs.Common.{◌≤◌, length, ◌+◌}
use Rattle.lookups.proofs.answer_all.Given as goal

abbrev pub invariant-loop-after : goal.invariant-loop-after
invariant-loop-after g l = l.number + length l.rest ≤ length l.words + 1

abbrev pub decreases-loop-after : goal.decreases-loop-after
decreases-loop-after g l = length l.rest
