-- The larger of the two leads to the smaller. Assumes nothing.
use native.Mathlib.Omega.{arith}
use Rattle.basis.proofs.climb.Fragments.join.Goals as goal

pub settle-requires : goal.settle-requires
settle-requires c = (omega arith, omega arith)
