-- The two sizes are those of the sets. Assumes nothing.
use mathlib.Core.Path.{ap₂}
use lib.Dec.{ltb}
use Rattle.reduced.proofs.sweep.smaller.Goals as goal

pub returns : goal.returns
returns c = ap₂ ltb c.size.ensures.0 c.size-2.ensures.0
