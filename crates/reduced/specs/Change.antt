-- Whether a step over a list of sets has changed it. Assumes nothing.
use Rattle.std.specs.Prelude.{Bool, not, List, ℕ}
use Rattle.definitions.specs.Reduced.{same?}

-- the list m, which came of l, is another list
abbrev pub changed? : List ℕ → List ℕ → Bool
changed? l m = not (same? m l)
