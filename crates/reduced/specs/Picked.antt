-- The basis rings of an assembly, picked of a list by the set of their places. Assumes nothing.
use Rattle.std.specs.Prelude.{List, ℕ, get_or}
use Rattle.definitions.specs.Search.{picked}

-- the sets that the set at place a picks
abbrev pub picked_by : List ℕ → List ℕ → ℕ → List ℕ
picked_by rings members a = picked rings (get_or members a 0)
