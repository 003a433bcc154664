-- The histogram that is made of how many sets have each size. Assumes nothing.
use Rattle.std.specs.Prelude.{true, false, List, [], ◌∷◌, ℕ, get_or, eqb}
use Rattle.definitions.specs.Search.{gather}
use Rattle.definitions.specs.Label.{bytes_of}
use Rattle.definitions.specs.Table.{all_sizes}

-- one size, one byte, and in n bytes how many sets have it; nothing where none has
unfoldable pub line : ℕ → ℕ → ℕ → List ℕ
line n z k = elim (eqb k 0) [ true ↦ [] | false ↦ z ∷ bytes_of n k ]

-- the lines of each size, rising
unfoldable pub lines : ℕ → List ℕ → List ℕ
lines n counts = gather all_sizes (λ z. line n z (get_or counts z 0))
