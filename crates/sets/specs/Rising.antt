-- The members of a set in rising order, and those that a Rising has left. Assumes nothing.
use Rattle.std.specs.Prelude.{List, [], ◌∷◌, ◌++◌, true, false, ℕ, zero, suc}
use Rattle.sets.specs.Bits.{has}
use Rattle.sets.specs.declared.rising.Rising.{Rising}

-- the members of s below m, rising
unfoldable pub rising : ℕ → ℕ → List ℕ
rising zero s = []
rising (suc m) s = elim (has s m) [ true ↦ rising m s ++ (m ∷ []) | false ↦ rising m s ]

-- the members that are left
abbrev pub left : Rising → List ℕ
left it = rising 64 it.0
