-- All rings in their order: smaller ones first, and of two with one size the one that is the lower number. Assumes nothing.
use Rattle.std.specs.Prelude.{Bool, ◌&&◌, ◌||◌, List, ℕ, ◌^◌, eqb, ltb}
use Rattle.sets.specs.Bits.{size}
use Rattle.definitions.specs.Search.{those, sort}
use Rattle.definitions.specs.Table.{Table, bonds}
use Rattle.definitions.specs.Ring.{ring?}

-- ring s stands before ring t
unfoldable pub before : ℕ → ℕ → Bool
before s t = ltb (size s) (size t) || (eqb (size s) (size t) && ltb s t)

-- every ring of a table, once, in this order
unfoldable pub all_rings : Table → List ℕ
all_rings M = sort before (those (2 ^ bonds M) (ring? M))
