-- The even sets of a bond and forest bonds. Assumes nothing.
use mathlib.Core.Path.{◌≡◌}
use mathlib.Core.Logic.{◌≢◌}
use mathlib.Core.Bool.{true}
use Prim.Native.Nat.{ℕ}
use Rattle.sets.specs.Bits.{has}
use Rattle.definitions.specs.Table.{Table}
use Rattle.definitions.specs.Ring.{Even}
use Rattle.definitions.specs.Basis.{forest}

-- s is an even set of bond k and forest bonds
pub record Fundamental (M : Table) (k s : ℕ) : Type 0 where
  pub even : Even M s
  pub member : has s k ≡ true
  pub tree : (j : ℕ) → has s j ≡ true → j ≢ k → has (forest M) j ≡ true
