-- Bonds that a chain of rings joins. Assumes nothing.
use mathlib.Core.Path.{◌≡◌}
use mathlib.Core.Bool.{true}
use Prim.Native.Nat.{ℕ}
use Rattle.sets.specs.Bits.{has}
use Rattle.definitions.specs.Table.{Table}
use Rattle.definitions.specs.Ring.{Ring}

-- some ring holds both bonds, or a chain of such rings joins them
pub data Together (M : Table) : ℕ → ℕ → Type 0 where
  alone : {b : ℕ} → Together M b b
  held : {a b c : ℕ} (s : ℕ) → Ring M s → has s a ≡ true → has s b ≡ true → Together M b c → Together M a c
