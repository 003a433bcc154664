-- What is promised of the walk round a ring: it is one, there is no other, and it goes over each bond of the ring once and visits no atom
-- twice. Assumes nothing.
use Rattle.std.specs.Prelude.{◌≡◌, ◌↔◌, ◌≢◌, true, ℕ, ◌<◌, get_or}
use mathlib.Core.List.{List, Memᴰ as In}
use Rattle.sets.specs.Bits.{has, size}
use Rattle.definitions.specs.Table.{Table}
use Rattle.definitions.specs.Walk.{Walk}

-- these atoms and bonds, in order, are the walk round the bond set s
pub record OneWalk (M : Table) (s : ℕ) (visited crossed : List ℕ) : Type 0 where
  pub walk : Walk M s visited crossed
  -- there is no other
  pub one : (visited' crossed' : List ℕ) → Walk M s visited' crossed' → (visited' ≡ visited) × (crossed' ≡ crossed)
  -- its bonds are those of the set, and no bond and no atom stands at two places
  pub bonds_all : (k : ℕ) → In k crossed ↔ (has s k ≡ true)
  pub bonds_once : (i j : ℕ) → i < j → j < size s → get_or crossed i 0 ≢ get_or crossed j 0
  pub atoms_once : (i j : ℕ) → i < j → j < size s → get_or visited i 0 ≢ get_or visited j 0
