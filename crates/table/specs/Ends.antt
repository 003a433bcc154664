-- The bond bytes by themselves, without an atom count. Assumes nothing.
use Rattle.std.specs.Prelude.{◌≡◌, List, ℕ, ◌/◌, ◌≤◌, ◌<◌, length, get_or}
use Rattle.definitions.specs.Table.{Table, table, tail, head, max_atoms, max_bonds}
use Rattle.table.specs.declared.ends.Ends.{Ends}

-- a table of which only the bonds are asked: with any atom count its answer is the same
abbrev pub bonds_alone : List ℕ → Table
bonds_alone bs = table 0 bs

-- the bytes of an accepted table: no more bonds than a set has room for, and no end above the highest atom that there may be
pub record Fitting (bs : List ℕ) : Type 0 where
  pub few : length bs / 2 ≤ max_bonds
  pub ends : (i : ℕ) → i < length bs → get_or bs i 0 < max_atoms

-- e are the ends of bond k, or atom 0 twice where there is no such bond
pub record EndsOf (bs : List ℕ) (k : ℕ) (e : Ends) : Type 0 where
  pub bond : k < length bs / 2 → (e.tail ≡ tail (bonds_alone bs) k) × (e.head ≡ head (bonds_alone bs) k)
  pub none : length bs / 2 ≤ k → (e.tail ≡ 0) × (e.head ≡ 0)
