-- Each atom's row: the set of the bonds that meet it. Assumes nothing.
use Rattle.std.specs.Prelude.{◌≡◌, List, ℕ, ◌/◌, ◌<◌, cond, length, get_or, Result, OnOk, IfOk}
use Rattle.sets.specs.Lists.{sets_in}
use Rattle.definitions.specs.Search.{set_of, some?}
use Rattle.definitions.specs.Table.{Table, meets?, seen_before?, max_atoms, refusal, TWICE}
use Rattle.table.specs.Ends.{bonds_alone}
use Rattle.answers.specs.Told.{code_of}
use Rattle.answers.specs.declared.refusal.Refusal.{Refusal}

-- a list of sets holds the rows by the bonds below k, one an atom, up to the highest atom that there may be
pub record Rowed (bs : List ℕ) (k : ℕ) (rows : List ℕ) : Type 0 where
  pub long : length (sets_in rows) ≡ max_atoms
  pub row : (a : ℕ) → a < max_atoms → get_or (sets_in rows) a 0 ≡ set_of k (meets? (bonds_alone bs) a)

-- a pair of atoms that is bonded twice is told, and where there is none the rows are by all bonds
pub record RowsFilled (bs : List ℕ) (r : Result Unit Refusal) (rows : List ℕ) : Type 0 where
  pub twice : code_of r ≡ cond (some? (length bs / 2) (seen_before? (bonds_alone bs))) TWICE 0
  pub filled : OnOk r (Rowed bs (length bs / 2) rows)

-- the table is tested: r tells why it is refused, and where it is not the rows are by all bonds
pub record TableTested (M : Table) (r : Result Unit Refusal) (rows : List ℕ) : Type 0 where
  pub number : code_of r ≡ refusal M
  pub accepted : OnOk r (Rowed M.bytes (length M.bytes / 2) rows)

-- r tells why the table is refused, or has the rows by all bonds
pub record RowsOf (M : Table) (r : Result (List ℕ) Refusal) : Type 0 where
  pub number : code_of r ≡ refusal M
  pub rows : IfOk r (Rowed M.bytes (length M.bytes / 2))
