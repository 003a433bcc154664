-- One molecule under two numberings: what it means that two tables are that, and that two answers agree. Assumes nothing.
use Rattle.std.specs.Prelude.{◌≡◌, List, ℕ, ◌<◌, length, take}
use Rattle.definitions.specs.Table.{Table, bonds, tail, head}
use Rattle.definitions.specs.Basis.{Joins}
use Rattle.definitions.specs.Answer.{Outcome}

-- f gives each number below n a new one below n, no two the same, and g gives the old one back
pub record Renames (n : ℕ) (f g : ℕ → ℕ) : Type 0 where
  pub forth : (k : ℕ) → k < n → f k < n
  pub back : (k : ℕ) → k < n → g k < n
  pub undone : (k : ℕ) → k < n → g (f k) ≡ k
  pub redone : (k : ℕ) → k < n → f (g k) ≡ k

-- M and N are one molecule under two numberings: atom a of M is `atom a` of N, bond k of M is `bond k` of N, and it joins the same two
-- atoms, either way round
pub record Renumbered (M N : Table) : Type 0 where
  pub atoms : M.atoms ≡ N.atoms
  pub bytes : length M.bytes ≡ length N.bytes
  pub atom : ℕ → ℕ
  pub atom⁻¹ : ℕ → ℕ
  pub bond : ℕ → ℕ
  pub bond⁻¹ : ℕ → ℕ
  pub atoms_renamed : Renames M.atoms atom atom⁻¹
  pub bonds_renamed : Renames (bonds M) bond bond⁻¹
  pub ends : (k : ℕ) → k < bonds M → Joins N (bond k) (atom (tail M k)) (atom (head M k))

-- each bond joins atoms of the table: both its ends are below the atom count
abbrev pub InRange : Table → Type 0
InRange M = (k : ℕ) → k < bonds M → (tail M k < M.atoms) × (head M k < M.atoms)

-- two answers agree: the same number, the same count, the same bytes written
pub record Agree (x y : Outcome (List ℕ)) : Type 0 where
  pub number : x.number ≡ y.number
  pub count : x.count ≡ y.count
  pub written : take x.count x.left ≡ take y.count y.left
