-- Assemblies: basis rings that shared bonds hold together, straight or through a chain. The assembly of the first basis ring is 0, that of
-- the first one outside it is 1, and so on. All of it is said of a list of basis rings. Assumes nothing.
use Rattle.std.specs.Prelude.{◌≡◌, Bool, true, List, map, ℕ, ◌<◌, length, get_or, eqb, ltb}
use Rattle.sets.specs.Bits.{meet}
use Rattle.definitions.specs.Search.{some?, count, listed, gather}
use Rattle.definitions.specs.Table.{Table}
use Rattle.definitions.specs.Basis.{classes, basis_rings}

-- basis rings i and j share a bond
abbrev pub share? : List ℕ → ℕ → ℕ → Bool
share? rs i j = meet (get_or rs i 0) (get_or rs j 0)

-- basis rings i and k are one, or a chain leads from i to k in which each shares a bond with the next
pub data Linked (rs : List ℕ) : ℕ → ℕ → Type 0 where
  same : {i : ℕ} → Linked rs i i
  by : {i j k : ℕ} → i < length rs → j < length rs → share? rs i j ≡ true → Linked rs j k → Linked rs i k

-- the pairs of basis rings that share a bond, the later one first
unfoldable pub sharing : List ℕ → List (ℕ × ℕ)
sharing rs = gather (length rs) (λ i. listed i (share? rs i) (λ j. (i, j)))

-- the first basis ring that each is linked with
unfoldable pub leaders : List ℕ → List ℕ
leaders rs = classes (length rs) (sharing rs)

-- how many of the basis rings before x are the first of their assembly
unfoldable pub rank : List ℕ → ℕ → ℕ
rank l x = count x (λ i. eqb (get_or l i 0) i)

-- the assembly of each basis ring
unfoldable pub assemblies_of : List ℕ → List ℕ
assemblies_of rs = let l = leaders rs in map (rank l) l

-- how many assemblies there are
unfoldable pub assembly_count : List ℕ → ℕ
assembly_count rs = rank (leaders rs) (length rs)

-- the basis rings of assembly a, in order
unfoldable pub rings_in : List ℕ → ℕ → List ℕ
rings_in rs a = let ns = assemblies_of rs in listed (length rs) (λ i. eqb (get_or ns i 0) a) (λ i. get_or rs i 0)

-- the assembly of each basis ring of a table
unfoldable pub assemblies : Table → List ℕ
assemblies M = assemblies_of (basis_rings M)

-- the most basis rings that an assembly may have where all rings are needed
abbrev pub max_assembly : ℕ
max_assembly = 10

-- some assembly has more basis rings than that
unfoldable pub tangled? : Table → Bool
tangled? M = let rs = basis_rings M in some? (assembly_count rs) (λ a. ltb max_assembly (length (rings_in rs a)))
