-- Demand 2: what the lists of an accepted table are, in words of the definitions. Assumes nothing.
use Rattle.std.specs.Prelude.{◌≡◌, ◌↔◌, ℕ, ◌<◌, ltb, length, get_or}
use mathlib.Core.List.{List, Memᴰ as In}
use Rattle.sets.specs.Lists.{sets_in, words_of, in_words}
use Rattle.definitions.specs.Search.{Sorted, keep}
use Rattle.definitions.specs.Table.{Table}
use Rattle.definitions.specs.Ring.{Ring}
use Rattle.definitions.specs.Basis.{Closure, BasisRing}
use Rattle.definitions.specs.Assembly.{Linked}
use Rattle.definitions.specs.AllRings.{before}
use Rattle.definitions.specs.Smallest.{SumOf, SmallestBasis}

-- Demand 2: these are the basis rings of a table, the numbers of their assemblies, all its rings, and its smallest basis, each list as the
-- definitions have it, with nothing missing, nothing besides and every member in its place.
pub record Exactly (M : Table) (basis together rings smallest : List ℕ) : Type 0 where
  -- the closure bonds, each once, rising
  pub closures : List ℕ
  pub closure-bonds : (k : ℕ) → In k closures ↔ Closure M k
  pub closure_order : Sorted ltb closures
  -- there are as many basis rings, and each stands at the place of its closure bond
  pub basis-length : length basis ≡ length closures
  pub basis-rings : (i : ℕ) → i < length closures → BasisRing M (get_or closures i 0) (get_or basis i 0)
  -- each basis ring has the number of its assembly, and two have one number exactly if they are linked
  pub assemblies-length : length together ≡ length basis
  pub assemblies : (i j : ℕ) → i < length basis → j < length basis → (get_or together i 0 ≡ get_or together j 0) ↔ Linked basis i j
  -- the numbers are given from 0 on by first basis rings: each number below that of a basis ring is that of an earlier one
  pub assemblies_order : (i n : ℕ) → i < length basis → n < get_or together i 0 → (j : ℕ) × (j < i) × (get_or together j 0 ≡ n)
  -- each ring once, nothing else, in order
  pub all_rings : (s : ℕ) → In s rings ↔ Ring M s
  pub all_rings_order : Sorted before rings
  -- each ring that is no sum of listed ones before it, once, nothing else, in order
  pub smallest_rings : (s : ℕ) → In s smallest ↔ (Ring M s × (¬ SumOf (keep (λ t. before t s) smallest) s))
  pub smallest_order : Sorted before smallest
  -- none is a sum of others, every ring is a sum of them, and no such list has fewer bonds in total
  pub smallest_basis : SmallestBasis M smallest

-- what is written of such a list as words are its sets, each whole: as many as are counted, and none is cut short
pub record Whole (sets : List ℕ) : Type 0 where
  pub counted : length (in_words sets) ≡ words_of (length sets)
  pub read_back : sets_in (in_words sets) ≡ sets
