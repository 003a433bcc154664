-- The list of all rings while it is worked out. Assumes nothing.
use Rattle.std.specs.Prelude.{◌≡◌, List, ℕ, ◌^◌, ◌≤◌, ◌<◌, length, get_or, take}
use Rattle.sets.specs.Bits.{size}
use Rattle.definitions.specs.Search.{sort}
use Rattle.definitions.specs.Table.{max_bonds}
use Rattle.definitions.specs.AllRings.{before}
use Rattle.basis.specs.Held.{members_of, held_count}
use Rattle.basis.specs.declared.found.Assemblies.{Assemblies}
use Rattle.combining.specs.Gibbs.{found_in}
use Rattle.perception.specs.Perceiving.{sums_in}

-- what the combination finds in assemblies of these basis rings, one assembly after another
abbrev pub rings_found : List ℕ → Assemblies → List ℕ
rings_found rings assemblies = found_in rings (members_of assemblies) (held_count assemblies)

-- a list of m sets has room for what the combination finds in the first n assemblies, and for the sums of each
pub record Listable (members : List ℕ) (n m : ℕ) : Type 0 where
  pub counted : n ≤ max_bonds
  pub found : sums_in members n ≤ m
  pub sums : (a : ℕ) → a < n → 2 ^ size (get_or members a 0) ≤ m

-- the first r sets of a list are rings in order
pub record Ordered (rings sets : List ℕ) (r : ℕ) : Type 0 where
  pub few : r ≤ length sets
  pub list : take r sets ≡ sort before rings

-- the longest lists hold so many sets
abbrev pub most : ℕ
most = 6547

-- there is room in the longest lists for what the combination finds in the first n assemblies, and in shorter ones where they have fewer
-- sums than these hold sets
pub record Workable (members : List ℕ) (n sums : ℕ) : Type 0 where
  pub longest : Listable members n most
  pub shorter : (m : ℕ) → sums < m → Listable members n m
