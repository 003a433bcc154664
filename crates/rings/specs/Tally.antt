-- The rings counted by size, assembly by assembly. Assumes nothing.
use Rattle.std.specs.Prelude.{◌≡◌, ◌≢◌, false, ℕ, ◌*◌, ◌^◌, ◌≤◌, ◌<◌, get_or}
use mathlib.Core.List.{List, [], Memᴰ as In}
use Rattle.sets.specs.Bits.{size, meet}
use Rattle.sets.specs.Ring.{bits}
use Rattle.sets.specs.Lists.{sets_in}
use Rattle.definitions.specs.Table.{max_bonds}
use Rattle.definitions.specs.Assembly.{max_assembly}
use Rattle.definitions.specs.Search.{sort, picked}
use Rattle.definitions.specs.AllRings.{before}
use Rattle.definitions.specs.Smallest.{taking}
use Rattle.combining.specs.Gibbs.{combined, found_at}
use Rattle.ordering.specs.Sizes.{Countable, Tallied}
use Rattle.rings.specs.declared.assembly.Assembly.{Assembly}
use Rattle.rings.specs.declared.histograms.Histograms.{Histograms}

-- no assembly has more sums of its basis rings
abbrev pub most_in_one : ℕ
most_in_one = 2 ^ max_assembly

-- nor have all the assemblies that there may be
abbrev pub most_in_all : ℕ
most_in_all = max_bonds * most_in_one

-- the basis rings of an assembly
abbrev pub own_basis : Assembly → List ℕ
own_basis assembly = picked (sets_in assembly.rings.now) (bits assembly.members)

-- what the combination finds in it
abbrev pub own_rings : Assembly → List ℕ
own_rings assembly = combined (own_basis assembly)

-- so many rings more can be counted, and so many of a smallest basis
pub record Open (h : Histograms) (n : ℕ) : Type 0 where
  pub all : Countable h.all n
  pub smallest : Countable h.smallest n

-- sets and the smallest basis that is taken of them are counted by size on top of what was counted before, below one bound
pub record Both (sets : List ℕ) (start end : Histograms) : Type 0 where
  pub all : Tallied sets start.all start.top end.all end.top
  pub smallest : Tallied (taking [] (sort before sets)) start.smallest start.top end.smallest end.top

-- an assembly, given by the places of its basis rings: these are not too many, a list of m sets has room for their sums, and nothing
-- that the combination finds in it is empty
pub record Alone (rings : List ℕ) (places m : ℕ) : Type 0 where
  pub small : size places ≤ max_assembly
  pub room : 2 ^ size places ≤ m
  pub some : (x : ℕ) → In x (combined (picked rings places)) → x ≢ 0

-- an assembly can be combined by itself in lists of m sets
abbrev pub Combinable : Assembly → ℕ → Type 0
Combinable assembly m = Alone (sets_in assembly.rings.now) (bits assembly.members) m

-- a ring that is alone in its assembly
pub record Single (assembly : Assembly) : Type 0 where
  pub one : size (bits assembly.members) ≡ 1
  pub some : (x : ℕ) → In x (own_rings assembly) → x ≢ 0

-- the first n assemblies, given by their sets of basis rings: what is found in one shares no bond with what is found in another
pub record Separate (rings members : List ℕ) (n m : ℕ) : Type 0 where
  pub counted : n ≤ max_bonds
  pub each : (a : ℕ) → a < n → Alone rings (get_or members a 0) m
  pub apart : (a b : ℕ) → a < b → b < n → (x y : ℕ) → In x (found_at rings members a) → In y (found_at rings members b) → meet x y ≡ false
