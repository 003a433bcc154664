-- What a Basis and Assemblies hold, and whose they are. Assumes nothing.
use Rattle.std.specs.Prelude.{◌≡◌, List, map, ℕ, ◌≤◌, ◌<◌, eqb, length, get_or, take, Result, IfOk}
use Rattle.sets.specs.Ring.{bits}
use Rattle.sets.specs.Lists.{sets_in}
use Rattle.definitions.specs.Search.{set_of}
use Rattle.definitions.specs.Table.{Table, max_bonds, refusal}
use Rattle.definitions.specs.Basis.{basis_rings}
use Rattle.definitions.specs.Assembly.{assemblies_of, assembly_count}
use Rattle.answers.specs.Told.{code_of}
use Rattle.answers.specs.declared.refusal.Refusal.{Refusal}
use Rattle.basis.specs.declared.basis.Basis.{Basis}
use Rattle.sets.specs.declared.ring.RingSet.{RingSet}
use Rattle.basis.specs.declared.found.Assemblies.{Assemblies}

-- the sets that a Basis holds, in order
abbrev pub rings_of : Basis → List ℕ
rings_of b = take b.count (sets_in b.rings)

-- b holds the basis rings of a table, and empty sets after them
pub record Holds (M : Table) (b : Basis) : Type 0 where
  pub rings : rings_of b ≡ basis_rings M
  pub count : b.count ≡ length (basis_rings M)
  pub counted : b.count ≤ max_bonds
  pub blank : (i : ℕ) → b.count ≤ i → get_or (sets_in b.rings) i 0 ≡ 0

-- r tells why the table is refused, or holds the basis rings
pub record BasisOf (M : Table) (r : Result Basis Refusal) : Type 0 where
  pub number : code_of r ≡ refusal M
  pub rings : IfOk r (Holds M)

-- the sets that Assemblies hold, in order
abbrev pub held_sets : Assemblies → List RingSet
held_sets s = take s.count s.members

-- how many there are
abbrev pub held_count : Assemblies → ℕ
held_count s = length (held_sets s)

-- these sets as numbers
abbrev pub members_of : Assemblies → List ℕ
members_of s = map bits (held_sets s)

-- s holds the assemblies of a list of basis rings
pub record AssembliesOf (rs : List ℕ) (s : Assemblies) : Type 0 where
  pub count : held_count s ≡ assembly_count rs
  pub counted : held_count s ≤ max_bonds
  pub members : (a : ℕ) → a < held_count s → get_or (members_of s) a 0 ≡ set_of (length rs) (λ i. eqb (get_or (assemblies_of rs) i 0) a)
