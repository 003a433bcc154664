-- The refusals as sentences: what each says of a table, of a set or of what is lent, in which order they are tried, and which number is then
-- told. Assumes nothing.
use Rattle.std.specs.Prelude.{◌≡◌, ◌↔◌, ◌⊎◌, List, [], ◌∷◌, ◌++◌, ℕ, ◌%◌, ◌<◌, ◌≤◌, length, get_or}
use Rattle.definitions.specs.Search.{Each, Some}
use Rattle.definitions.specs.Table.{Table, bonds, tail, head, max_atoms, max_bonds, ODD, ATOMS, BONDS, END, SELF, TWICE, TANGLED, ROOM, NOTRING}
use Rattle.definitions.specs.Ring.{Ring}
use Rattle.definitions.specs.Basis.{basis_rings}
use Rattle.definitions.specs.Assembly.{assembly_count, rings_in, max_assembly}

-- 1 ODD: half a bond, an odd number of bond bytes
abbrev pub OddBytes : Table → Type 0
OddBytes M = length M.bytes % 2 ≡ 1

-- 2 ATOMS: no atom, or more atoms than a table may have
abbrev pub BadCount : Table → Type 0
BadCount M = (M.atoms ≡ 0) ⊎ (max_atoms < M.atoms)

-- 3 BONDS: more bonds than a table may have
abbrev pub ManyBonds : Table → Type 0
ManyBonds M = max_bonds < bonds M

-- 4 END: a bond has an end that is the atom count or higher
abbrev pub NamesOutside : Table → Type 0
NamesOutside M = Some (bonds M) (λ k. (M.atoms ≤ tail M k) ⊎ (M.atoms ≤ head M k))

-- 5 SELF: the two ends of a bond are one atom
abbrev pub JoinsSelf : Table → Type 0
JoinsSelf M = Some (bonds M) (λ k. tail M k ≡ head M k)

-- bonds k and j have the same two atoms, in the same order or in the other
abbrev pub Alike : Table → ℕ → ℕ → Type 0
Alike M k j = ((tail M k ≡ tail M j) × (head M k ≡ head M j)) ⊎ ((tail M k ≡ head M j) × (head M k ≡ tail M j))

-- 6 TWICE: a bond has the same two atoms as one before it
abbrev pub BondedTwice : Table → Type 0
BondedTwice M = Some (bonds M) (λ k. Some k (Alike M k))

-- 7 TANGLED: an assembly has more basis rings than it may have where all rings are needed
abbrev pub Tangled : Table → Type 0
Tangled M = Some (assembly_count (basis_rings M)) (λ a. max_assembly < length (rings_in (basis_rings M) a))

-- 9 NOTRING: a set is no ring of the table
abbrev pub NoRing : Table → ℕ → Type 0
NoRing M s = Ring M s → ⊥

-- 8 ROOM: a lent list is shorter than what is wanted in it
abbrev pub TooShort : List ℕ → List ℕ → Type 0
TooShort wanted lent = length lent < length wanted

-- what may be wrong with a table: each number with its sentence, the one that is tried first in front
abbrev pub wrongs : Table → List (ℕ × Type 0)
wrongs M =
    (ODD, OddBytes M)
    ∷ (ATOMS, BadCount M)
    ∷ (BONDS, ManyBonds M)
    ∷ (END, NamesOutside M)
    ∷ (SELF, JoinsSelf M)
    ∷ (TWICE, BondedTwice M)
    ∷ []

-- and where all rings are needed, 7 after these
abbrev pub wrongs_of_rings : Table → List (ℕ × Type 0)
wrongs_of_rings M = wrongs M ++ ((TANGLED, Tangled M) ∷ [])

-- and where a set is to be walked round, 9 after those of the table
abbrev pub wrongs_of_walk : Table → ℕ → List (ℕ × Type 0)
wrongs_of_walk M s = wrongs M ++ ((NOTRING, NoRing M s) ∷ [])

-- what may be wrong where something is to be written, 8 last, with what is then too short
abbrev pub or_no_room : List (ℕ × Type 0) → Type 0 → List (ℕ × Type 0)
or_no_room wrong short = wrong ++ ((ROOM, short) ∷ [])

-- the number and the sentence at place i
abbrev pub placed : List (ℕ × Type 0) → ℕ → ℕ × Type 0
placed wrong i = get_or wrong i (0, ⊥)

-- a number is told by what may be wrong: it is that of a sentence exactly where this holds and none in front of it does, and 0 exactly where
-- none holds
pub record Told (wrong : List (ℕ × Type 0)) (number : ℕ) : Type 0 where
  pub first : (i : ℕ) → i < length wrong → (number ≡ (placed wrong i).0) ↔ ((placed wrong i).1 × Each i (λ j. (placed wrong j).1 → ⊥))
  pub none : (number ≡ 0) ↔ Each (length wrong) (λ j. (placed wrong j).1 → ⊥)
