-- Walks by computing: what the function gives for some rings, and lists that are no walk of a set, each for one clause of `Walk`.
-- Assumes nothing.
use mathlib.Core.Path.{◌≡◌, refl}
use mathlib.Core.List.{[], ◌∷◌}
use native.Mathlib.Omega.{arith}
use lib.Count.{ones, ones_in}
use Rattle.sets.specs.Bits.{has}
use Rattle.definitions.specs.Search.{listed}
use Rattle.definitions.specs.Table.{Table, table}
use Rattle.definitions.specs.Walk.{Walk, other_bond, onward, walk_from, walk_start, walk_of, walk_atoms, walk_bonds}
use Rattle.definitions.proofs.Starred.{s3, s5, s6}

-- a triangle whose first bond is written from its higher atom
abbrev pub turned : Table
turned = table 3 (1 ∷ 0 ∷ 1 ∷ 2 ∷ 2 ∷ 0 ∷ [])

-- two triangles with atom 2 in common
abbrev pub shared : Table
shared = table 5 (0 ∷ 1 ∷ 1 ∷ 2 ∷ 2 ∷ 3 ∷ 3 ∷ 4 ∷ 4 ∷ 2 ∷ 2 ∷ 0 ∷ [])

-- two rings of norbornane (S6), one that has bond 0 and one that starts at bond 3, and the triangle from its lower atom
pub ring_walks : (walk_atoms s6 199 ≡ 0 ∷ 1 ∷ 2 ∷ 3 ∷ 6 ∷ []) × (walk_bonds s6 199 ≡ 0 ∷ 1 ∷ 2 ∷ 7 ∷ 6 ∷ [])
    × (walk_atoms s6 248 ≡ 3 ∷ 4 ∷ 5 ∷ 0 ∷ 6 ∷ []) × (walk_bonds s6 248 ≡ 3 ∷ 4 ∷ 5 ∷ 6 ∷ 7 ∷ [])
    × (walk_atoms turned 7 ≡ 0 ∷ 1 ∷ 2 ∷ []) × (walk_bonds turned 7 ≡ 0 ∷ 1 ∷ 2 ∷ [])
unfolding has ones ones_in listed other_bond onward walk_from walk_start walk_of walk_atoms walk_bonds
ring_walks = (refl, refl, refl, refl, refl, refl)

-- over another bond than the lowest first
pub from_other_bond : Walk s3 7 (0 ∷ 2 ∷ 1 ∷ []) (2 ∷ 1 ∷ 0 ∷ []) → ⊥
unfolding has
from_other_bond w = absurd (omega (arith, w.first.1 0 refl))

-- from the higher atom of the lowest bond
pub from_higher-atom : Walk turned 7 (1 ∷ 0 ∷ 2 ∷ []) (0 ∷ 2 ∷ 1 ∷ []) → ⊥
from_higher-atom w = absurd (omega (arith, w.start))

-- there and back over one bond
pub there_and_back : Walk s3 3 (0 ∷ 1 ∷ []) (0 ∷ 0 ∷ []) → ⊥
unfolding ones ones_in
there_and_back w = ((w.other 0 (omega arith) 0).1 refl).1 refl

-- over an atom where the set has a third bond
pub over_shared_atom : Walk shared 63 (0 ∷ 1 ∷ 2 ∷ 3 ∷ 4 ∷ 2 ∷ []) (0 ∷ 1 ∷ 2 ∷ 3 ∷ 4 ∷ 5 ∷ []) → ⊥
unfolding has ones ones_in
over_shared_atom w = absurd (omega (arith, (w.other 1 (omega arith) 4).0 ((omega arith, refl, refl), λ e. omega arith)))

-- on over the start
pub over-start : Walk s5 63 (0 ∷ 1 ∷ 2 ∷ 0 ∷ 3 ∷ 4 ∷ []) (0 ∷ 1 ∷ 2 ∷ 3 ∷ 4 ∷ 5 ∷ []) → ⊥
unfolding ones ones_in
over-start w = w.not-before 3 (omega arith) (omega arith) refl
