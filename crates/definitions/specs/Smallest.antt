-- The smallest basis: of the rings in their order each is taken unless it is a sum of rings taken before. The sum of two sets has what is
-- in one of them and not in both. Assumes nothing.
use Rattle.std.specs.Prelude.{◌≡◌, Bool, true, false, ◌||◌, ℕ, ◌≤◌, length, eqb}
use mathlib.Core.List.{List, [], ◌∷◌, ◌++◌, map, Memᴰ as In}
use Rattle.std.specs.Int.Bits.{bit_xor}
use Rattle.sets.specs.Bits.{size}
use Rattle.definitions.specs.Search.{total}
use Rattle.definitions.specs.Table.{Table}
use Rattle.definitions.specs.Ring.{Ring}
use Rattle.definitions.specs.AllRings.{all_rings}

-- the sum of the sets that a list of choices picks
unfoldable pub chosen : List Bool → List ℕ → ℕ
chosen cs [] = 0
chosen [] (v ∷ vs) = 0
chosen (true ∷ cs) (v ∷ vs) = bit_xor v (chosen cs vs)
chosen (false ∷ cs) (v ∷ vs) = chosen cs vs

-- x is a sum of some of the sets vs
abbrev pub SumOf : List ℕ → ℕ → Type 0
SumOf vs x = (cs : List Bool) × (length cs ≡ length vs) × (chosen cs vs ≡ x)

-- the same as a test: without the first of them, or with it
unfoldable pub sum? : List ℕ → ℕ → Bool
sum? [] x = eqb x 0
sum? (v ∷ vs) x = sum? vs x || sum? vs (bit_xor v x)

-- what is taken of a list, where some were taken already
unfoldable pub taking : List ℕ → List ℕ → List ℕ
taking taken [] = []
taking taken (r ∷ rs) = elim (sum? taken r) [ true ↦ taking taken rs | false ↦ r ∷ taking (r ∷ taken) rs ]

-- what is taken of all rings, in the order of taking
unfoldable pub smallest_basis : Table → List ℕ
smallest_basis M = taking [] (all_rings M)

-- ---- what is promised of a smallest basis

-- no set of the list is a sum of the rest of the list
abbrev pub NoneOfOthers : List ℕ → Type 0
NoneOfOthers vs = (before : List ℕ) (x : ℕ) (after : List ℕ) → before ++ x ∷ after ≡ vs → ¬ SumOf (before ++ after) x

-- the list has rings only, no one of them is a sum of the rest, and each ring of the table is a sum of members of the list
pub record RingBasis (M : Table) (bs : List ℕ) : Type 0 where
  pub rings : (s : ℕ) → In s bs → Ring M s
  pub none_of_others : NoneOfOthers bs
  pub span_all : (s : ℕ) → Ring M s → SumOf bs s

-- and no list of which all this holds has a lower total of bonds
pub record SmallestBasis (M : Table) (bs : List ℕ) : Type 0 where
  pub basis : RingBasis M bs
  pub least : (cs : List ℕ) → RingBasis M cs → total (map size bs) ≤ total (map size cs)
