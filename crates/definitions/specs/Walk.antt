-- A ring in walking order: its atoms and its bonds as the eye follows them, from the lower atom of the lowest bond over that bond and round.
-- Assumes nothing.
use Rattle.std.specs.Prelude.{◌≡◌, ◌↔◌, ◌≢◌, Bool, true, ◌&&◌, not, cond, List, [], ◌∷◌, map, ℕ, zero, suc, ◌≤◌, ◌<◌, min, length, get_or, eqb}
use Rattle.sets.specs.Bits.{has, size}
use Rattle.definitions.specs.Search.{those}
use Rattle.definitions.specs.Table.{Table, bonds, tail, head, meets?}
use Rattle.definitions.specs.Basis.{Joins}

-- the place after place i of n that lie in a circle: the last is followed by the first
abbrev pub after : ℕ → ℕ → ℕ
after n i = cond (eqb (suc i) n) 0 (suc i)

-- bond j of the table belongs to the set s and meets atom a
abbrev pub At : Table → ℕ → ℕ → ℕ → Type 0
At M s a j = (j < bonds M) × (has s j ≡ true) × (meets? M a j ≡ true)

-- these atoms and these bonds, in order, are a walk round the bond set s
pub record Walk (M : Table) (s : ℕ) (visited crossed : List ℕ) : Type 0 where
  -- there are as many atoms and as many bonds as the set has bonds
  pub as_many-atoms : length visited ≡ size s
  pub as_many-bonds : length crossed ≡ size s
  -- the first bond is the lowest of the set, and the walk starts at the lower of its two atoms
  pub first : (has s (get_or crossed 0 0) ≡ true) × ((k : ℕ) → has s k ≡ true → get_or crossed 0 0 ≤ k)
  pub start : get_or visited 0 0 ≡ min (tail M (get_or crossed 0 0)) (head M (get_or crossed 0 0))
  -- bond i leads from atom i to the next atom, and the last bond back to the first atom
  pub leads : (i : ℕ) → i < size s → Joins M (get_or crossed i 0) (get_or visited i 0) (get_or visited (after (size s) i) 0)
  -- and that atom is left by the other bond of the set: the only one there beside the bond by which it was reached
  pub other : (i : ℕ) → i < size s → (j : ℕ)
      → (At M s (get_or visited (after (size s) i) 0) j × (j ≢ get_or crossed i 0)) ↔ (j ≡ get_or crossed (after (size s) i) 0)
  -- the walk ends as soon as it is back at its start
  pub not-before : (i : ℕ) → 0 < i → i < size s → get_or visited i 0 ≢ get_or visited 0 0

-- ---- the same as a function; a place of the walk is an atom and the bond by which it is left

-- the first number below n that passes, and 0 where none does
abbrev pub first_that : ℕ → (ℕ → Bool) → ℕ
first_that n p = get_or (those n p) 0 0

-- the atom of bond k that is not a
abbrev pub other_atom : Table → ℕ → ℕ → ℕ
other_atom M k a = cond (eqb (tail M k) a) (head M k) (tail M k)

-- a bond of the set s at atom a that is not k
unfoldable pub other_bond : Table → ℕ → ℕ → ℕ → ℕ
other_bond M s a k = first_that (bonds M) (λ j. (has s j && meets? M a j) && not (eqb k j))

-- one bond further
unfoldable pub onward : Table → ℕ → ℕ × ℕ → ℕ × ℕ
onward M s p = let b = other_atom M p.1 p.0 in (b, other_bond M s b p.1)

-- n places, one after another
unfoldable pub walk_from : Table → ℕ → ℕ → ℕ × ℕ → List (ℕ × ℕ)
walk_from M s zero p = []
walk_from M s (suc n) p = p ∷ walk_from M s n (onward M s p)

-- the lower atom of the lowest bond, and that bond
unfoldable pub walk_start : Table → ℕ → ℕ × ℕ
walk_start M s = let k = first_that (bonds M) (has s) in (min (tail M k) (head M k), k)

-- as many places as the set has bonds
unfoldable pub walk_of : Table → ℕ → List (ℕ × ℕ)
walk_of M s = walk_from M s (size s) (walk_start M s)

-- the atoms in order, and the bonds in order
unfoldable pub walk_atoms : Table → ℕ → List ℕ
walk_atoms M s = map (λ p. p.0) (walk_of M s)

unfoldable pub walk_bonds : Table → ℕ → List ℕ
walk_bonds M s = map (λ p. p.1) (walk_of M s)
