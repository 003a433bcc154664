-- The test by walking, computed: the rings of norbornane (S6) and of two triangles with an atom in common (S5) pass it, other sets do not; and
-- the promise for the triangle (S3). Assumes nothing.
use mathlib.Core.Path.{◌≡◌, refl}
use mathlib.Core.Bool.{true, false}
use mathlib.Core.List.{[], ◌∷◌, map}
use lib.Count.{ones, ones_in}
use Rattle.sets.specs.Bits.{has}
use Rattle.definitions.specs.Search.{some?, count, listed}
use Rattle.definitions.specs.Table.{Table, table, seen_before?, first_of, refusal}
use Rattle.definitions.specs.Ring.{degree}
use Rattle.definitions.specs.Walk.{other_bond, onward, walk_from, walk_start, walk_of, walk_atoms, walk_bonds}
use Rattle.definitions.proofs.Starred.{s3, s5, s6}
use Rattle.walking.specs.Closing.{closes?, walks?}
use Rattle.walking.specs.OneWalk.{OneWalk}
use Rattle.walking.proofs.Rings.{each-ring-one-walk, ring-by_walking}

-- the rings pass; all bonds, a ring less a bond, and no bond do not
pub norbornane_told : map (walks? s6) (199 ∷ 248 ∷ 63 ∷ 255 ∷ 198 ∷ 0 ∷ []) ≡ true ∷ true ∷ true ∷ false ∷ false ∷ false ∷ []
unfolding has ones ones_in count listed degree other_bond onward walk_start closes? walks?
norbornane_told = refl

-- each triangle passes; both of them, and one with a bit beyond the last bond, do not
pub spiro_told : map (walks? s5) (7 ∷ 56 ∷ 63 ∷ 71 ∷ []) ≡ true ∷ true ∷ false ∷ false ∷ []
unfolding has ones ones_in count listed degree other_bond onward walk_start closes? walks?
spiro_told = refl

-- a triangle on a stem of two bonds, and two bonds apart: up the stem, round and back are as many bonds as there are
abbrev pub stem : Table
stem = table 8 (0 ∷ 1 ∷ 1 ∷ 2 ∷ 2 ∷ 3 ∷ 3 ∷ 4 ∷ 4 ∷ 2 ∷ 5 ∷ 6 ∷ 6 ∷ 7 ∷ [])

-- that set does not pass, and the triangle does
pub stem_told : map (walks? stem) (127 ∷ 28 ∷ []) ≡ false ∷ true ∷ []
unfolding has ones ones_in count listed degree other_bond onward walk_start closes? walks?
stem_told = refl

-- the triangle has one walk
pub triangle_walk : OneWalk s3 7 (0 ∷ 1 ∷ 2 ∷ []) (0 ∷ 1 ∷ 2 ∷ [])
unfolding has ones ones_in some? count listed seen_before? first_of refusal degree other_bond onward walk_from walk_start walk_of walk_atoms walk_bonds closes? walks?
triangle_walk = each-ring-one-walk s3 refl 7 ((ring-by_walking s3 refl 7).0 refl)
