-- Ring closure bonds, the spanning forest and the basis rings. Assumes nothing.
use Rattle.std.specs.Prelude.{◌≡◌, Bool, true, false, ◌&&◌, not, cond, List, [], ◌∷◌, map, ℕ, zero, suc, ◌^◌, ◌<◌, min, max, get_or, eqb, ltb}
use Rattle.sets.specs.Bits.{has, sub, with}
use Rattle.definitions.specs.Search.{listed, those, set_of}
use Rattle.definitions.specs.Table.{Table, bonds, tail, head}
use Rattle.definitions.specs.Ring.{even?}

-- bond j joins a and b, either way round
pub data Joins (M : Table) (j : ℕ) : ℕ → ℕ → Type 0 where
  along : Joins M j (tail M j) (head M j)
  back : Joins M j (head M j) (tail M j)

-- a path from a to b of bonds that pass p, no bond gone over twice; s is the set of its bonds
pub data Path (M : Table) (p : ℕ → Bool) : ℕ → ℕ → ℕ → Type 0 where
  stay : {a : ℕ} → Path M p a a 0
  go : {j a b c s : ℕ} → j < bonds M → p j ≡ true → has s j ≡ false → Joins M j a b → Path M p b c s → Path M p a c (with s j)

-- bond k closes a ring: bonds with lower numbers lead from one of its atoms to the other
pub record Closure (M : Table) (k : ℕ) : Type 0 where
  pub bond : k < bonds M
  pub path : (s : ℕ) × Path M (λ j. ltb j k) (tail M k) (head M k) s

-- ---- the same as a test: things that pairs join get one number

-- the classes of two things made one, under the smaller of their numbers
unfoldable pub merge : ℕ × ℕ → List ℕ → List ℕ
merge e l =
    let x = get_or l e.0 0 in
    let y = get_or l e.1 0 in
    map (λ z. cond (eqb z (max x y)) (min x y) z) l

-- n things, each with the number of the first that pairs join it to
unfoldable pub classes : ℕ → List (ℕ × ℕ) → List ℕ
classes n [] = those n (λ i. true)
classes n (e ∷ es) = merge e (classes n es)

-- the ends of the bonds below k
unfoldable pub ends_below : Table → ℕ → List (ℕ × ℕ)
ends_below M zero = []
ends_below M (suc k) = (tail M k, head M k) ∷ ends_below M k

-- the fragment of each atom, by the bonds below k
unfoldable pub fragments : Table → ℕ → List ℕ
fragments M k = classes M.atoms (ends_below M k)

-- bond k closes a ring: by the bonds below k its atoms are in one fragment
unfoldable pub closure? : Table → ℕ → Bool
closure? M k = let f = fragments M k in eqb (get_or f (tail M k) 0) (get_or f (head M k) 0)

-- the spanning forest: the bonds that close no ring
unfoldable pub forest : Table → ℕ
forest M = set_of (bonds M) (λ k. not (closure? M k))

-- s is the basis ring of bond k: this closure bond, and a path through the forest from one of its atoms to the other
pub record BasisRing (M : Table) (k s : ℕ) : Type 0 where
  pub closure : Closure M k
  pub way : ℕ
  pub path : Path M (has (forest M)) (tail M k) (head M k) way
  pub whole : s ≡ with way k

-- the same by search: the one even set of bond k and forest bonds
unfoldable pub basis_ring : Table → ℕ → ℕ
basis_ring M k = let f = with (forest M) k in get_or (those (2 ^ bonds M) (λ s. has s k && (sub s f && even? M s))) 0 0

-- the basis rings, in the order of their closure bonds
unfoldable pub basis_rings : Table → List ℕ
basis_rings M = listed (bonds M) (closure? M) (basis_ring M)
