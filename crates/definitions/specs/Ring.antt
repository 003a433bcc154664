-- Even sets and rings. A set of bonds is a number: bond k belongs to it where digit k is set. Assumes nothing.
use Rattle.std.specs.Prelude.{◌≡◌, ◌≢◌, Bool, ◌&&◌, not, ℕ, ◌+◌, ◌-◌, ◌%◌, ◌^◌, ◌<◌, eqb, ltb}
use Rattle.sets.specs.Bits.{has, Sub, sub}
use Rattle.definitions.specs.Search.{every, count}
use Rattle.definitions.specs.Table.{Table, bonds, meets?}

-- how many bonds of s meet atom a
unfoldable pub degree : Table → ℕ → ℕ → ℕ
degree M s a = count (bonds M) (λ k. has s k && meets? M a k)

-- s is a set of bonds of the table, and at each atom the number of them is even
pub record Even (M : Table) (s : ℕ) : Type 0 where
  pub within : s < 2 ^ bonds M
  pub evenly : (a : ℕ) → a < M.atoms → degree M s a % 2 ≡ 0

-- s is even and not empty, and the even sets inside it are the empty one and s itself
pub record Ring (M : Table) (s : ℕ) : Type 0 where
  pub even : Even M s
  pub some : s ≢ 0
  pub least : (t : ℕ) → Even M t → t ≢ 0 → Sub t s → t ≡ s

-- s is even, as a test
unfoldable pub even? : Table → ℕ → Bool
even? M s = ltb s (2 ^ bonds M) && every M.atoms (λ a. eqb (degree M s a % 2) 0)

-- s is a ring, as a test: no set below s, but the empty one, is even and inside s
unfoldable pub ring? : Table → ℕ → Bool
ring? M s = not (eqb s 0) && (even? M s && every (s - 1) (λ t. not (sub (t + 1) s && even? M (t + 1))))
