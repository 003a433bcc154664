-- The members of a set below m are at most m; a loop over the members by `next` goes up. Assumes nothing.
use mathlib.Core.Bool.{Bool, true, false}
use mathlib.Core.Path.{◌≡◌, refl}
use Prim.Native.Nat.{ℕ, ◌+◌, ◌%◌, ◌^◌, ◌≤◌, ◌<◌}
use native.Mathlib.Nat.{mod-lt, mod-eq_of_lt}
use native.Mathlib.Omega.{arith}
use borrow.Author.Tests.{ltb-true, ltb-false}
use lib.Count.{ones-le}
use lib.Dec.{ltb}
use lib.Pow.{pow_pos}
use Rattle.sets.specs.Bits.{size, IsNext}

-- the members of s below m
unfoldable pub upto : ℕ → ℕ → ℕ
upto s m = s % 2 ^ m

-- all members are below m where the set is below 2 ^ m
pub upto_all : (s m : ℕ) → s < 2 ^ m → upto s m ≡ s
unfolding upto
upto_all s m h = mod-eq_of_lt h

-- so many they are at most
pub size_upto_le : (s m : ℕ) → size (upto s m) ≤ m
unfolding upto
size_upto_le s m = ones-le m (s % 2 ^ m) (mod-lt s (pow_pos m))

-- the next member from k + 1 on is above k
pub next_rises : (m s k q : ℕ) → k < m → IsNext m s (k + 1) q → k < q
next_rises m s k q h n = go (ltb q m) refl
  where
    go : (t : Bool) → ltb q m ≡ t → k < q
    go true e = omega (arith, n.least (ltb-true q m e))
    go false e = omega (arith, ltb-false q m e)
