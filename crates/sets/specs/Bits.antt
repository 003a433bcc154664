-- A set of small numbers is a natural number: k is a member where binary digit k is set. Nothing here bounds the number. Assumes nothing.
use Rattle.std.specs.Prelude.{Bool, true, false, not, cond, ◌≡◌, ℕ, ◌-◌, ◌/◌, ◌%◌, ◌^◌, ◌≤◌, ◌<◌, eqb, ltb}
use Rattle.std.specs.Int.Bits.{bit_and, bit_or, bit_xor}
use Rattle.std.specs.Int.Count.{ones}

-- k is a member of s
unfoldable pub has : ℕ → ℕ → Bool
has s k = eqb (s / 2 ^ k % 2) 1

-- every member of s is one of t
abbrev pub Sub : ℕ → ℕ → Type 0
Sub s t = (k : ℕ) → has s k ≡ true → has t k ≡ true

-- the same as a test: nothing is lost of s in the part that it shares with t
abbrev pub sub : ℕ → ℕ → Bool
sub s t = eqb (bit_and s t) s

-- how many members s has
abbrev pub size : ℕ → ℕ
size = ones

-- all numbers below n
unfoldable pub all_below : ℕ → ℕ
all_below n = 2 ^ n - 1

-- s with k as a member
unfoldable pub with : ℕ → ℕ → ℕ
with s k = bit_or s (2 ^ k)

-- s without k
unfoldable pub without : ℕ → ℕ → ℕ
without s k = bit_xor s (bit_and s (2 ^ k))

-- s and t have a member in common
abbrev pub meet : ℕ → ℕ → Bool
meet s t = not (eqb (bit_and s t) 0)

-- s and k where k is below m; where it is not, s as it is
unfoldable pub put : ℕ → ℕ → ℕ → ℕ
put m s k = cond (ltb k m) (with s k) s

-- r is the least member of s that is at least from, or m where s has none from there up to m
pub record IsNext (m s from r : ℕ) : Type 0 where
  pub within : r ≤ m
  pub least : r < m → from ≤ r
  pub member : r < m → has s r ≡ true
  pub none : (k : ℕ) → from ≤ k → k < r → has s k ≡ false
