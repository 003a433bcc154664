-- Whether a set is a sum of those taken, by elimination: sets are kept, one for each lowest member, and are subtracted from it as long as
-- there is one at its lowest member. Assumes nothing.
use Rattle.std.specs.Prelude.{◌≡◌, ◌≢◌, true, false, ℕ, ◌<◌, get_or}
use mathlib.Core.List.{List, Memᴰ as In}
use Rattle.std.specs.Int.Bits.{bit_xor}
use Rattle.sets.specs.Bits.{has}
use Rattle.definitions.specs.Smallest.{SumOf}

-- k is the lowest member of x
pub record Lowest (x k : ℕ) : Type 0 where
  pub member : has x k ≡ true
  pub none_below : (j : ℕ) → j < k → has x j ≡ false

-- at place k stands the empty set, or a set whose lowest member is k
abbrev pub Rows : List ℕ → Type 0
Rows kept = (k : ℕ) → get_or kept k 0 ≢ 0 → Lowest (get_or kept k 0) k

-- of x rest is left: the two differ by a sum of the sets vs
abbrev pub Left : List ℕ → ℕ → ℕ → Type 0
Left vs x rest = SumOf vs (bit_xor x rest)

-- what is left at the end: nothing, or a set with no kept set at its lowest member
pub record Remainder (kept : List ℕ) (x rest : ℕ) : Type 0 where
  pub left : Left kept x rest
  pub free : (k : ℕ) → Lowest rest k → get_or kept k 0 ≡ 0

-- kept has at place k the empty set or a set whose lowest member is k, and spans what the sets taken span
pub record Kept (kept taken : List ℕ) : Type 0 where
  pub rows : Rows kept
  pub up : (v : ℕ) → In v taken → SumOf kept v
  pub down : (k : ℕ) → SumOf taken (get_or kept k 0)
