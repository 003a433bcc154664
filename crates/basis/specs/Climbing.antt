-- What a climb does: `lower` leads each atom to itself or to a lower atom of its fragment, and `ways` has for each the set of bonds of
-- a way there. Assumes nothing.
use Rattle.std.specs.Prelude.{◌≡◌, List, ℕ, ◌≤◌, ◌<◌, get_or}
use Rattle.std.specs.Int.Bits.{bit_xor}
use Rattle.definitions.specs.Table.{max_atoms}

-- no atom leads to a higher one
abbrev pub Falling : List ℕ → Type 0
Falling lower = (a : ℕ) → a < max_atoms → get_or lower a 0 ≤ a

-- from an atom the climb has come to a, and w is the sum of the ways
pub data Climbed (lower ways : List ℕ) (atom : ℕ) : ℕ → ℕ → Type 0 where
  start : Climbed lower ways atom atom 0
  on : {a w : ℕ} → Climbed lower ways atom a w → get_or lower a 0 < a → Climbed lower ways atom (get_or lower a 0) (bit_xor w (get_or ways a 0))

-- it ends at r, which leads to itself
pub record Climbs (lower ways : List ℕ) (atom r w : ℕ) : Type 0 where
  pub climbed : Climbed lower ways atom r w
  pub last : get_or lower r 0 ≡ r
