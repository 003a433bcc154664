-- The choice of the smallest basis, ring after ring in their order: those that are taken so far, and the sets that are kept to tell whether
-- the next one is a sum of these. Assumes nothing.
use Rattle.std.specs.Prelude.{◌≡◌, true, false, ℕ, ◌≤◌, length, take, drop}
use mathlib.Core.List.{List, [], ◌∷◌, ◌++◌, Memᴰ as In}
use Rattle.sets.specs.Bond.{room}
use Rattle.definitions.specs.Smallest.{SumOf, sum?, taking}
use Rattle.spans.specs.Elimination.{Kept}

-- the rings taken, with the next one where it is no sum of them
unfoldable pub taken_with : List ℕ → ℕ → List ℕ
taken_with taken ring = elim (sum? taken ring) [ true ↦ taken | false ↦ taken ++ (ring ∷ []) ]

-- the first n sets of a list are taken, and another keeps for each lowest bond a set by which sums of them are told
pub record Eliminated (kept taken : List ℕ) (n : ℕ) : Type 0 where
  pub long : length kept ≡ room
  pub lent : length taken ≡ room
  pub few : n ≤ room
  pub sums : Kept kept (take n taken)

-- one ring more is gone through
pub record Stepped (taken : List ℕ) (n ring : ℕ) (kept' taken' : List ℕ) (r : ℕ) : Type 0 where
  pub state : Eliminated kept' taken' r
  pub list : take r taken' ≡ taken_with (take n taken) ring
  pub rest : drop r taken' ≡ drop r taken

-- each set of a list is a sum of some of n sets
abbrev pub Spanned : ℕ → List ℕ → Type 0
Spanned n l = (vs : List ℕ) × (length vs ≡ n) × ((x : ℕ) → In x l → SumOf vs x)

-- the sets of a list are sums of as many sets as are wanted, and there is room to take so many
pub record Choosable (found : List ℕ) (want : ℕ) (taken : List ℕ) : Type 0 where
  pub lent : length taken ≡ room
  pub few : want ≤ room
  pub spanned : Spanned want found

-- the first r sets of one list are what is taken of another, and the rest is as it was
pub record Selected (l start taken : List ℕ) (r : ℕ) : Type 0 where
  pub long : length taken ≡ room
  pub few : r ≤ room
  pub list : take r taken ≡ taking [] l
  pub rest : drop r taken ≡ drop r start
