-- Lists that rise by a weight. Assumes nothing.
use mathlib.Core.List.{List}
use Prim.Native.Nat.{ℕ}
use lib.Dec.{leb}
use Rattle.definitions.proofs.Lists.{Sorted}

-- the list rises: each set weighs at most as much as any after it
abbrev pub Rising : (ℕ → ℕ) → List ℕ → Type 0
Rising w xs = Sorted (λ x y. leb (w x) (w y)) xs
