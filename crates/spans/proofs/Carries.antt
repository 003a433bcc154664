-- Maps that carry a list to another, sums to sums. Assumes nothing.
use mathlib.Core.Path.{◌≡◌}
use mathlib.Core.List.{List, Memᴰ as In}
use Prim.Native.Nat.{ℕ}
use lib.Bits.{bit_xor}
use Rattle.spans.proofs.Spans.{Span}

-- f keeps sums
abbrev pub Additive : (ℕ → ℕ) → Type 0
Additive f = (x y : ℕ) → f (bit_xor x y) ≡ bit_xor (f x) (f y)

-- f carries xs to ys: it keeps sums, and weights by w as weights by u, is one-to-one on the span of xs, and takes the sets of xs onto
-- those of ys
pub record Carries (w u f : ℕ → ℕ) (xs ys : List ℕ) : Type 0 where
  pub additive : Additive f
  pub kernel : (x : ℕ) → Span xs x → f x ≡ 0 → x ≡ 0
  pub weight : (x : ℕ) → In x xs → u (f x) ≡ w x
  pub into : (x : ℕ) → In x xs → In (f x) ys
  pub onto : (y : ℕ) → In y ys → (x : ℕ) × In x xs × (f x ≡ y)
