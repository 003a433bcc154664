-- A non-empty even set has a closure bond, its highest. So an even set is known by its closure bonds. Assumes nothing.
use mathlib.Core.Path.{◌≡◌, sym, ap, ◌∙◌}
use mathlib.Core.Logic.{◌≢◌}
use mathlib.Core.Bool.{Bool, true, false, xor}
use Prim.Native.Nat.{ℕ, suc, ◌^◌, ◌<◌}
use native.Mathlib.Nat.{pos_of_ne-zero}
use lib.Bits.{bit_xor}
use lib.Dec.{eqb}
use borrow.Author.Tests.{eqb-true, eqb-false}
use Rattle.sets.specs.Bits.{has}
use Rattle.sets.proofs.Laws.{ext, has-xor, has-zero, highest}
use Rattle.definitions.specs.Table.{Table}
use Rattle.definitions.specs.Ring.{Even}
use Rattle.definitions.specs.Basis.{Closure}
use Rattle.definitions.proofs.Tests.{by, clashes}
use Rattle.definitions.proofs.Refusals.{Valid}
use Rattle.cycles.proofs.Xor.{xor_self, xor-eq}
use Rattle.cycles.proofs.Evens.{even-xor, top_closure}

module _ {M : Table} (valid : Valid M) where
  -- a non-empty even set has a highest bond, and it is a closure bond
  pub even_top : {s : ℕ} → Even M s → s ≢ 0 → (k : ℕ) × (has s k ≡ true) × (s < 2 ^ suc k) × Closure M k
  even_top {s} e some =
      let (k, h, top) = highest s (pos_of_ne-zero some) in
      (k, h, top, top_closure valid e h top)

  -- an even set with no closure bond is empty
  pub forest_empty : {s : ℕ} → Even M s → ((k : ℕ) → Closure M k → has s k ≡ false) → s ≡ 0
  forest_empty {s} e h =
      by (eqb s 0) (λ z. eqb-true s 0 z)
      (λ z. let (k, m, _, c) = even_top e (eqb-false s 0 z) in clashes m (h k c))

  -- two even sets with the same closure bonds are one
  pub even-eq : {s t : ℕ} → Even M s → Even M t → ((k : ℕ) → Closure M k → has s k ≡ has t k) → s ≡ t
  even-eq {s} {t} e f h =
      ext s t (λ k. xor-eq (has s k) (has t k) (sym (has-xor s t k) ∙ ap (λ (x : ℕ). has x k) none ∙ has-zero k))
    where
      none : bit_xor s t ≡ 0
      none =
          forest_empty (even-xor M e f)
          (λ k c. has-xor s t k ∙ ap (λ (x : Bool). xor x (has t k)) (h k c) ∙ xor_self (has t k))
