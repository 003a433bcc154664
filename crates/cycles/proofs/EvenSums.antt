-- Every even set is the sum of the basis rings of its closure bonds, and of no others: both have the same closure bonds. Assumes nothing.
use mathlib.Core.Path.{◌≡◌, sym, ap, ◌∙◌}
use mathlib.Core.Bool.{Bool, true, false, ◌&&◌, and-false, and-true}
use Prim.Native.Nat.{ℕ, zero, suc, ◌<◌}
use native.Mathlib.Omega.{arith}
use borrow.Author.Tests.{ne_eqb}
use Rattle.sets.specs.Bits.{has}
use Rattle.definitions.specs.Table.{Table, bonds}
use Rattle.definitions.specs.Ring.{Even}
use Rattle.definitions.specs.Basis.{Closure, closure?, basis_ring}
use Rattle.definitions.proofs.Tests.{by, clashes, not_passed, and_both}
use Rattle.definitions.proofs.Refusals.{Valid}
use Rattle.definitions.proofs.Paths.{closure_test}
use Rattle.cycles.proofs.Parity.{parity_one}
use Rattle.cycles.proofs.Sums.{sum_below, has-sum}
use Rattle.cycles.proofs.Evens.{even-zero, even-xor}
use Rattle.cycles.proofs.Closures.{even-eq}
use Rattle.cycles.proofs.BasisRings.{basis-even, basis-at, basis-has}

-- a sum of even sets is even
pub sum-even : (M : Table) (n : ℕ) (q : ℕ → Bool) (f : ℕ → ℕ) → ((i : ℕ) → i < n → q i ≡ true → Even M (f i)) → Even M (sum_below n q f)
unfolding sum_below
sum-even M zero q f h = even-zero M
sum-even M (suc n) q f h =
    even-xor M (sum-even M n q f (λ i l. h i (omega arith)))
    (by (q n) (λ e. rw e (h n (omega arith) e)) (λ e. rw e (even-zero M)))

-- bond k is a closure bond of s
abbrev pub closes_in : Table → ℕ → ℕ → Bool
closes_in M s k = closure? M k && has s k

-- q picks closure bonds alone
abbrev pub Picks : Table → (ℕ → Bool) → Type 0
Picks M q = (k : ℕ) → k < bonds M → q k ≡ true → closure? M k ≡ true

-- the sum of the basis rings of the closure bonds that q picks
abbrev pub ring_sum : Table → (ℕ → Bool) → ℕ
ring_sum M q = sum_below (bonds M) q (basis_ring M)

-- a closure bond passes its test
pub closure_tested : {M : Table} → Valid M → {k : ℕ} → Closure M k → closure? M k ≡ true
closure_tested valid {k} c = (closure_test valid k c.bond).1 c

module _ {M : Table} (valid : Valid M) where
  -- it is even
  pub ring-sum-even : (q : ℕ → Bool) → Picks M q → Even M (ring_sum M q)
  ring-sum-even q picks = sum-even M (bonds M) q (basis_ring M) (λ k l e. basis-even valid ((closure_test valid k l).0 (picks k l e)))

  -- its closure bonds are those picked
  pub ring-sum-at : (q : ℕ → Bool) → Picks M q → {k : ℕ} → Closure M k → has (ring_sum M q) k ≡ q k
  ring-sum-at q picks {k} c =
      has-sum (bonds M) q (basis_ring M) k
      ∙ parity_one (bonds M) k _ c.bond other ∙ ap (λ (x : Bool). q k && x) (basis-has valid c) ∙ and-true (q k)
    where
      other : (j : ℕ) → j < bonds M → (j ≡ k → ⊥) → q j && has (basis_ring M j) k ≡ false
      other j l ne =
          by (q j)
          (λ e. ap (λ (x : Bool). q j && x) (basis-at valid ((closure_test valid j l).0 (picks j l e)) c ∙ ne_eqb j k ne) ∙ and-false (q j))
          (λ e. ap (λ (x : Bool). x && has (basis_ring M j) k) e)

  -- an even set is the sum of the basis rings of its closure bonds
  pub even_sum : {s : ℕ} → Even M s → ring_sum M (closes_in M s) ≡ s
  even_sum {s} e =
      even-eq valid (ring-sum-even (closes_in M s) own) e
      (λ k c. ring-sum-at (closes_in M s) own c ∙ ap (λ (x : Bool). x && has s k) (closure_tested valid c))
    where
      own : Picks M (closes_in M s)
      own k l h = (and_both (closure? M k) (has s k) h).0

  -- and in one way
  pub sum_unique : (q : ℕ → Bool) → Picks M q → (k : ℕ) → k < bonds M → q k ≡ closes_in M (ring_sum M q) k
  sum_unique q picks k l =
      by (closure? M k)
      (λ e. sym (ap (λ (x : Bool). x && has (ring_sum M q) k) e ∙ ring-sum-at q picks ((closure_test valid k l).0 e)))
      (λ e. not_passed (q k) (λ t. clashes (picks k l t) e) ∙ sym (ap (λ (x : Bool). x && has (ring_sum M q) k) e))
