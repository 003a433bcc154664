-- Whether an odd number of the numbers below n pass a test: it is the last digit of their count, and it is additive. Assumes nothing.
use mathlib.Core.Path.{◌≡◌, refl, sym, ap, ap₂, ◌∙◌}
use mathlib.Core.Logic.{◌≢◌}
use mathlib.Core.Bool.{Bool, true, false, cond, ◌&&◌, xor, false≢true}
use Prim.Native.Nat.{ℕ, zero, suc, ◌+◌, ◌%◌, ◌<◌}
use native.Mathlib.Omega.{arith}
use lib.Dec.{eqb}
use borrow.Author.Tests.{eqb-true, eqb-false}
use Rattle.definitions.specs.Search.{count}
use Rattle.definitions.proofs.Tests.{by}
use Rattle.cycles.proofs.Xor.{xor-false, false-xor, sums}

-- an odd number of the numbers below n pass
unfoldable pub parity : ℕ → (ℕ → Bool) → Bool
parity zero p = false
parity (suc n) p = xor (parity n p) (p n)

-- it is the last digit of how many pass
pub count_parity : (n : ℕ) (p : ℕ → Bool) → count n p % 2 ≡ cond (parity n p) 1 0
unfolding count parity xor
count_parity zero p = refl
count_parity (suc n) p = go (parity n p) (p n) (count_parity n p)
  where
    go : (a b : Bool) → count n p % 2 ≡ cond a 1 0 → (count n p + cond b 1 0) % 2 ≡ cond (xor a b) 1 0
    go true true e = omega arith
    go true false e = omega arith
    go false true e = omega arith
    go false false e = omega arith

-- it depends on the tests of the numbers below n alone
pub parity_ext : (n : ℕ) (p q : ℕ → Bool) → ((k : ℕ) → k < n → p k ≡ q k) → parity n p ≡ parity n q
unfolding parity
parity_ext zero p q h = refl
parity_ext (suc n) p q h = ap₂ xor (parity_ext n p q (λ k l. h k (omega arith))) (h n (omega arith))

-- none passes
pub parity_none : (n : ℕ) (p : ℕ → Bool) → ((k : ℕ) → k < n → p k ≡ false) → parity n p ≡ false
unfolding parity
parity_none zero p h = refl
parity_none (suc n) p h = ap₂ xor (parity_none n p (λ k l. h k (omega arith))) (h n (omega arith)) ∙ xor-false false

-- it is additive
pub parity_xor : (n : ℕ) (p q : ℕ → Bool) → parity n (λ k. xor (p k) (q k)) ≡ xor (parity n p) (parity n q)
unfolding parity
parity_xor zero p q = sym (xor-false false)
parity_xor (suc n) p q = ap (λ (x : Bool). xor x (xor (p n) (q n))) (parity_xor n p q) ∙ simp sums

-- a condition on all of them stands outside
pub parity_and : (n : ℕ) (c : Bool) (p : ℕ → Bool) → parity n (λ k. c && p k) ≡ c && parity n p
parity_and n true p = refl
parity_and n false p = parity_none n (λ k. false) (λ k l. refl)

-- pairs are counted by the first or by the second
pub parity_swap : (n m : ℕ) (p : ℕ → ℕ → Bool) → parity n (λ a. parity m (p a)) ≡ parity m (λ k. parity n (λ a. p a k))
unfolding parity
parity_swap zero m p = sym (parity_none m (λ k. false) (λ k l. refl))
parity_swap (suc n) m p =
    ap (λ (x : Bool). xor x (parity m (p n))) (parity_swap n m p) ∙ sym (parity_xor m (λ k. parity n (λ a. p a k)) (p n))

-- one number alone counts
pub parity_one : (n k : ℕ) (p : ℕ → Bool) → k < n → ((j : ℕ) → j < n → j ≢ k → p j ≡ false) → parity n p ≡ p k
unfolding parity
parity_one zero k p l h = absurd (omega arith)
parity_one (suc n) k p l h =
    by (eqb n k)
    (λ e. ap₂ xor (parity_none n p (λ j i. h j (omega arith) (omega (arith, eqb-true n k e)))) (ap p (eqb-true n k e)) ∙ false-xor (p k))
    (λ e. ap₂ xor (parity_one n k p (omega (arith, eqb-false n k e)) (λ j i. h j (omega arith))) (h n (omega arith) (eqb-false n k e))
    ∙ xor-false (p k))

-- where an odd number pass there is one that does
pub parity_some : (n : ℕ) (p : ℕ → Bool) → parity n p ≡ true → (k : ℕ) × (k < n) × (p k ≡ true)
unfolding parity
parity_some zero p e = absurd (false≢true e)
parity_some (suc n) p e =
    by (p n) (λ h. (n, omega arith, h))
    (λ h. let t = parity_some n p (sym (xor-false (parity n p)) ∙ ap (λ (x : Bool). xor (parity n p) x) (sym h) ∙ e) in
    (t.0, omega arith, t.2))
