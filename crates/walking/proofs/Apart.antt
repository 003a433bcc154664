-- Sequences of numbers whose first n members differ: the first member that comes again, and the set of the members. Assumes nothing.
use mathlib.Core.Path.{◌≡◌, sym, ap, ◌∙◌}
use mathlib.Core.Logic.{◌≢◌, ⊎_elim}
use mathlib.Core.Bool.{true, false}
use Prim.Native.Nat.{ℕ, zero, suc, ◌+◌, ◌-◌, ◌≤◌, ◌<◌}
use native.Mathlib.Omega.{arith}
use lib.Dec.{eqb, ltb}
use borrow.Author.Tests.{eqb-true, eqb-false, ltb-true, ltb-false}
use Rattle.sets.specs.Bits.{has, size, with}
use Rattle.sets.proofs.Laws.{has-zero}
use Rattle.sets.proofs.Size.{size-zero, size-with}
use Rattle.definitions.specs.Search.{some?}
use Rattle.definitions.proofs.Tests.{by, not_passed, clashes, some_at, none-at}
use Rattle.definitions.proofs.Paths.{with_new, with_old, with-other}

-- the first n members differ
abbrev pub Differ : (ℕ → ℕ) → ℕ → Type 0
Differ A n = (i j : ℕ) → i < j → j < n → A i ≢ A j

-- equal members stand at one place
pub apart-eq : {A : ℕ → ℕ} {n : ℕ} → Differ A n → (i j : ℕ) → i < n → j < n → A i ≡ A j → i ≡ j
apart-eq d i j l m e =
    by (ltb i j) (λ t. absurd (d i j (ltb-true i j t) m e))
    (λ t. by (ltb j i) (λ u. absurd (d j i (ltb-true j i u) l (sym e))) (λ u. omega (arith, ltb-false i j t, ltb-false j i u)))

-- the first n members differ, or the first that comes again is the very first, or a later one
pub data Course (A : ℕ → ℕ) (n : ℕ) : Type 0 where
  differ : Differ A n → Course A n
  closes : (j : ℕ) → 0 < j → j < n → A j ≡ A 0 → Differ A j → Course A n
  catches : (i d : ℕ) → 0 < d → suc i + d < n → A (suc i + d) ≡ A (suc i) → Differ A (suc i + d) → Course A n

-- one of these holds
pub course : (A : ℕ → ℕ) (n : ℕ) → Course A n
course A zero = differ (λ i j l m. absurd (omega arith))
course A (suc n) = more (course A n)
  where
    again : Differ A n → (i : ℕ) → i < n → A i ≡ A n → Course A (suc n)
    again d zero l e = closes n l (omega arith) (sym e) d
    again d (suc i) l e =
        let q : suc i + (n - suc i) ≡ n = omega arith in
        catches i (n - suc i) (omega arith) (omega arith) (ap A q ∙ sym e) (rw q d)

    more : Course A n → Course A (suc n)
    more (differ d) =
        by (some? n (λ i. eqb (A i) (A n)))
        (λ t. let (i, l, e) = some_at n (λ i. eqb (A i) (A n)) t in again d i l (eqb-true (A i) (A n) e))
        (λ t. differ (λ i j l m. by (eqb j n)
        (λ e. let q = eqb-true j n e in λ s. eqb-false (A i) (A n) (none-at n _ t i (omega arith)) (s ∙ ap A q))
        (λ e. d i j l (omega (arith, eqb-false j n e)))))
    more (closes j p l e d) = closes j p (omega arith) e d
    more (catches i j p l e d) = catches i j p (omega arith) e d

-- the set of the first n members
unfoldable pub walked : (ℕ → ℕ) → ℕ → ℕ
walked B zero = 0
walked B (suc n) = with (walked B n) (B n)

-- each of them is in it
pub walked_has : (B : ℕ → ℕ) (n i : ℕ) → i < n → has (walked B n) (B i) ≡ true
unfolding walked
walked_has B zero i l = absurd (omega arith)
walked_has B (suc n) i l =
    by (eqb i n) (λ e. ap (λ (x : ℕ). has (walked B (suc n)) (B x)) (eqb-true i n e) ∙ with_new (walked B n) (B n))
    (λ e. with_old (walked B n) (B n) (B i) (walked_has B n i (omega (arith, eqb-false i n e))))

-- and nothing else
pub walked_found : (B : ℕ → ℕ) (n k : ℕ) → has (walked B n) k ≡ true → (i : ℕ) × (i < n) × (B i ≡ k)
unfolding walked
walked_found B zero k h = clashes h (has-zero k)
walked_found B (suc n) k h =
    ⊎_elim (λ t. let (i, l, e) = walked_found B n k t in (i, omega arith, e)) (λ e. (n, omega arith, e)) (with-other (walked B n) (B n) k h)

-- members that differ come one more at each step
pub walked_fresh : (B : ℕ → ℕ) (n m : ℕ) → Differ B n → m < n → has (walked B m) (B m) ≡ false
walked_fresh B n m d l = not_passed _ (λ h. let (i, k, e) = walked_found B m (B m) h in d i m k l e)

-- so they are n
pub walked_size : (B : ℕ → ℕ) (n m : ℕ) → Differ B n → m ≤ n → size (walked B m) ≡ m
unfolding walked
walked_size B n zero d l = size-zero
walked_size B n (suc m) d l =
    omega (arith, size-with (walked B m) (B m) (walked_fresh B n m d (omega arith)), walked_size B n m d (omega arith))
