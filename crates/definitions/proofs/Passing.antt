-- The members of a set of places up to one that `next` gives: f of every member that is passed is listed, in order.
--     Passed m s i    the members of s below i are passed, and i is the next, or m where there is none
-- Laws: passed_next for the place that `next` gives, passed_first before the first member, passed_all after the last. Assumes nothing.
use mathlib.Core.Path.{◌≡◌, refl, sym, ap, ◌∙◌}
use mathlib.Core.Bool.{Bool, true, false}
use mathlib.Core.List.{[]}
use Prim.Native.Nat.{ℕ, ◌≤◌, ◌<◌}
use native.Mathlib.Numerals.{add-one}
use native.Mathlib.Nat.{le_antisymm}
use native.Mathlib.Decide.{le_ind}
use native.Mathlib.Omega.{arith}
use Rattle.sets.specs.Bits.{has, IsNext}
use Rattle.definitions.specs.Search.{listed}
use Rattle.definitions.proofs.Lists.{listed-zero, listed_skip}

-- where no number from k up to n passes, the same are listed below both
pub listed_gap : {A : Type 0} (p : ℕ → Bool) (f : ℕ → A) (k n : ℕ) → k ≤ n → ((j : ℕ) → k ≤ j → j < n → p j ≡ false) → listed n p f ≡ listed k p f
listed_gap p f k n h none =
    le_ind (λ m. ((j : ℕ) → k ≤ j → j < m → p j ≡ false) → listed m p f ≡ listed k p f) (λ z. refl)
    (λ m (l : k ≤ m) ih z.
    ap (λ (i : ℕ). listed i p f) (sym (add-one m)) ∙ listed_skip p f m refl (z m l (omega arith)) ∙ ih (λ j a b. z j a (omega arith))) n h none

-- the members of s below i are passed, and i is the next one below m, or m
pub record Passed (m s i : ℕ) : Type 0 where
  pub within : i ≤ m
  pub member : i < m → has s i ≡ true

-- what `next` gives is such a place
pub passed_next : {m s from i : ℕ} → IsNext m s from i → Passed m s i
passed_next n = record { within = n.within; member = n.member }

-- before the first member nothing is listed
pub passed_first : {A : Type 0} {m s i : ℕ} (f : ℕ → A) → IsNext m s 0 i → listed i (has s) f ≡ []
passed_first {A} {m} {s} {i} f n = listed_gap (has s) f 0 i (omega arith) n.none ∙ listed-zero (has s) f

-- after the last member all are listed
pub passed_all : {A : Type 0} {m s i : ℕ} (f : ℕ → A) → Passed m s i → m ≤ i → listed i (has s) f ≡ listed m (has s) f
passed_all {s = s} f p h = ap (λ (k : ℕ). listed k (has s) f) (le_antisymm p.within h)
