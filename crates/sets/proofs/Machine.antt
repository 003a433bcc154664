-- What a machine word of m digits does to the set that it holds, for any m: a shifted one, the test of a digit, a member put in, the next
-- member; the set with no bond; and the bound of a set of bonds and of a set of basis rings. Assumes nothing.
use mathlib.Core.Bool.{Bool, true, false, cond, ◌&&◌, xor, true≢false}
use mathlib.Core.Logic.{◌⊎◌, inl, inr}
use mathlib.Core.Path.{◌≡◌, refl, sym, ap, ◌∙◌}
use Prim.Native.Nat.{ℕ, zero, suc, ◌+◌, ◌-◌, ◌*◌, ◌/◌, ◌%◌, ◌^◌, ◌≤◌, ◌<◌}
use native.Mathlib.Nat.{le_refl, le_of_lt, le-add_right, lt_irrefl, lt_of_le_of_lt, pow-suc, add-sub_of_le, sub-lt_left_of_lt-add}
use native.Mathlib.Omega.{arith}
use borrow.Author.Tests.{eqb-true, eq-eqb, lt-ltb, le-ltb}
use lib.Bits.{bit_and, bit_xor, and_mask}
use lib.Count.{count_trailing_zeros, under}
use lib.Dec.{eqb, lit<}
use lib.Pow.{shl_exact, shr_le}
use Rattle.sets.specs.Bits.{has, with, put, all_below, Sub, sub, IsNext}
use Rattle.sets.specs.Bond as bond
use Rattle.sets.specs.Ring as ring
use Rattle.sets.specs.declared.bond.BondSet.{BondSet}
use Rattle.sets.specs.declared.ring.RingSet.{RingSet}
use Rattle.sets.proofs.Size.{sub_test, test_sub}
use Rattle.sets.proofs.Laws.{has-and, has-xor, has-all_below, empty, parity, has_low, has_half, has_shr, has-zero, member_below}

-- `1 << k`
pub one_shl : (m k : ℕ) → k < m → (1 * 2 ^ k) % 2 ^ m ≡ 2 ^ k
one_shl m k h = shl_exact 1 k m (lit< tt) (omega arith) ∙ omega arith

-- `s >> k & 1 == 1`
pub test_shr : (s k : ℕ) → eqb (bit_and (s / 2 ^ k) 1) 1 ≡ has s k
unfolding has
test_shr s k = ap (λ (x : ℕ). eqb x 1) (and_mask (s / 2 ^ k) 1)

pub put_below : (m s k : ℕ) → k < m → put m s k ≡ with s k
unfolding put
put_below m s k h = ap (λ (t : Bool). cond t (with s k) s) (lt-ltb k m h)

pub put_above : (m s k : ℕ) → m ≤ k → put m s k ≡ s
unfolding put
put_above m s k h = ap (λ (t : Bool). cond t (with s k) s) (le-ltb k m h)

-- `s & (t ^ MAX) == 0`: nothing of s is outside t
pub none_outside : (m s t : ℕ) → s < 2 ^ m → eqb (bit_and s (bit_xor t (all_below m))) 0 ≡ sub s t
unfolding xor
none_outside m s t h = go (eqb rest 0) (sub s t) (λ e. sub_test s t (inside (eqb-true rest 0 e))) (λ e. eq-eqb rest 0 (empty rest (gone (test_sub s t e))))
  where
    rest : ℕ
    rest = bit_and s (bit_xor t (all_below m))

    go : (a b : Bool) → (a ≡ true → b ≡ true) → (b ≡ true → a ≡ true) → a ≡ b
    go true b f g = sym (f refl)
    go false true f g = g refl
    go false false f g = refl

    told : (k : ℕ) → has s k ≡ true → has rest k ≡ xor (has t k) true
    told k e =
        has-and s (bit_xor t (all_below m)) k ∙ ap (λ (x : Bool). x && has (bit_xor t (all_below m)) k) e ∙ has-xor t (all_below m) k
        ∙ ap (xor (has t k)) (has-all_below m k ∙ lt-ltb k m (member_below m k h e))

    by-table : (x : Bool) → xor x true ≡ false → x ≡ true
    by-table true e = refl
    by-table false e = absurd (true≢false e)

    inside : rest ≡ 0 → Sub s t
    inside e k i = by-table (has t k) (sym (told k i) ∙ ap (λ (x : ℕ). has x k) e ∙ has-zero k)

    gone : Sub s t → (k : ℕ) → has rest k ≡ false
    gone part k = cases (has s k) refl
      where
        cases : (x : Bool) → has s k ≡ x → has rest k ≡ false
        cases true e = told k e ∙ ap (λ (x : Bool). xor x true) (part k e)
        cases false e = has-and s (bit_xor t (all_below m)) k ∙ ap (λ (x : Bool). x && has (bit_xor t (all_below m)) k) e

-- ---- the trailing zeros are the place of the lowest member

pub trailing_member : (m n : ℕ) → 0 < n → n < 2 ^ m → has n (count_trailing_zeros m n) ≡ true
unfolding count_trailing_zeros
trailing_member zero n p h = absurd (omega arith)
trailing_member (suc m) n p h = go (λ q. trailing_member m (n / 2) q (omega (arith, pow-suc 2 m))) (parity n)
  where
    go : (0 < n / 2 → has (n / 2) (count_trailing_zeros m (n / 2)) ≡ true) → (n % 2 ≡ 0) ⊎ (n % 2 ≡ 1) → has n (under (n % 2) (count_trailing_zeros m (n / 2))) ≡ true
    go ih (inl e) = rw e (sym (has_half n _) ∙ ih (omega arith))
    go ih (inr e) = rw e (has_low n ∙ eq-eqb (n % 2) 1 e)

pub trailing_none : (m n j : ℕ) → j < count_trailing_zeros m n → has n j ≡ false
unfolding count_trailing_zeros
trailing_none zero n j h = absurd (omega arith)
trailing_none (suc m) n j h = go j (λ i. trailing_none m (n / 2) i) (parity n) h
  where
    go : (j : ℕ) → ((i : ℕ) → i < count_trailing_zeros m (n / 2) → has (n / 2) i ≡ false) → (n % 2 ≡ 0) ⊎ (n % 2 ≡ 1) → j < under (n % 2) (count_trailing_zeros m (n / 2)) → has n j ≡ false
    go zero ih (inl e) h = has_low n ∙ ap (λ (x : ℕ). eqb x 1) e
    go (suc j) ih (inl e) h = sym (has_half n j) ∙ ih j (let l : suc j < suc (count_trailing_zeros m (n / 2)) = rw e at h in omega arith)
    go j ih (inr e) h = absurd (let l : j < 0 = rw e at h in omega arith)

-- ---- the next member

pub next_none : (m s from : ℕ) → ((k : ℕ) → from ≤ k → k < m → has s k ≡ false) → IsNext m s from m
next_none m s from h = record { within = le_refl m; least = λ l. absurd (lt_irrefl m l); member = λ l. absurd (lt_irrefl m l); none = h }

-- the members from `from` on are those of the word shifted down
from_on : (s from k : ℕ) → from ≤ k → has s k ≡ has (s / 2 ^ from) (k - from)
from_on s from k h = ap (has s) (sym (add-sub_of_le h)) ∙ sym (has_shr s from (k - from))

pub next_gone : (m s from : ℕ) → s / 2 ^ from ≡ 0 → IsNext m s from m
next_gone m s from e = next_none m s from (λ k h l. from_on s from k h ∙ ap (λ (x : ℕ). has x (k - from)) e ∙ has-zero (k - from))

pub next_found : (m s from : ℕ) → s < 2 ^ m → 0 < s / 2 ^ from → IsNext m s from (from + count_trailing_zeros m (s / 2 ^ from))
next_found m s from h p =
    let t = count_trailing_zeros m (s / 2 ^ from) in
    let found : has s (from + t) ≡ true = sym (has_shr s from t) ∙ trailing_member m (s / 2 ^ from) p (lt_of_le_of_lt (shr_le s from) h) in
    record {
      within = le_of_lt (member_below m (from + t) h found);
      least = λ l. le-add_right from t;
      member = λ l. found;
      none = λ k a b. from_on s from k a ∙ trailing_none m (s / 2 ^ from) (k - from) (sub-lt_left_of_lt-add a b);
    }

-- ---- the set with no bond; the bound of a set of bonds, of a set of basis rings

pub no_bonds_lem : bond.bits bond.no_bonds ≡ 0
no_bonds_lem = refl

pub bond-lt : (s : BondSet) → bond.Held s → bond.bits s < 2 ^ bond.room
bond-lt s h = h

pub ring-lt : (s : RingSet) → ring.Held s → ring.bits s < 2 ^ ring.room
ring-lt s h = h

pub no_rings_lem : ring.bits ring.no_rings ≡ 0
no_rings_lem = refl
