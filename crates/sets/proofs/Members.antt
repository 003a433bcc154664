-- Sets taken apart by their members: common members, parts, the next member. Assumes nothing.
use mathlib.Core.Bool.{Bool, true, false, ◌&&◌, true≢false, and-eq-true_iff}
use mathlib.Core.Logic.{◌⊎◌, inl, inr}
use mathlib.Core.Path.{◌≡◌, refl, sym, ap, ◌∙◌}
use Prim.Native.Nat.{ℕ, ◌^◌, ◌≤◌, ◌<◌}
use native.Mathlib.Nat.{le_antisymm, le_of_suc-le-suc, lt_of_not-le, lt_of_lt_of_le, eq-zero-or-pos}
use borrow.Author.Tests.{eqb-true, eqb-false, not-true, not-false}
use lib.Bits.{bit_and, or_lt}
use lib.Pow.{pow-lt}
use Rattle.sets.specs.Bits.{has, Sub, with, meet, IsNext}
use Rattle.sets.proofs.Laws.{ext, lowest, has-zero, has-and}

-- ---- common members

pub common : (s t : ℕ) → meet s t ≡ true → (k : ℕ) × (has s k ≡ true) × (has t k ≡ true)
common s t e = go (eq-zero-or-pos (bit_and s t))
  where
    both : (x y : Bool) → x && y ≡ true → (x ≡ true) × (y ≡ true)
    both x y = (and-eq-true_iff x y).0

    go : (bit_and s t ≡ 0) ⊎ (0 < bit_and s t) → (k : ℕ) × (has s k ≡ true) × (has t k ≡ true)
    go (inl z) = absurd (eqb-false (bit_and s t) 0 (not-true _ e) z)
    go (inr p) =
        let l = lowest (bit_and s t) p in
        let b = both (has s l.0) (has t l.0) (sym (has-and s t l.0) ∙ l.1) in
        (l.0, b.0, b.1)

pub apart : (s t : ℕ) → meet s t ≡ false → bit_and s t ≡ 0
apart s t e = eqb-true (bit_and s t) 0 (not-false _ e)

-- two sets with a common member meet
pub meet_of : (s t k : ℕ) → has s k ≡ true → has t k ≡ true → meet s t ≡ true
meet_of s t k p q = go (meet s t) refl
  where
    clash : meet s t ≡ false → ⊥
    clash e = true≢false (sym ((and-eq-true_iff (has s k) (has t k)).1 (p, q)) ∙ sym (has-and s t k) ∙ ap (λ (x : ℕ). has x k) (apart s t e) ∙ has-zero k)

    go : (b : Bool) → meet s t ≡ b → meet s t ≡ true
    go true e = e
    go false e = absurd (clash e)

-- ---- parts

pub sub_refl : (s : ℕ) → Sub s s
sub_refl s k h = h

pub sub_trans : (s t u : ℕ) → Sub s t → Sub t u → Sub s u
sub_trans s t u f g k h = g k (f k h)

pub sub_antisym : (s t : ℕ) → Sub s t → Sub t s → s ≡ t
sub_antisym s t f g = ext s t (λ k. go (has s k) (has t k) (f k) (g k))
  where
    go : (x y : Bool) → (x ≡ true → y ≡ true) → (y ≡ true → x ≡ true) → x ≡ y
    go true y f g = sym (f refl)
    go false true f g = g refl
    go false false f g = refl

-- ---- the next member is one

pub next_unique : (m s from r q : ℕ) → IsNext m s from r → IsNext m s from q → r ≡ q
next_unique m s from r q a b = le_antisymm (no_less q r b a) (no_less r q a b)
  where
    no_less : (r q : ℕ) → IsNext m s from r → IsNext m s from q → q ≤ r
    no_less r q a b =
        le_of_suc-le-suc (lt_of_not-le (λ (l : r < q).
        let inside : r < m = lt_of_lt_of_le l b.within in
        true≢false (sym (a.member inside) ∙ b.none r (a.least inside) l)))

-- ---- a member more stays within m digits

pub with-lt : (m s k : ℕ) → s < 2 ^ m → k < m → with s k < 2 ^ m
unfolding with
with-lt m s k h l = or_lt m s (2 ^ k) h (pow-lt l)
