-- How many members a set has. Each law follows from `size-sum`. Assumes nothing.
use mathlib.Core.Bool.{Bool, true, false, ◌&&◌, true≢false, and-true, and-false}
use mathlib.Core.Path.{◌≡◌, refl, sym, ap, ap₂, ◌∙◌}
use Prim.Native.Nat.{ℕ, ◌+◌, ◌*◌, ◌/◌, ◌%◌, ◌^◌, ◌≤◌, ◌<◌, min}
use native.Mathlib.Nat.{mod-lt}
use native.Mathlib.Omega.{arith}
use borrow.Author.Tests.{eqb-true, eq-eqb}
use lib.Arith.{bin_ind, digits_mod, digits_div}
use lib.Bits.{bit_and, bit_or, bit_xor, differ, and_step, xor_step, xor_self, xor_zero_r, or_disjoint, xor_disjoint}
use lib.Count.{ones, ones_step, ones_cat}
use lib.Dec.{eqb, lit<}
use lib.Pow.{pow_pos}
use Rattle.sets.specs.Bits.{has, Sub, sub, size, with, without}
use Rattle.sets.proofs.Laws.{four, ext, empty, has-and, has-pow, xor_assoc}

pub size-zero : size 0 ≡ 0
unfolding ones
size-zero = refl

-- the lowest digit apart
size_digit : (q r : ℕ) → r < 2 → size (q * 2 + r) ≡ size q + r
size_digit q r h = ones_step (q * 2 + r) ∙ ap₂ (λ (x y : ℕ). x + ones y) (digits_mod q h) (digits_div q h) ∙ omega arith

pub size_none : (s : ℕ) → size s ≡ 0 → s ≡ 0
size_none = bin_ind (λ (s : ℕ). size s ≡ 0 → s ≡ 0) (λ h. refl) (λ s ih h. omega (arith, ones_step s, ih (omega (arith, ones_step s))))

-- the digits of a sum and of what two sets share
digits : (x y : ℕ) → x < 2 → y < 2 → (differ x y < 2) × (min x y < 2) × (differ x y + 2 * min x y ≡ x + y)
digits = four (λ (x y : ℕ). (differ x y < 2) × (min x y < 2) × (differ x y + 2 * min x y ≡ x + y)) (lit< tt, lit< tt, refl) (lit< tt, lit< tt, refl) (lit< tt, lit< tt, refl) (lit< tt, lit< tt, refl)

-- what two sets share is not in their sum
pub size-sum : (a b : ℕ) → size (bit_xor a b) + 2 * size (bit_and a b) ≡ size a + size b
size-sum =
    bin_ind (λ (a : ℕ). (b : ℕ) → size (bit_xor a b) + 2 * size (bit_and a b) ≡ size a + size b)
    (λ b. omega (arith, size-zero))
    (λ a ih b.
    let d = digits (a % 2) (b % 2) (mod-lt a (lit< tt)) (mod-lt b (lit< tt)) in
    omega (arith, ap size (xor_step a b) ∙ size_digit _ _ d.0, ap size (and_step a b) ∙ size_digit _ _ d.1, d.2, ih (b / 2), ones_step a, ones_step b))

pub size-pow : (k : ℕ) → size (2 ^ k) ≡ 1
unfolding ones
size-pow k = ap size (let e : 2 ^ k ≡ 1 * 2 ^ k + 0 = omega arith in e) ∙ ones_cat k 1 0 (pow_pos k)

-- ---- sets that share nothing

pub size_disjoint : (a b : ℕ) → bit_and a b ≡ 0 → size (bit_or a b) ≡ size a + size b
size_disjoint a b e =
    omega (arith, ap size (or_disjoint a b e ∙ sym (xor_disjoint a b e)), size-sum a b, ap size e, size-zero)

-- ---- parts of a set

sub-table : (x y : Bool) → (x ≡ true → y ≡ true) → x && y ≡ x
sub-table true y h = h refl
sub-table false y h = refl

-- s is a part of t where nothing of s is lost in what they share
pub sub-and : (s t : ℕ) → Sub s t → bit_and s t ≡ s
sub-and s t h = ext _ _ (λ k. has-and s t k ∙ sub-table (has s k) (has t k) (h k))

pub and-sub : (s t : ℕ) → bit_and s t ≡ s → Sub s t
and-sub s t e k h = go (has s k) h (sym (has-and s t k) ∙ ap (λ (x : ℕ). has x k) e)
  where
    go : (x : Bool) → x ≡ true → x && has t k ≡ x → has t k ≡ true
    go true p q = q
    go false p q = absurd (true≢false (sym p))

-- so the test `sub` decides it
pub sub_test : (s t : ℕ) → Sub s t → sub s t ≡ true
sub_test s t h = eq-eqb (bit_and s t) s (sub-and s t h)

pub test_sub : (s t : ℕ) → sub s t ≡ true → Sub s t
test_sub s t e = and-sub s t (eqb-true (bit_and s t) s e)

-- what is left of t beside its part s
pub size-rest : (s t : ℕ) → Sub s t → size s + size (bit_xor s t) ≡ size t
size-rest s t h = omega (arith, size-sum s t, ap size (sub-and s t h))

pub size-sub : (s t : ℕ) → Sub s t → size s ≤ size t
size-sub s t h = omega (arith, size-rest s t h)

pub xor-zero : (s t : ℕ) → bit_xor s t ≡ 0 → s ≡ t
xor-zero s t e = sym (xor_zero_r s) ∙ ap (bit_xor s) (sym (xor_self t)) ∙ sym (xor_assoc s t t) ∙ ap (λ (x : ℕ). bit_xor x t) e

pub sub_same : (s t : ℕ) → Sub s t → size s ≡ size t → s ≡ t
sub_same s t h e = xor-zero s t (size_none (bit_xor s t) (omega (arith, size-rest s t h)))

-- ---- one member more, one less

-- a set shares nothing with k's digit where k is no member
pub and-pow-none : (s k : ℕ) → has s k ≡ false → bit_and s (2 ^ k) ≡ 0
and-pow-none s k h = empty _ (λ j. has-and s (2 ^ k) j ∙ ap (λ (x : Bool). has s j && x) (has-pow k j) ∙ go j (eqb k j) refl)
  where
    go : (j : ℕ) (x : Bool) → eqb k j ≡ x → has s j && x ≡ false
    go j true e = and-true (has s j) ∙ ap (has s) (sym (eqb-true k j e)) ∙ h
    go j false e = and-false (has s j)

pub size-with : (s k : ℕ) → has s k ≡ false → size (with s k) ≡ size s + 1
unfolding with
size-with s k h = omega (arith, size_disjoint s (2 ^ k) (and-pow-none s k h), size-pow k)

pub without-same : (s k : ℕ) → has s k ≡ false → without s k ≡ s
unfolding without
without-same s k h = ap (bit_xor s) (and-pow-none s k h) ∙ xor_zero_r s
