-- Even sets. The parity of a set's bonds at an atom is additive, so even sets are closed under sums. The highest bond of a non-empty
-- even set is a closure bond: the atoms joined to one end of it by lower bonds are met by an even number of bonds of the set, of
-- which a lower one counts twice or not at all. Assumes nothing.
use mathlib.Core.Path.{◌≡◌, refl, sym, ap, ap₂, ◌∙◌}
use mathlib.Core.Logic.{◌≢◌}
use mathlib.Core.Bool.{Bool, true, false, cond, ◌&&◌, xor, and-false, and-true}
use Prim.Native.Nat.{ℕ, suc, ◌%◌, ◌^◌, ◌<◌}
use native.Mathlib.Omega.{arith}
use lib.Bits.{bit_xor, xor_lt}
use lib.Dec.{eqb, ltb}
use lib.ListN.{get_or}
use lib.Pow.{pow_pos}
use borrow.Author.Tests.{ltb-true, ltb-false, eqb-true, eq-eqb, ne_eqb}
use Rattle.sets.specs.Bits.{has}
use Rattle.sets.proofs.Laws.{has-xor, has-zero, has-pow, has_above, member_below}
use Rattle.definitions.specs.Table.{Table, bonds, tail, head, meets?}
use Rattle.definitions.specs.Ring.{degree, Even}
use Rattle.definitions.specs.Basis.{Closure, closure?, fragments}
use Rattle.definitions.proofs.Tests.{by, eqb_self, clashes}
use Rattle.definitions.proofs.Refusals.{Valid}
use Rattle.definitions.proofs.Paths.{fragment_ends, closure_test}
use Rattle.cycles.proofs.Xor.{xor_self, xor-eq, and_xor, xor-and, or-xor, xor-false}
use Rattle.cycles.proofs.Parity.{parity, count_parity, parity_ext, parity_none, parity_xor, parity_and, parity_swap, parity_one}

-- a set with a member is not empty
pub member-some : {s : ℕ} (k : ℕ) → has s k ≡ true → s ≢ 0
member-some {s} k h z = clashes h (ap (λ (x : ℕ). has x k) z ∙ has-zero k)

-- ---- the parity at an atom

-- an odd number of the bonds of s meet atom a
unfoldable pub odd_at : Table → ℕ → ℕ → Bool
odd_at M s a = parity (bonds M) (λ k. has s k && meets? M a k)

module _ (M : Table) where
  -- it is the last digit of the number of bonds at the atom
  degree_odd : (s a : ℕ) → degree M s a % 2 ≡ cond (odd_at M s a) 1 0
  unfolding degree odd_at
  degree_odd s a = count_parity (bonds M) (λ k. has s k && meets? M a k)

  -- it is additive
  pub odd_xor : (s t a : ℕ) → odd_at M (bit_xor s t) a ≡ xor (odd_at M s a) (odd_at M t a)
  unfolding odd_at
  odd_xor s t a =
      parity_ext (bonds M) _ _ (λ k l. ap (λ (x : Bool). x && meets? M a k) (has-xor s t k) ∙ xor-and (has s k) (has t k) (meets? M a k))
      ∙ parity_xor (bonds M) (λ k. has s k && meets? M a k) (λ k. has t k && meets? M a k)

  -- no bond of the empty set meets an atom
  pub odd_zero : (a : ℕ) → odd_at M 0 a ≡ false
  unfolding odd_at
  odd_zero a = parity_none (bonds M) _ (λ k l. ap (λ (x : Bool). x && meets? M a k) (has-zero k))

  -- one bond alone meets its own atoms
  pub odd_pow : (k a : ℕ) → k < bonds M → odd_at M (2 ^ k) a ≡ meets? M a k
  unfolding odd_at
  odd_pow k a l =
      parity_one (bonds M) k _ l (λ j i ne. ap (λ (x : Bool). x && meets? M a j) (has-pow k j ∙ ne_eqb k j (λ e. ne (sym e))))
      ∙ ap (λ (x : Bool). x && meets? M a k) (has-pow k k ∙ eqb_self k)

  -- in an even set no atom is met by an odd number of bonds
  pub even-at : {s : ℕ} → Even M s → (a : ℕ) → a < M.atoms → odd_at M s a ≡ false
  even-at {s} e a l = go (odd_at M s a) (sym (degree_odd s a) ∙ e.evenly a l)
    where
      go : (b : Bool) → ◌≡◌ {A = ℕ} (cond b 1 0) 0 → b ≡ false
      go true h = absurd (omega arith)
      go false h = refl

  -- and a set of bonds of which that holds is even
  pub even_of : (s : ℕ) → s < 2 ^ bonds M → ((a : ℕ) → a < M.atoms → odd_at M s a ≡ false) → Even M s
  even_of s l h = record { within = l; evenly = λ a i. degree_odd s a ∙ ap (λ (x : Bool). cond x 1 0) (h a i) }

  -- the empty set is even
  pub even-zero : Even M 0
  even-zero = even_of 0 (pow_pos (bonds M)) (λ a l. odd_zero a)

  -- the sum of two even sets is even
  pub even-xor : {s t : ℕ} → Even M s → Even M t → Even M (bit_xor s t)
  even-xor {s} {t} e f =
      even_of (bit_xor s t) (xor_lt (bonds M) s t e.within f.within)
      (λ a l. odd_xor s t a ∙ ap₂ xor (even-at e a l) (even-at f a l) ∙ xor-false false)

-- conditions may change places
and-left_comm : (a b c : Bool) → a && (b && c) ≡ b && (a && c)
and-left_comm true b c = refl
and-left_comm false b c = sym (and-false b)

module _ {M : Table} (valid : Valid M) where
  -- a bond meets its two atoms, which are not one
  pub meets_xor : (a k : ℕ) → k < bonds M → meets? M a k ≡ xor (eqb (tail M k) a) (eqb (head M k) a)
  meets_xor a k l =
      or-xor (eqb (tail M k) a) (eqb (head M k) a)
      (λ e i. valid.no_self k l (eqb-true (tail M k) a e ∙ sym (eqb-true (head M k) a i)))

  -- ---- the cut of a set of atoms: an even set crosses it an even number of times

  -- an atom is counted once
  one-atom : (C : ℕ → Bool) (b : ℕ) → b < M.atoms → parity M.atoms (λ a. C a && eqb b a) ≡ C b
  one-atom C b l =
      parity_one M.atoms b _ l (λ j i ne. ap (λ (x : Bool). C j && x) (ne_eqb b j (λ e. ne (sym e))) ∙ and-false (C j))
      ∙ ap (λ (x : Bool). C b && x) (eqb_self b) ∙ and-true (C b)

  -- the atoms of C that bond k meets are odd in number where it leaves C
  crossed : (C : ℕ → Bool) (k : ℕ) → k < bonds M → parity M.atoms (λ a. C a && meets? M a k) ≡ xor (C (tail M k)) (C (head M k))
  crossed C k l =
      parity_ext M.atoms _ _
      (λ a i. ap (λ (x : Bool). C a && x) (meets_xor a k l) ∙ and_xor (C a) (eqb (tail M k) a) (eqb (head M k) a))
      ∙ parity_xor M.atoms (λ a. C a && eqb (tail M k) a) (λ a. C a && eqb (head M k) a)
      ∙ ap₂ xor (one-atom C (tail M k) (valid.inside k l).0) (one-atom C (head M k) (valid.inside k l).1)

  -- an even set has an even number of bonds that leave C
  pub cut : {s : ℕ} → Even M s → (C : ℕ → Bool) → parity (bonds M) (λ k. has s k && xor (C (tail M k)) (C (head M k))) ≡ false
  unfolding odd_at
  cut {s} e C = sym by-bonds ∙ by-atoms
    where
      by-atoms : parity M.atoms (λ a. parity (bonds M) (λ k. C a && (has s k && meets? M a k))) ≡ false
      by-atoms =
          parity_none M.atoms _
          (λ a l. parity_and (bonds M) (C a) (λ k. has s k && meets? M a k) ∙ ap (λ (x : Bool). C a && x) (even-at M e a l) ∙ and-false (C a))

      by-bonds : parity M.atoms (λ a. parity (bonds M) (λ k. C a && (has s k && meets? M a k)))
          ≡ parity (bonds M) (λ k. has s k && xor (C (tail M k)) (C (head M k)))
      by-bonds =
          parity_swap M.atoms (bonds M) (λ a k. C a && (has s k && meets? M a k))
          ∙ parity_ext (bonds M) _ _ (λ k l.
          parity_ext M.atoms _ _ (λ a i. and-left_comm (C a) (has s k) (meets? M a k))
          ∙ parity_and M.atoms (has s k) (λ a. C a && meets? M a k)
          ∙ ap (λ (x : Bool). has s k && x) (crossed C k l))

  -- ---- the highest bond of an even set is a closure bond

  -- the ends of the highest bond lie in one fragment of the lower bonds, or it alone would leave that fragment
  pub top_closure : {s k : ℕ} → Even M s → has s k ≡ true → s < 2 ^ suc k → Closure M k
  unfolding closure?
  top_closure {s} {k} e h top =
      (closure_test valid k bond).0
      (eq-eqb (label (tail M k)) (label (head M k))
      (sym (eqb-true (label (head M k)) (label (tail M k)) (sym (xor-eq (C (tail M k)) (C (head M k)) even) ∙ eqb_self (label (tail M k))))))
    where
      bond : k < bonds M
      bond = member_below (bonds M) k e.within h

      label : ℕ → ℕ
      label a = get_or (fragments M k) a 0

      C : ℕ → Bool
      C a = eqb (label a) (label (tail M k))

      other : (j : ℕ) → j < bonds M → j ≢ k → has s j && xor (C (tail M j)) (C (head M j)) ≡ false
      other j l ne =
          by (ltb j k)
          (λ i. ap (λ (x : ℕ). has s j && xor (eqb x (label (tail M k))) (C (head M j))) (fragment_ends M k j (ltb-true j k i))
          ∙ ap (λ (x : Bool). has s j && x) (xor_self (C (head M j))) ∙ and-false (has s j))
          (λ i. ap (λ (x : Bool). x && xor (C (tail M j)) (C (head M j))) (has_above (suc k) j top (omega (arith, ltb-false j k i))))

      even : xor (C (tail M k)) (C (head M k)) ≡ false
      even =
          sym (ap (λ (x : Bool). x && xor (C (tail M k)) (C (head M k))) h)
          ∙ sym (parity_one (bonds M) k _ bond other) ∙ cut e C
