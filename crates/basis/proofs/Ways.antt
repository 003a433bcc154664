-- Sets of forest bonds that meet every atom evenly but two: the bonds of a way between the two, and sums of such. A closure bond with one
-- between its ends is its basis ring. Assumes nothing.
use mathlib.Core.Path.{◌≡◌, sym, ap, ap₂, ◌∙◌}
use mathlib.Core.Logic.{◌⊎◌, inl, inr, ⊎_elim}
use mathlib.Core.Bool.{true, false, not, xor}
use Prim.Native.Nat.{ℕ, ◌+◌, ◌^◌, ◌<◌}
use native.Mathlib.Omega.{arith}
use lib.Bits.{bit_xor}
use lib.Dec.{eqb}
use borrow.Author.Tests.{lt-ltb}
use Rattle.sets.specs.Bits.{has, with, put}
use Rattle.sets.specs.Bond.{room}
use Rattle.sets.proofs.Laws.{below, has-zero, has-xor}
use Rattle.sets.proofs.Machine.{put_below}
use Rattle.definitions.specs.Table.{Table, bonds, tail, head}
use Rattle.definitions.specs.Basis.{closure?, forest, basis_ring}
use Rattle.definitions.proofs.Tests.{by, clashes, not_passed, both_and}
use Rattle.definitions.proofs.Refusals.{Valid}
use Rattle.definitions.proofs.Paths.{with_new, with-other, has-forest}
use Rattle.cycles.proofs.Xor.{xor_self, xor_comm, sums}
use Rattle.cycles.proofs.Evens.{odd_at, odd_xor, odd_zero, odd_pow, even_of, meets_xor}
use Rattle.cycles.proofs.BasisRings.{with-xor, basis-ring_is}

-- w is a set of forest bonds below k, of which an odd number meet an atom where it is one of x and y and not both
pub record Between (M : Table) (k x y w : ℕ) : Type 0 where
  pub odd : (v : ℕ) → odd_at M w v ≡ xor (eqb x v) (eqb y v)
  pub low : (j : ℕ) → has w j ≡ true → j < k
  pub tree : (j : ℕ) → has w j ≡ true → has (forest M) j ≡ true

-- a member of a sum is one of either set
sum-member : (s t j : ℕ) → has (bit_xor s t) j ≡ true → (has s j ≡ true) ⊎ (has t j ≡ true)
sum-member s t j h =
    by (has s j) inl
    (λ e. by (has t j) inr (λ f. clashes h (has-xor s t j ∙ ap₂ xor e f ∙ xor_self false)))

-- from an atom to itself there is the way of no bond
pub between_none : (M : Table) (k a : ℕ) → Between M k a a 0
between_none M k a = record {
  odd = λ v. odd_zero M v ∙ sym (xor_self (eqb a v));
  low = λ j h. clashes h (has-zero j);
  tree = λ j h. clashes h (has-zero j);
}

-- ways may be gone back
pub between_turn : {M : Table} {k x y w : ℕ} → Between M k x y w → Between M k y x w
between_turn {x = x} {y = y} b = record { odd = λ v. b.odd v ∙ xor_comm (eqb x v) (eqb y v); low = b.low; tree = b.tree }

-- and go on
pub between-sum : {M : Table} {k x y z v w : ℕ} → Between M k x y v → Between M k y z w → Between M k x z (bit_xor v w)
between-sum {M} {v = v} {w = w} b c = record {
  odd = λ a. odd_xor M v w a ∙ ap₂ xor (b.odd a) (c.odd a) ∙ simp sums;
  low = λ j h. ⊎_elim (b.low j) (c.low j) (sum-member v w j h);
  tree = λ j h. ⊎_elim (b.tree j) (c.tree j) (sum-member v w j h);
}

-- they stay where one bond more is tried
pub between_more : {M : Table} {k x y w : ℕ} → Between M k x y w → Between M (k + 1) x y w
between_more b = record { odd = b.odd; low = λ j h. omega (arith, b.low j h); tree = b.tree }

-- ---- bond k and the ways from its ends to x and to y

module _ {M : Table} (valid : Valid M) {k x y v w r : ℕ} (l : k < bonds M) (b : Between M k (tail M k) x v) (c : Between M k (head M k) y w)
    (e : r ≡ put room (bit_xor v w) k) where
  -- it is not in the ways
  fresh : has (bit_xor v w) k ≡ false
  fresh = not_passed (has (bit_xor v w) k) (λ h. ⊎_elim (λ p. absurd (omega (arith, b.low k p))) (λ p. absurd (omega (arith, c.low k p))) (sum-member v w k h))

  -- with it they are the round
  whole : r ≡ with (bit_xor v w) k
  whole = e ∙ put_below room (bit_xor v w) k (omega (arith, valid.few-bonds))

  -- an odd number of whose bonds meet x and y
  round_odd : (a : ℕ) → odd_at M r a ≡ xor (eqb x a) (eqb y a)
  round_odd a =
      ap (λ (s : ℕ). odd_at M s a) (whole ∙ with-xor (bit_xor v w) k fresh)
      ∙ odd_xor M (bit_xor v w) (2 ^ k) a
      ∙ ap₂ xor (odd_xor M v w a ∙ ap₂ xor (b.odd a) (c.odd a)) (odd_pow M k a l ∙ meets_xor valid a k l)
      ∙ simp sums

  -- its members are bond k and those of the ways
  round_member : (j : ℕ) → has r j ≡ true → ((j < k) × (has (forest M) j ≡ true)) ⊎ (j ≡ k)
  round_member j h =
      ⊎_elim (λ p. inl (⊎_elim (λ q. (b.low j q, b.tree j q)) (λ q. (c.low j q, c.tree j q)) (sum-member v w j p))) (λ q. inr (sym q))
      (with-other (bit_xor v w) k j (rw whole at h))

  -- a bond between two fragments makes a way between x and y
  pub round_between : closure? M k ≡ false → Between M (k + 1) x y r
  round_between f = record {
    odd = round_odd;
    low = λ j h. ⊎_elim (λ p. omega (arith, p.0)) (λ q. omega arith) (round_member j h);
    tree = λ j h. ⊎_elim (λ p. p.1) (λ q. rw q (has-forest M k ∙ both_and (lt-ltb k (bonds M) l) (ap not f))) (round_member j h);
  }

  -- a bond within a fragment makes its basis ring
  pub round_ring : x ≡ y → r ≡ basis_ring M k
  round_ring same = basis-ring_is valid (record {
    even = even_of M r inside (λ a h. round_odd a ∙ ap (λ (z : ℕ). xor (eqb z a) (eqb y a)) same ∙ xor_self (eqb y a));
    member = rw whole (with_new (bit_xor v w) k);
    tree = λ j h ne. ⊎_elim (λ p. p.1) (λ q. absurd (ne q)) (round_member j h);
  })
    where
      inside : r < 2 ^ bonds M
      inside = below r (bonds M) (λ j m. not_passed (has r j) (λ h. ⊎_elim (λ p. absurd (omega (arith, p.0))) (λ q. absurd (omega arith)) (round_member j h)))
