-- Even sets and rings: the tests decide what the words say, and the list of all rings is the one list in its order whose members are
-- exactly the rings. Assumes nothing.
use mathlib.Core.Path.{◌≡◌, sym, ap, ◌∙◌}
use mathlib.Core.Logic.{◌↔◌}
use mathlib.Core.Bool.{Bool, true, not, ◌&&◌, true≢false}
use mathlib.Core.List.{List, Memᴰ as In}
use Prim.Native.Nat.{ℕ, ◌+◌, ◌-◌, ◌%◌, ◌^◌, ◌<◌, ◌≤◌}
use native.Mathlib.Omega.{arith}
use lib.Bits.{and_le_r}
use lib.Dec.{eqb, ltb}
use borrow.Author.Tests.{eqb-true, eqb-false, eq-eqb, ne_eqb, ltb-true, ltb-false, lt-ltb, not-true}
use Rattle.sets.specs.Bits.{Sub, sub}
use Rattle.sets.proofs.Size.{sub-and, sub_test, test_sub}
use Rattle.definitions.specs.Search.{every}
use Rattle.definitions.specs.Table.{Table, bonds}
use Rattle.definitions.specs.Ring.{degree, Even, Ring, even?, ring?}
use Rattle.definitions.specs.AllRings.{before, all_rings}
use Rattle.definitions.proofs.Tests.{by, not_passed, and_both, both_and, every-at, every_of}
use Rattle.definitions.proofs.Lists.{Sorted, NoRepeats, sorted_fresh, those_in, those_fresh}
use Rattle.definitions.proofs.Sorting.{before_order, sort_in, sort_sorted, sorted_unique}

-- a part of a set is, as a number, no larger
pub sub-le : (t s : ℕ) → Sub t s → t ≤ s
sub-le t s h = omega (arith, sub-and t s h, and_le_r t s)

module _ (M : Table) where
  -- the test of an even set passes exactly for the even sets
  pub even_test : (s : ℕ) → (even? M s ≡ true) ↔ Even M s
  unfolding even?
  even_test s = (
    λ e. let h = and_both (ltb s (2 ^ bonds M)) (every M.atoms (λ a. eqb (degree M s a % 2) 0)) e in
        record { within = ltb-true s (2 ^ bonds M) h.0; evenly = λ a l. eqb-true (degree M s a % 2) 0 (every-at M.atoms _ h.1 a l) },
    λ v. both_and (lt-ltb s (2 ^ bonds M) v.within) (every_of M.atoms _ (λ a l. eq-eqb (degree M s a % 2) 0 (v.evenly a l))),
  )

  -- t + 1 is inside s and even
  abbrev inner : ℕ → ℕ → Bool
  inner s t = sub (t + 1) s && even? M (t + 1)

  ring-least : (s : ℕ) → every (s - 1) (λ t. not (inner s t)) ≡ true → (t : ℕ) → Even M t → 0 < t → Sub t s → t ≡ s
  ring-least s a t e p h =
      by (ltb t s)
      (λ l. absurd (true≢false (sym (both (t - 1) (omega arith)) ∙ not-true _ (every-at (s - 1) (λ t. not (inner s t)) a (t - 1) (omega (arith, ltb-true t s l))))))
      (λ l. omega (arith, ltb-false t s l, sub-le t s h))
    where
      both : (u : ℕ) → u + 1 ≡ t → inner s u ≡ true
      both u q = both_and (sub_test (u + 1) s (rw (sym q) at h)) ((even_test (u + 1)).1 (rw (sym q) at e))

  ring-none : (s : ℕ) → Ring M s → (t : ℕ) → t < s - 1 → not (inner s t) ≡ true
  ring-none s r t l = ap not (not_passed (inner s t) (λ e. inside (and_both (sub (t + 1) s) (even? M (t + 1)) e)))
    where
      inside : (sub (t + 1) s ≡ true) × (even? M (t + 1) ≡ true) → ⊥
      inside h = omega (arith, r.least (t + 1) ((even_test (t + 1)).0 h.1) (λ z. omega arith) (test_sub (t + 1) s h.0))

  -- the test of a ring passes exactly for the rings
  pub ring_test : (s : ℕ) → (ring? M s ≡ true) ↔ Ring M s
  unfolding ring?
  ring_test s = (
    λ e. let h = and_both (not (eqb s 0)) _ e in
        let k = and_both (even? M s) _ h.1 in
        record {
          even = (even_test s).0 k.0;
          some = eqb-false s 0 (not-true _ h.0);
          least = λ t v z i. ring-least s k.1 t v (omega arith) i;
        },
    λ r. both_and (ap not (ne_eqb s 0 r.some)) (both_and ((even_test s).1 r.even) (every_of (s - 1) _ (ring-none s r))),
  )

  -- the list of all rings has the rings, and nothing else
  pub all_rings_are : (s : ℕ) → In s (all_rings M) ↔ Ring M s
  unfolding all_rings
  all_rings_are s = (
    λ i. (ring_test s).0 ((those_in (2 ^ bonds M) (ring? M) s).0 ((sort_in before _ s).0 i)).1,
    λ r. (sort_in before _ s).1 ((those_in (2 ^ bonds M) (ring? M) s).1 (r.even.within, (ring_test s).1 r)),
  )

  -- it is in order
  pub all_rings_sorted : Sorted before (all_rings M)
  unfolding all_rings
  all_rings_sorted = sort_sorted before_order (those_fresh (2 ^ bonds M) (ring? M))

  -- and so each ring stands in it once
  pub all_rings_fresh : NoRepeats (all_rings M)
  all_rings_fresh = sorted_fresh before_order.irrefl all_rings_sorted

  -- and there is one such list
  pub all_rings_unique : (l : List ℕ) → Sorted before l → ((s : ℕ) → In s l ↔ Ring M s) → l ≡ all_rings M
  all_rings_unique l o h = sorted_unique before_order o all_rings_sorted (λ s. (λ i. (all_rings_are s).1 ((h s).0 i), λ i. (h s).1 ((all_rings_are s).0 i)))
