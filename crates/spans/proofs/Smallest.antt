-- What is taken of a list in rising size is a smallest basis of it: its sets are sets of the list, none is a sum of others, every set
-- of the list is a sum of them, and no other such list has a smaller total of sizes. The sizes are the same in every smallest
-- basis. Assumes nothing.
use mathlib.Core.Path.{◌≡◌, sym, ◌∙◌}
use mathlib.Core.Logic.{inl}
use mathlib.Core.List.{List, [], map, Memᴰ as In}
use Prim.Native.Nat.{ℕ, ◌≤◌}
use borrow.Author.Tests.{leb-false}
use lib.Dec.{leb}
use lib.ListN.{length}
use Rattle.sets.specs.Bits.{size}
use Rattle.definitions.specs.Search.{total}
use Rattle.definitions.specs.AllRings.{before}
use Rattle.definitions.specs.Label.{occurs}
use Rattle.definitions.specs.Smallest.{SumOf, taking}
use Rattle.definitions.proofs.Tests.{clashes, not_failed}
use Rattle.definitions.proofs.Sorting.{Sorted, sorted_none, sorted_more, SortedWeak, weak_none, weak_more, sorted_weak, before_order, before_reads}
use Rattle.spans.proofs.Choice.{NoneOfOthers, others_iff_indep, sum→span, span→sum}
use Rattle.spans.proofs.Taking.{taking_in, taking_indep, taking_holds}
use Rattle.spans.proofs.Rising.{Rising}
use Rattle.spans.proofs.Lightest.{Basis, basis_of_lem, basis-length, taking-least, lightest_occurs}

-- a list in the order of all rings is in rising size, with repeats
pub weak_rising : {xs : List ℕ} → SortedWeak before xs → Rising size xs
weak_rising weak_none = sorted_none
weak_rising (weak_more {x} h s) =
    sorted_more
    (λ y i. not_failed (leb (size x) (size y)) (λ e. clashes ((before_reads y x).1 (inl (leb-false (size x) (size y) e))) (h y i)))
    (weak_rising s)

-- and without
pub before-rising : {xs : List ℕ} → Sorted before xs → Rising size xs
before-rising s = weak_rising (sorted_weak before_order s)

-- bs is a basis made of sets of xs
pub record SpanBasis (xs bs : List ℕ) : Type 0 where
  pub members : (b : ℕ) → In b bs → In b xs
  pub none_of_others : NoneOfOthers bs
  pub span_all : (x : ℕ) → In x xs → SumOf bs x

-- and no other has a smaller total of sizes
pub record SmallestOf (xs bs : List ℕ) : Type 0 where
  pub basis : SpanBasis xs bs
  pub least : (cs : List ℕ) → SpanBasis xs cs → total (map size bs) ≤ total (map size cs)

-- no set taken is a sum of others
pub taken_none_of_others : (xs : List ℕ) → NoneOfOthers (taking [] xs)
taken_none_of_others xs = (others_iff_indep (taking [] xs)).1 (taking_indep xs)

-- each set of the list is a sum of sets taken
pub taken_span_all : (xs : List ℕ) (x : ℕ) → In x xs → SumOf (taking [] xs) x
taken_span_all xs x i = span→sum (taking_holds xs x i)

-- what is taken is a basis
pub taken_basis : (xs : List ℕ) → SpanBasis xs (taking [] xs)
taken_basis xs = record { members = taking_in xs; none_of_others = taken_none_of_others xs; span_all = taken_span_all xs }

-- it is a basis in the sense of spans
as_basis : {xs bs : List ℕ} → SpanBasis xs bs → Basis size xs bs
as_basis {xs} {bs} b = basis_of_lem size xs bs ((others_iff_indep bs).0 b.none_of_others) b.members (λ x i. sum→span (b.span_all x i))

-- every basis has as many sets
pub taken_length : (xs bs : List ℕ) → SpanBasis xs bs → length bs ≡ length (taking [] xs)
taken_length xs bs b = basis-length size xs bs (as_basis b)

module _ (xs : List ℕ) (rising : Rising size xs) where
  -- no basis has a smaller total of sizes
  pub taken_least-total : (bs : List ℕ) → SpanBasis xs bs → total (map size (taking [] xs)) ≤ total (map size bs)
  taken_least-total bs b = taking-least size xs rising bs (as_basis b)

  -- every smallest basis has as many sets of each size
  pub taken_sizes_unique : (bs : List ℕ) → SmallestOf xs bs → (t : ℕ) → occurs t (map size bs) ≡ occurs t (map size (taking [] xs))
  taken_sizes_unique bs b t = sym (lightest_occurs size xs rising bs (as_basis b.basis) (b.least (taking [] xs) (taken_basis xs)) t)

  -- so any two smallest bases have as many sets of each size
  pub smallest_sizes_agree : (bs cs : List ℕ) → SmallestOf xs bs → SmallestOf xs cs → (t : ℕ) → occurs t (map size bs) ≡ occurs t (map size cs)
  smallest_sizes_agree bs cs b c t = taken_sizes_unique bs b t ∙ sym (taken_sizes_unique cs c t)
