-- The smallest basis: what is taken of the list of all rings, which rises in size, is a basis of rings, and no other has fewer bonds
-- in total. The basis rings are a basis of rings too, so it has as many. Assumes nothing.
use mathlib.Core.Path.{◌≡◌, sym}
use mathlib.Core.Logic.{◌↔◌}
use mathlib.Core.List.{List, map, Memᴰ as In}
use Prim.Native.Nat.{ℕ}
use lib.ListN.{length}
use Rattle.sets.specs.Bits.{size}
use Rattle.definitions.specs.Table.{Table}
use Rattle.definitions.specs.Ring.{Ring}
use Rattle.definitions.specs.Basis.{basis_rings}
use Rattle.definitions.specs.AllRings.{before, all_rings}
use Rattle.definitions.specs.Smallest.{SumOf, smallest_basis}
pub use Rattle.definitions.specs.Smallest.{NoneOfOthers, RingBasis, SmallestBasis}
use Rattle.definitions.specs.Label.{occurs}
use Rattle.definitions.proofs.Lists.{Sorted}
use Rattle.definitions.proofs.Sorting.{before_order}
use Rattle.definitions.proofs.Refusals.{Valid}
use Rattle.definitions.proofs.Rings.{all_rings_are, all_rings_sorted}
use Rattle.spans.proofs.Choice.{independent_iff_others}
use Rattle.spans.proofs.InOrder.{earlier, taking_sorted, taking_reads, taken_unique}
use Rattle.spans.proofs.Smallest.{before-rising, SpanBasis, SmallestOf, taken_basis, taken_length, taken_least-total, smallest_sizes_agree}
use Rattle.cycles.proofs.BasisList.{basis-ring_in, even-sums, basis-rings_independent}

-- it is a basis made of the list of all rings
pub ring-basis_of : (M : Table) (bs : List ℕ) → RingBasis M bs ↔ SpanBasis (all_rings M) bs
ring-basis_of M bs = (
  λ b.
      record {
        members = λ s i. (all_rings_are M s).1 (b.rings s i);
        none_of_others = b.none_of_others;
        span_all = λ s i. b.span_all s ((all_rings_are M s).0 i);
      },
  λ b.
      record {
        rings = λ s i. (all_rings_are M s).0 (b.members s i);
        none_of_others = b.none_of_others;
        span_all = λ s r. b.span_all s ((all_rings_are M s).1 r);
      },
)

-- the smallest basis consists of rings, none a sum of others; every ring is a sum of some of them; no such list has fewer bonds in total
pub smallest_basis_theorem : (M : Table) → SmallestBasis M (smallest_basis M)
unfolding smallest_basis
smallest_basis_theorem M =
    record {
      basis = (ring-basis_of M (smallest_basis M)).1 (taken_basis (all_rings M));
      least = λ cs c. taken_least-total (all_rings M) (before-rising (all_rings_sorted M)) cs ((ring-basis_of M cs).0 c);
    }

-- it is in the order of all rings
pub smallest_basis_sorted : (M : Table) → Sorted before (smallest_basis M)
unfolding smallest_basis
smallest_basis_sorted M = taking_sorted before_order (all_rings_sorted M)

-- what is no sum of those of a list that stand before it, among all rings and among the rings
among_rings : (M : Table) (bs : List ℕ) → ((s : ℕ) → In s bs ↔ (Ring M s × (¬ SumOf (earlier before bs s) s)))
    ↔ ((s : ℕ) → In s bs ↔ (In s (all_rings M) × (¬ SumOf (earlier before bs s) s)))
among_rings M bs = (
  λ h s. (λ i. ((all_rings_are M s).1 ((h s).0 i).0, ((h s).0 i).1), λ (r, none). (h s).1 ((all_rings_are M s).0 r, none)),
  λ h s. (λ i. ((all_rings_are M s).0 ((h s).0 i).0, ((h s).0 i).1), λ (r, none). (h s).1 ((all_rings_are M s).1 r, none)),
)

-- a ring is in it exactly if it is no sum of rings in it that stand before it
pub smallest_basis_reads : (M : Table) (s : ℕ) → In s (smallest_basis M) ↔ (Ring M s × (¬ SumOf (earlier before (smallest_basis M) s) s))
unfolding smallest_basis
smallest_basis_reads M = (among_rings M (smallest_basis M)).1 (taking_reads before_order (all_rings M) (all_rings_sorted M))

-- and there is one such list
pub smallest_basis_unique : (M : Table) (bs : List ℕ) → Sorted before bs
    → ((s : ℕ) → In s bs ↔ (Ring M s × (¬ SumOf (earlier before bs s) s))) → bs ≡ smallest_basis M
smallest_basis_unique M bs sorted h =
    taken_unique before_order (all_rings_sorted M) sorted (smallest_basis_sorted M)
    ((among_rings M bs).0 h) ((among_rings M (smallest_basis M)).0 (smallest_basis_reads M))

-- every smallest basis has as many rings of each size
pub smallest_basis_sizes : (M : Table) (bs cs : List ℕ) → SmallestBasis M bs → SmallestBasis M cs → (t : ℕ) → occurs t (map size bs) ≡ occurs t (map size cs)
smallest_basis_sizes M bs cs b c = smallest_sizes_agree (all_rings M) (before-rising (all_rings_sorted M)) bs cs (among bs b) (among cs c)
  where
    among : (ds : List ℕ) → SmallestBasis M ds → SmallestOf (all_rings M) ds
    among ds d = record { basis = (ring-basis_of M ds).0 d.basis; least = λ es e. d.least es ((ring-basis_of M es).1 e) }

module _ {M : Table} (valid : Valid M) where
  -- the basis rings are such a list
  pub basis-rings-basis : RingBasis M (basis_rings M)
  basis-rings-basis =
      record {
        rings = basis-ring_in valid;
        none_of_others = (independent_iff_others (basis_rings M)).0 (basis-rings_independent valid);
        span_all = λ s r. (even-sums valid s).1 r.even;
      }

  -- so the smallest basis has as many rings
  pub smallest_basis-length : length (smallest_basis M) ≡ length (basis_rings M)
  unfolding smallest_basis
  smallest_basis-length = sym (taken_length (all_rings M) (basis_rings M) ((ring-basis_of M (basis_rings M)).0 basis-rings-basis))
