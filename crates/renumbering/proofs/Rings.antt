-- Renumbered tables have as many rings of each size, since their rings are carried to each other and keep their size; and as many of each
-- size in every smallest basis, since sums are carried to sums. Assumes nothing.
use mathlib.Core.Path.{◌≡◌, refl, sym, ap, ◌∙◌}
use mathlib.Core.Bool.{true}
use mathlib.Core.List.Memᴰ.{head as here}
use mathlib.Core.List.Memᴰ.{tail as there}
use mathlib.Core.List.{List, map, Memᴰ as In}
use Prim.Native.Nat.{ℕ, ◌^◌, ◌≤◌, ◌<◌}
use native.Mathlib.Nat.{le_antisymm}
use native.Mathlib.Omega.{arith}
use lib.Dec.{leb}
use Rattle.sets.specs.Bits.{size}
use Rattle.definitions.specs.Table.{Table, bonds}
use Rattle.definitions.specs.Ring.{Even}
use Rattle.definitions.specs.AllRings.{all_rings}
use Rattle.definitions.specs.Smallest.{smallest_basis, SmallestBasis}
use Rattle.definitions.specs.Label.{occurs}
use Rattle.definitions.proofs.Lists.{keep_in, fresh_keep}
use Rattle.definitions.proofs.Rings.{all_rings_are, all_rings_sorted, all_rings_fresh}
use Rattle.spans.proofs.Spans.{Span, none, skip, add, xor_cancel}
use Rattle.spans.proofs.Counts.{upto, light, length_light, same-occurs}
use Rattle.spans.proofs.Carries.{Carries}
use Rattle.spans.proofs.Invariant.{invariant_occurs}
use Rattle.spans.proofs.Smallest.{before-rising}
use Rattle.cycles.proofs.Evens.{even-zero, even-xor}
use Rattle.cycles.proofs.Smallest.{smallest_basis_theorem, smallest_basis_sizes}
use Rattle.renumbering.specs.Renumbered.{Renumbered, InRange}
use Rattle.renumbering.proofs.Matching.{Matches, matched_length}
use Rattle.renumbering.proofs.Images.{carried, image_xor, image_one, image_none, size_image}
use Rattle.renumbering.proofs.Tables.{range_carried, renumbered_back}
use Rattle.renumbering.proofs.Sets.{carried_here, ring_carried}

-- a sum of even sets is even
pub span_even : (M : Table) {vs : List ℕ} {x : ℕ} → ((v : ℕ) → In v vs → Even M v) → Span vs x → Even M x
span_even M h (none e) = rw e (even-zero M)
span_even M h (skip s) = span_even M (λ v i. h v (there i)) s
span_even M {x = x} h (add {v} s) = rw (xor_cancel v x) at (even-xor M (h v (here refl)) (span_even M (λ u i. h u (there i)) s))

-- ---- how many rings of each size

module _ {M N : Table} (r : Renumbered M N) (inside : InRange M) where
  -- set s is carried to set t
  abbrev Becomes : ℕ → ℕ → Type 0
  Becomes s t = carried r s ≡ t

  -- each ring up to a size has a partner of its size, the ring that it is carried to
  rings_matched : (z : ℕ) → Matches Becomes (light size z (all_rings M)) (light size z (all_rings N))
  rings_matched z =
      record {
        partner = λ s i.
            let (j, t) = kept s i in
            let h = (all_rings_are M s).0 j in (
              carried r s,
              (keep_in (λ x. leb (size x) z) (carried r s) (all_rings N)).1 (
                (all_rings_are N (carried r s)).1 (ring_carried r inside h),
                ap (λ (x : ℕ). leb x z) (size_image r.bonds_renamed s h.even.within) ∙ t,
              ),
              refl,
            );
        one = λ a c b i j e d. image_one r.bonds_renamed a c (low a i) (low c j) (e ∙ sym d);
      }
    where
      kept : (s : ℕ) → In s (light size z (all_rings M)) → In s (all_rings M) × (leb (size s) z ≡ true)
      kept s i = (keep_in (λ x. leb (size x) z) s (all_rings M)).0 i

      low : (s : ℕ) → In s (light size z (all_rings M)) → s < 2 ^ bonds M
      low s i = ((all_rings_are M s).0 (kept s i).0).even.within

  -- so there are no more rings up to that size
  rings_upto : (z : ℕ) → upto z (map size (all_rings M)) ≤ upto z (map size (all_rings N))
  rings_upto z =
      omega (
        arith,
        matched_length Becomes (fresh_keep (λ x. leb (size x) z) (all_rings_fresh M)) (rings_matched z),
        length_light size z (all_rings M),
        length_light size z (all_rings N),
      )

module _ {M N : Table} (r : Renumbered M N) (inside : InRange M) where
  -- there are as many rings of each size
  pub rings_of_renumbered : (z : ℕ) → occurs z (map size (all_rings M)) ≡ occurs z (map size (all_rings N))
  rings_of_renumbered =
      same-occurs (map size (all_rings M)) (map size (all_rings N))
      (λ z. le_antisymm (rings_upto r inside z) (rings_upto (renumbered_back r inside) (range_carried r inside) z))

  -- ---- the sizes in a smallest basis

  -- the rings are carried to the rings
  pub rings_carried : Carries size size (carried r) (all_rings M) (all_rings N)
  rings_carried =
      let back = renumbered_back r inside in
      record {
        additive = image_xor r.bonds_renamed;
        kernel = λ x s. image_none r.bonds_renamed x (span_even M (λ v i. ((all_rings_are M v).0 i).even) s).within;
        weight = λ x i. size_image r.bonds_renamed x ((all_rings_are M x).0 i).even.within;
        into = λ x i. (all_rings_are N (carried r x)).1 (ring_carried r inside ((all_rings_are M x).0 i));
        onto = λ y i.
            let h = (all_rings_are N y).0 i in (
              carried back y,
              (all_rings_are M (carried back y)).1 (ring_carried back (range_carried r inside) h),
              carried_here r inside y h.even.within,
            );
      }

  -- as many sets of each size are in the smallest basis as listed
  pub sizes_of_renumbered : (z : ℕ) → occurs z (map size (smallest_basis M)) ≡ occurs z (map size (smallest_basis N))
  unfolding smallest_basis
  sizes_of_renumbered =
      invariant_occurs size size (carried r) (all_rings M) (all_rings N) rings_carried
      (before-rising (all_rings_sorted M)) (before-rising (all_rings_sorted N))

  -- and in every other smallest basis
  pub smallest_of_renumbered : (bs cs : List ℕ) → SmallestBasis M bs → SmallestBasis N cs → (z : ℕ) → occurs z (map size bs) ≡ occurs z (map size cs)
  smallest_of_renumbered bs cs b c z =
      smallest_basis_sizes M bs (smallest_basis M) b (smallest_basis_theorem M) z
      ∙ sizes_of_renumbered z ∙ smallest_basis_sizes N (smallest_basis N) cs (smallest_basis_theorem N) c z
