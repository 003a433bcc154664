-- Demand 2: what the entries give for an accepted table is exactly what the definitions say, nothing else is, and it is written whole.
-- Assumes nothing.
use mathlib.Core.Path.{◌≡◌, refl, sym, ap, subst, ◌∙◌}
use mathlib.Core.Bool.{false, true≢false}
use mathlib.Core.List.Memᴰ.{head as here}
use mathlib.Core.List.Memᴰ.{tail as there}
use mathlib.Core.List.{List, [], ◌∷◌, Memᴰ as In}
use Prim.Native.Nat.{ℕ, ◌*◌, ◌^◌, ◌<◌}
use native.Mathlib.Nat.{le_trans}
use native.Mathlib.Omega.{arith}
use borrow.Author.Tests.{eqb-true, eqb-false, ltb-true, ltb-false}
use lib.Count.{ones, ones_in}
use lib.Dec.{eqb, ltb}
use lib.Pow.{pow_mono}
use lib.ListN.{length, get_or}
use Rattle.sets.specs.Lists.{words}
use Rattle.sets.proofs.Lists.{in_words-length, sets-in_words}
use Rattle.definitions.specs.Search.{every, some?}
use Rattle.definitions.specs.Table.{Table, seen_before?, first_of, refusal}
use Rattle.definitions.specs.Ring.{Even}
use Rattle.definitions.specs.Reduced.{reduced_basis}
use Rattle.definitions.specs.Basis.{closure?, basis_rings}
use Rattle.definitions.specs.Assembly.{Linked, assemblies}
use Rattle.definitions.specs.AllRings.{before, all_rings}
use Rattle.definitions.specs.Smallest.{smallest_basis}
use Rattle.definitions.proofs.Tests.{by}
use Rattle.definitions.proofs.Lists.{sorted_more, those-rising}
use Rattle.definitions.proofs.Refusals.{Valid, accepted}
use Rattle.definitions.proofs.Linking.{Numbering, linked_test, length-assemblies, number_lower, assemblies_unique}
use Rattle.definitions.proofs.Rings.{all_rings_are, all_rings_sorted, all_rings_unique}
use Rattle.definitions.proofs.Starred.{starred_examples, basis, s3, s4}
use Rattle.cycles.proofs.BasisList.{closure_bonds, closures_are, basis-rings-length, basis-ring-at, basis-ring_in, basis-rings_unique}
use Rattle.cycles.proofs.Smallest.{smallest_basis_theorem, smallest_basis_sorted, smallest_basis_reads, smallest_basis_unique}
use Rattle.sidecar.proofs.Fitting.{reduced-sets_fit}
use Rattle.foliocrane.specs.Exactly.{Exactly, Whole}

-- ---- what the entries give

-- what the entries write for an accepted table is exactly what the definitions say
pub answers_are_exact : (M : Table) → refusal M ≡ 0 → Exactly M (basis_rings M) (assemblies M) (all_rings M) (smallest_basis M)
unfolding assemblies
answers_are_exact M e =
    let valid : Valid M = (accepted M).0 e in
    record {
      closures = closure_bonds M;
      closure-bonds = closures_are valid;
      closure_order = those-rising _ (closure? M);
      basis-length = omega (arith, basis-rings-length M);
      basis-rings = basis-ring-at valid;
      assemblies-length = length-assemblies (basis_rings M);
      assemblies = linked_test (basis_rings M);
      assemblies_order = λ i n l h. let (j, a, e) = number_lower (basis_rings M) i n l h in (j, omega arith, e);
      all_rings = all_rings_are M;
      all_rings_order = all_rings_sorted M;
      smallest_rings = smallest_basis_reads M;
      smallest_order = smallest_basis_sorted M;
      smallest_basis = smallest_basis_theorem M;
    }

-- ---- nothing else

-- what is exactly so is numbered as `Numbering` says
numbered : {M : Table} {bs ns rs ss : List ℕ} → Exactly M bs ns rs ss → Numbering bs ns
numbered x =
    record {
      counted = x.assemblies-length;
      together = x.assemblies;
      lower = λ i n l h. let (j, a, e) = x.assemblies_order i n l h in (j, omega arith, e);
    }

-- what is exactly so of an accepted table is what the entries give
pub exactly_those : {M : Table} {bs ns rs ss : List ℕ} → refusal M ≡ 0 → Exactly M bs ns rs ss
    → (bs ≡ basis_rings M) × (ns ≡ assemblies M) × (rs ≡ all_rings M) × (ss ≡ smallest_basis M)
unfolding assemblies
exactly_those {M} {bs} {ns} {rs} {ss} e x = (
  the_basis,
  assemblies_unique (subst (λ l. Numbering l ns) the_basis (numbered x)),
  all_rings_unique M rs x.all_rings_order x.all_rings,
  smallest_basis_unique M ss x.smallest_order x.smallest_rings,
)
  where
    the_basis : bs ≡ basis_rings M
    the_basis =
        basis-rings_unique ((accepted M).0 e) x.closures bs x.closure_order x.closure-bonds (omega (arith, x.basis-length)) x.basis-rings

-- so of an accepted table one answer only is exact, list by list
pub exactly_one : {M : Table} {bs ns rs ss bs' ns' rs' ss' : List ℕ} → refusal M ≡ 0 → Exactly M bs ns rs ss → Exactly M bs' ns' rs' ss'
    → (bs ≡ bs') × (ns ≡ ns') × (rs ≡ rs') × (ss ≡ ss')
exactly_one e x y =
    let (b, n, r, s) = exactly_those e x in
    let (b', n', r', s') = exactly_those e y in
    (b ∙ sym b', n ∙ sym n', r ∙ sym r', s ∙ sym s')

-- a basis ring that is linked with none before it, the first of its assembly, has a number above all before it
pub first_of_its_assembly : {M : Table} {bs ns rs ss : List ℕ} → Exactly M bs ns rs ss
    → (i : ℕ) → i < length bs → ((j : ℕ) → j < i → ¬ Linked bs i j) → (j : ℕ) → j < i → get_or ns j 0 < get_or ns i 0
first_of_its_assembly {bs = bs} {ns} x i l none j h =
    by (ltb (get_or ns i 0) (get_or ns j 0))
    (λ t. let (k, a, e) = x.assemblies_order j (get_or ns i 0) (omega arith) (ltb-true (get_or ns i 0) (get_or ns j 0) t) in
    absurd (none k (omega arith) ((x.assemblies i k l (omega arith)).0 (sym e))))
    (λ t. by (eqb (get_or ns i 0) (get_or ns j 0))
    (λ u. absurd (none j h ((x.assemblies i j l (omega arith)).0 (eqb-true (get_or ns i 0) (get_or ns j 0) u))))
    (λ u. omega (arith, ltb-false (get_or ns i 0) (get_or ns j 0) t, eqb-false (get_or ns i 0) (get_or ns j 0) u)))

-- ---- answers that are not exact, whatever their other lists are

-- S3 is accepted
accepts_triangle : refusal s3 ≡ 0
unfolding refusal first_of seen_before? every some?
accepts_triangle = refl

-- S3 has one basis ring
one-ring : basis_rings s3 ≡ 7 ∷ []
one-ring = starred_examples (basis s3 (7 ∷ [])) (there (there (there (there (there (there (there (here refl))))))))

-- the ring of S3 does not stand twice among its basis rings
pub ring-listed_twice : {ns rs ss : List ℕ} → Exactly s3 (7 ∷ 7 ∷ []) ns rs ss → ⊥
ring-listed_twice x = omega (arith, ap length ((exactly_those accepts_triangle x).0 ∙ one-ring))

-- its assembly is not called 5
pub assembly_called_five : {rs ss : List ℕ} → Exactly s3 (7 ∷ []) (5 ∷ []) rs ss → ⊥
assembly_called_five x = let (j, l, e) = x.assemblies_order 0 0 (omega arith) (omega arith) in omega arith

-- so neither does it stand twice in an assembly called 5
pub ring_twice_in_five : Exactly s3 (7 ∷ 7 ∷ []) (5 ∷ 5 ∷ []) (7 ∷ []) (7 ∷ []) → ⊥
ring_twice_in_five = ring-listed_twice

-- of the rings of S4 28 does not stand before 19
falls : before 28 19 ≡ false
unfolding before ones ones_in
falls = refl

-- so its smallest basis is not these two in that order
pub smallest_other-way_round : {bs ns rs : List ℕ} → Exactly s4 bs ns rs (28 ∷ 19 ∷ []) → ⊥
smallest_other-way_round x = elim x.smallest_order [ sorted_more h s ↦ true≢false (sym (h 19 (here refl)) ∙ falls) ]

-- ---- written whole

-- a list of sets that fit their words is written whole
whole : (sets : List ℕ) → ((s : ℕ) → In s sets → s < 2 ^ (words * 64)) → Whole sets
whole sets h = record { counted = in_words-length sets; read_back = sets-in_words sets h }

-- of an accepted table every list of sets is written whole
pub answers_are_whole : (M : Table) → refusal M ≡ 0
    → Whole (basis_rings M) × Whole (all_rings M) × Whole (smallest_basis M) × Whole (reduced_basis M)
answers_are_whole M e = (
  whole (basis_rings M) (λ s i. fits (basis-ring_in valid s i).even),
  whole (all_rings M) (λ s i. fits ((all_rings_are M s).0 i).even),
  whole (smallest_basis M) (λ s i. fits ((smallest_basis_theorem M).basis.rings s i).even),
  whole (reduced_basis M) (λ s i. reduced-sets_fit M e s i),
)
  where
    valid : Valid M
    valid = (accepted M).0 e

    fits : {s : ℕ} → Even M s → s < 2 ^ (words * 64)
    fits h = le_trans h.within (pow_mono valid.few-bonds)
