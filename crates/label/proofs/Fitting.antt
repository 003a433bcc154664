-- No number of the label is cut short by the bytes that it gets, for a table that is accepted. Assumes nothing.
use mathlib.Core.Path.{◌≡◌, ap, ap₂}
use mathlib.Core.List.{List, [], ◌∷◌, map}
use Prim.Native.Nat.{ℕ, zero, suc, ◌+◌, ◌*◌, ◌/◌, ◌%◌, ◌^◌, ◌<◌, ◌≤◌}
use native.Mathlib.Nat.{le_refl, suc-mul}
use native.Mathlib.Omega.{arith}
use lib.Dec.{eqb, ltb}
use lib.ListN.{length, get_or, length-append, length-map}
use Rattle.sets.specs.Bits.{has, size}
use Rattle.sets.proofs.Laws.{below, member_below}
use Rattle.sets.proofs.Upto.{upto_all, size_upto_le}
use Rattle.definitions.specs.Search.{gather, union_of}
use Rattle.definitions.specs.Table.{Table, bonds, all_sizes, refusal}
use Rattle.definitions.specs.Basis.{basis_rings}
use Rattle.definitions.specs.Assembly.{assemblies_of, assembly_count, rings_in}
use Rattle.definitions.specs.AllRings.{all_rings}
use Rattle.definitions.specs.Smallest.{smallest_basis}
use Rattle.definitions.specs.Label.{bytes_of, bytes_of_all, occurs, histogram, frerejacque, pair_of, assembly_pairs}
use Rattle.definitions.specs.Answer.{refusal_of_rings}
use Rattle.definitions.proofs.Tests.{not_passed}
use Rattle.definitions.proofs.Lists.{count-le, get_or_in, has-union_of}
use Rattle.definitions.proofs.Linking.{first?, assembly_count_lem, rings_in_lem, length-rings_in}
use Rattle.definitions.proofs.Sorting.{length-sort}
use Rattle.definitions.proofs.Paths.{few-basis_rings}
use Rattle.definitions.proofs.Fragments.{frerejacque_is_basis}
use Rattle.definitions.proofs.Refusals.{accepted, rings-accepted}
use Rattle.cycles.proofs.BasisList.{basis-ring_in}
use Rattle.cycles.proofs.Smallest.{smallest_basis-length}
use Rattle.cycles.proofs.Bound.{all_rings-few}
use Rattle.ordering.proofs.Sizing.{occurs-le}
use Rattle.fields.proofs.Bytes.{length-bytes_of_all}
use Rattle.labels.specs.Sizes.{line}
use Rattle.labels.proofs.Counting.{line-at-most}

-- ---- the numbers of the label

-- the Frerejacque number is no more than one byte can say
pub frerejacque-fits : (M : Table) → refusal M ≡ 0 → frerejacque M < 256
frerejacque-fits M e = omega (arith, frerejacque_is_basis ((accepted M).0 e), few-basis_rings M e)

-- no size has more rings than two bytes can say
pub ring_counts_fit : (M : Table) → refusal_of_rings M ≡ 0 → (z : ℕ) → occurs z (map size (all_rings M)) < 256 ^ 2
ring_counts_fit M e z =
    let a = (rings-accepted M).0 e in
    omega (arith, occurs-le z (map size (all_rings M)), length-map (all_rings M) size, all_rings-few ((accepted M).0 a.0) a.1)

-- none has more smallest rings than one byte can say
pub smallest_counts_fit : (M : Table) → refusal M ≡ 0 → (z : ℕ) → occurs z (map size (smallest_basis M)) < 256 ^ 1
smallest_counts_fit M e z =
    omega (arith, occurs-le z (map size (smallest_basis M)), length-map (smallest_basis M) size, smallest_basis-length ((accepted M).0 e), few-basis_rings M e)

-- no assembly has more basis rings than one byte can say
pub assembly_rings_fit : (M : Table) → refusal M ≡ 0 → (a : ℕ) → length (rings_in (basis_rings M) a) < 256
assembly_rings_fit M e a =
    let rs = basis_rings M in omega (arith, length-rings_in rs a, count-le (λ i. eqb (get_or (assemblies_of rs) i 0) a) (length rs), few-basis_rings M e)

-- the bonds of an assembly are bonds of the table
assembly_bonds_below : (M : Table) → refusal M ≡ 0 → (a : ℕ) → union_of (rings_in (basis_rings M) a) < 2 ^ bonds M
assembly_bonds_below M e a =
    below (union_of (rings_in (basis_rings M) a)) (bonds M)
    (λ k l. not_passed (has (union_of (rings_in (basis_rings M) a)) k)
    (λ t. let (s, i, h) = (has-union_of (rings_in (basis_rings M) a) k).0 t in
    let (j, b, q, r) = (rings_in_lem (basis_rings M) a s).0 i in
    let ring = basis-ring_in ((accepted M).0 e) (get_or (basis_rings M) j 0) (get_or_in (basis_rings M) j 0 b) in
    omega (arith, member_below (bonds M) k ring.even.within (rw (← r) at h))))

-- and they are no more than one byte can say
pub assembly_bonds_fit : (M : Table) → refusal M ≡ 0 → (a : ℕ) → size (union_of (rings_in (basis_rings M) a)) < 256
assembly_bonds_fit M e a =
    let u = union_of (rings_in (basis_rings M) a) in
    omega (arith, size_upto_le u (bonds M), ap size (upto_all u (bonds M) (assembly_bonds_below M e a)), ((accepted M).0 e).few-bonds)

-- so the two bytes of its pair are its rings and its bonds
pub pair_bytes : (M : Table) → refusal M ≡ 0 → (a : ℕ)
    → let rings = rings_in (basis_rings M) a in bytes_of 2 (pair_of rings) ≡ length rings ∷ size (union_of rings) ∷ []
unfolding bytes_of pair_of
pair_bytes M e a =
    let rings = rings_in (basis_rings M) a in
    let high : (length rings * 256 + size (union_of rings)) / 256 % 256 ≡ length rings = omega (arith, assembly_rings_fit M e a, assembly_bonds_fit M e a) in
    let low : (length rings * 256 + size (union_of rings)) % 256 ≡ size (union_of rings) = omega (arith, assembly_rings_fit M e a, assembly_bonds_fit M e a) in
    ap₂ (λ (x y : ℕ). x ∷ y ∷ []) high low

-- ---- the lengths of the fields

-- lists of at most c each
gather-at-most : (c n : ℕ) (f : ℕ → List ℕ) → ((k : ℕ) → length (f k) ≤ c) → length (gather n f) ≤ n * c
unfolding gather
gather-at-most c zero f h = omega arith
gather-at-most c (suc n) f h = omega (arith, length-append (gather n f) (f n), gather-at-most c n f h, h n, suc-mul n c)

-- a histogram takes at most a line for each size
histogram-at-most : (n : ℕ) (sets : List ℕ) → length (histogram n sets) ≤ all_sizes * (1 + n)
unfolding histogram line
histogram-at-most n sets = gather-at-most (1 + n) all_sizes (λ z. line n z (occurs z (map size sets))) (λ z. line-at-most n z (occurs z (map size sets)))

-- a histogram takes no more bytes than a field can say
pub histograms_fit : (sets : List ℕ) → (length (histogram 2 sets) < 256 ^ 2) × (length (histogram 1 sets) < 256 ^ 2)
histograms_fit sets = (omega (arith, histogram-at-most 2 sets), omega (arith, histogram-at-most 1 sets))

-- there are no more pairs than basis rings
pub pairs_at-most : (M : Table) → length (assembly_pairs M) ≤ length (basis_rings M)
unfolding assembly_pairs
pairs_at-most M =
    let rs = basis_rings M in
    omega (
      arith,
      length-sort ltb (gather (assembly_count rs) (λ a. pair_of (rings_in rs a) ∷ [])),
      gather-at-most 1 (assembly_count rs) (λ a. pair_of (rings_in rs a) ∷ []) (λ a. le_refl 1),
      assembly_count_lem rs,
      count-le (first? rs) (length rs),
    )

-- nor do they take more bytes than a field can say
pub pairs_fit : (M : Table) → refusal M ≡ 0 → length (bytes_of_all 2 (assembly_pairs M)) < 256 ^ 2
pairs_fit M e = omega (arith, length-bytes_of_all 2 (assembly_pairs M), pairs_at-most M, few-basis_rings M e)
