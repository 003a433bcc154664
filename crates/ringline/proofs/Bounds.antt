-- How long a label can be: at most 13 bytes and 7 for each bond, since the sizes of rings lie between 1 and the number of bonds, and there
-- are no more assemblies than basis rings, and no more basis rings than bonds. Assumes nothing.
use mathlib.Core.Path.{◌≡◌, ap}
use mathlib.Core.List.Memᴰ
use mathlib.Core.List.{List, [], ◌∷◌, ◌++◌, map, Memᴰ as In}
use Prim.Native.Nat.{ℕ, zero, suc, ◌+◌, ◌*◌, ◌<◌, ◌≤◌}
use native.Mathlib.Nat.{mul-suc}
use native.Mathlib.Decide.{le_ind}
use native.Mathlib.Omega.{arith}
use lib.ListN.{length, length-append}
use Rattle.sets.specs.Bits.{size}
use Rattle.sets.proofs.Size.{size_none}
use Rattle.sets.proofs.Upto.{upto_all, size_upto_le}
use Rattle.definitions.specs.Search.{gather}
use Rattle.definitions.specs.Table.{Table, bonds, max_bonds}
use Rattle.definitions.specs.Ring.{Ring}
use Rattle.definitions.specs.AllRings.{all_rings}
use Rattle.definitions.specs.Smallest.{smallest_basis}
use Rattle.definitions.specs.Label.{field, bytes_of_all, occurs, histogram, frerejacque, assembly_pairs, label_of, frerejacque_tag, rings_tag, smallest_tag, assemblies_tag}
use Rattle.definitions.proofs.Sorting.{occurs_absent}
use Rattle.definitions.proofs.Rings.{all_rings_are}
use Rattle.definitions.proofs.Paths.{basis-at-most}
use Rattle.spans.proofs.Taking.{taking_in}
use Rattle.labels.specs.Sizes.{line}
use Rattle.fields.proofs.Bytes.{length-bytes_of_all}
use Rattle.fields.proofs.Tagging.{length-field}
use Rattle.labels.proofs.Counting.{line-none, line-at-most}
use Rattle.label.proofs.Fitting.{pairs_at-most}

-- texts of at most w bytes, of which only those from 1 to b say something, have w bytes for each of b at most
module _ (f : ℕ → List ℕ) (w b : ℕ) (short : (z : ℕ) → length (f z) ≤ w) (none : f 0 ≡ []) (over : (z : ℕ) → b < z → f z ≡ []) where
  rises : (n : ℕ) → length (gather (suc n) f) ≤ w * n
  unfolding gather
  rises zero = omega (arith, ap length none)
  rises (suc n) = omega (arith, length-append (gather (suc n) f) (f (suc n)), rises n, short (suc n), mul-suc w n)

  gather-most : (n : ℕ) → b ≤ n → length (gather (suc n) f) ≤ w * b
  unfolding gather
  gather-most n h =
      le_ind (λ m. length (gather (suc m) f) ≤ w * b) (rises b)
      (λ m (l : b ≤ m) ih. omega (arith, length-append (gather (suc m) f) (f (suc m)), ap length (over (suc m) (omega arith)))) n h

-- ---- the parts of a label

-- a list of sets whose sizes lie between 1 and b has a histogram of 1 + n bytes for each of b at most
histogram-most : (n b : ℕ) (sets : List ℕ) → b ≤ max_bonds → ((s : ℕ) → In s sets → (0 < size s) × (size s ≤ b)) → length (histogram n sets) ≤ (1 + n) * b
unfolding histogram line
histogram-most n b sets h sized =
    gather-most (λ z. line n z (occurs z (map size sets))) (1 + n) b (λ z. line-at-most n z (occurs z (map size sets))) (line-none n 0 (absent 0 (λ s i e. omega (arith, sized s i))))
    (λ z l. line-none n z (absent z (λ s i e. omega (arith, sized s i)))) max_bonds h
  where
    absent : (z : ℕ) → ((s : ℕ) → In s sets → size s ≡ z → ⊥) → occurs z (map size sets) ≡ 0
    absent z f = occurs_absent z (map size sets) (λ i. let r = Memᴰ.of_map size sets i in f r.0 r.1 r.2)

-- a ring has at least one bond, and no more than there are
ring-size : (M : Table) (s : ℕ) → Ring M s → (0 < size s) × (size s ≤ bonds M)
ring-size M s r = (
  let e : size s ≡ 0 → ⊥ = λ z. r.some (size_none s z) in omega arith,
  omega (arith, size_upto_le s (bonds M), ap size (upto_all s (bonds M) r.even.within)),
)

-- there are no more assemblies than bonds
assemblies-most : (M : Table) → length (assembly_pairs M) ≤ bonds M
assemblies-most M = omega (arith, pairs_at-most M, basis-at-most M)

-- the smallest basis is taken from all rings
taken : (M : Table) (s : ℕ) → In s (smallest_basis M) → In s (all_rings M)
unfolding smallest_basis
taken M = taking_in (all_rings M)

-- a label has at most 13 bytes and 7 for each bond
pub label_most : (M : Table) → bonds M ≤ max_bonds → length (label_of M) ≤ 13 + 7 * bonds M
unfolding label_of
label_most M h =
    let number = field frerejacque_tag (frerejacque M ∷ []) in
    let rings = field rings_tag (histogram 2 (all_rings M)) in
    let smallest = field smallest_tag (histogram 1 (smallest_basis M)) in
    let pairs = field assemblies_tag (bytes_of_all 2 (assembly_pairs M)) in
    omega (
      arith,
      length-append number (rings ++ (smallest ++ pairs)),
      length-append rings (smallest ++ pairs),
      length-append smallest pairs,
      length-field frerejacque_tag (frerejacque M ∷ []),
      length-field rings_tag (histogram 2 (all_rings M)),
      length-field smallest_tag (histogram 1 (smallest_basis M)),
      length-field assemblies_tag (bytes_of_all 2 (assembly_pairs M)),
      histogram-most 2 (bonds M) (all_rings M) h (λ s i. ring-size M s ((all_rings_are M s).0 i)),
      histogram-most 1 (bonds M) (smallest_basis M) h (λ s i. ring-size M s ((all_rings_are M s).0 (taken M s i))),
      length-bytes_of_all 2 (assembly_pairs M),
      assemblies-most M,
    )
