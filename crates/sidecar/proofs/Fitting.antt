-- No set of the sidecar is cut short by the bytes that it gets, nor its length by those of a field, for a table that is accepted.
-- Assumes nothing.
use mathlib.Core.Path.{◌≡◌, refl}
use mathlib.Core.Bool.{Bool, true, false, cond}
use mathlib.Core.List.{List, [], ◌∷◌, Memᴰ as In}
use Prim.Native.Nat.{ℕ, zero, suc, ◌+◌, ◌^◌, ◌<◌}
use native.Mathlib.Nat.{le_trans}
use native.Mathlib.Omega.{arith}
use lib.Bits.{bit_xor, xor_lt}
use lib.Dec.{ltb}
use lib.ListN.{length, get_or, set, get_or-eq_default}
use lib.Pow.{pow_pos, pow_mono}
use borrow.Author.Tests.{ltb-true, ltb-false}
use Rattle.sets.specs.Bits.{size}
use Rattle.definitions.specs.Table.{Table, bonds, refusal}
use Rattle.definitions.specs.Basis.{basis_rings}
use Rattle.definitions.specs.Assembly.{assembly_count, rings_in}
use Rattle.definitions.specs.Reduced.{exchange, along, across, sweep, same?, sweeps, weight, reduced, reduced_basis}
use Rattle.definitions.specs.Label.{bytes_of_all, set_bytes}
use Rattle.definitions.proofs.Tests.{by}
use Rattle.definitions.proofs.Lists.{in_get_or, get_or_in, gather_in}
use Rattle.definitions.proofs.Linking.{rings_in_lem}
use Rattle.definitions.proofs.Paths.{few-basis_rings}
use Rattle.definitions.proofs.Refusals.{accepted}
use Rattle.cycles.proofs.BasisList.{basis-ring_in}
use Rattle.reduced.proofs.Reducing.{reduced-counted}
use Rattle.fields.proofs.Bytes.{length-bytes_of_all}

-- the sets take no more bytes than a field can say
pub sidecar_fits : (M : Table) → refusal M ≡ 0 → length (bytes_of_all set_bytes (reduced_basis M)) < 256 ^ 2
sidecar_fits M e = omega (arith, length-bytes_of_all set_bytes (reduced_basis M), few-basis_rings M e, reduced-counted M {n = length (basis_rings M)} refl)

-- ---- the sets of the sidecar

-- each set of a list has its bonds below m
abbrev Bounded : ℕ → List ℕ → Type 0
Bounded m l = (k : ℕ) → get_or l k 0 < 2 ^ m

-- one set in the place of another
bounded_set : (m : ℕ) (l : List ℕ) (i v : ℕ) → Bounded m l → v < 2 ^ m → Bounded m (set l i v)
bounded_set m [] i v b h k = b k
bounded_set m (y ∷ l) zero v b h zero = h
bounded_set m (y ∷ l) zero v b h (suc k) = b (suc k)
bounded_set m (y ∷ l) (suc i) v b h zero = b zero
bounded_set m (y ∷ l) (suc i) v b h (suc k) = bounded_set m l i v (λ j. b (suc j)) h k

-- one set or the other
bounded_cond : (m : ℕ) (t : Bool) {x y : ℕ} → x < 2 ^ m → y < 2 ^ m → cond t x y < 2 ^ m
bounded_cond m true h g = h
bounded_cond m false h g = g

-- an exchange keeps to these bonds
bounded_exchange : (m : ℕ) (l : List ℕ) (J I : ℕ) → Bounded m l → Bounded m (exchange l J I)
unfolding exchange
bounded_exchange m l J I b =
    let j : ℕ = get_or l J 0 in
    let i : ℕ = get_or l I 0 in
    let x : ℕ = bit_xor j i in
    let swap : Bool = ltb (size x) (size i) in
    let left : ℕ = cond swap i x in
    let h : x < 2 ^ m = xor_lt m j i (b J) (b I) in
    bounded_set m (set l I (cond swap x i)) J (cond (ltb (size left) (size j)) left j)
    (bounded_set m l I (cond swap x i) b (bounded_cond m swap h (b I)))
    (bounded_cond m (ltb (size left) (size j)) (bounded_cond m swap (b I) h) (b J))

-- so do the pairs of a set
bounded_along : (m J I n : ℕ) (l : List ℕ) → Bounded m l → Bounded m (along J I n l)
unfolding along
bounded_along m J I zero l b = b
bounded_along m J I (suc n) l b = bounded_along m J (I + 1) n (exchange l J I) (bounded_exchange m l J I b)

-- a sweep
bounded_across : (m J n : ℕ) (l : List ℕ) → Bounded m l → Bounded m (across J n l)
unfolding across
bounded_across m J zero l b = b
bounded_across m J (suc n) l b = bounded_across m (J + 1) n (along J (J + 1) n l) (bounded_along m J (J + 1) n l b)

-- and all sweeps
bounded_sweeps : (m n : ℕ) (l : List ℕ) → Bounded m l → Bounded m (sweeps n l)
unfolding sweeps
bounded_sweeps m zero l b = b
bounded_sweeps m (suc n) l b =
    by (same? (sweep l) l)
    (λ t. rw (t, sweeps) b)
    (λ t. rw (t, sweeps) (bounded_sweeps m n (sweep l) (bounded_across m 0 (length l) l b)))

-- no reduced set has a bond past the table's
pub reduced-sets_fit : (M : Table) → refusal M ≡ 0 → (s : ℕ) → In s (reduced_basis M) → s < 256 ^ set_bytes
unfolding reduced_basis reduced
reduced-sets_fit M e s i =
    let rs = basis_rings M in
    let valid = (accepted M).0 e in
    let (a, l, j) = (gather_in (assembly_count rs) (λ a. reduced (rings_in rs a)) s).0 i in
    let (k, q, r) = in_get_or 0 j in
    le_trans (rw r at (bounded_sweeps (bonds M) (weight (rings_in rs a)) (rings_in rs a) (within a) k)) (pow_mono valid.few-bonds)
  where
    within : (a : ℕ) → Bounded (bonds M) (rings_in (basis_rings M) a)
    within a k =
        by (ltb k (length (rings_in (basis_rings M) a)))
        (λ t. let (j, b, q, r) = (rings_in_lem (basis_rings M) a (get_or (rings_in (basis_rings M) a) k 0)).0 (get_or_in (rings_in (basis_rings M) a) k 0 (ltb-true k _ t)) in
        rw (← r) (basis-ring_in ((accepted M).0 e) (get_or (basis_rings M) j 0) (get_or_in (basis_rings M) j 0 b)).even.within)
        (λ t. rw (get_or-eq_default (rings_in (basis_rings M) a) 0 (ltb-false k _ t)) (pow_pos (bonds M)))
