-- How many rings there are: an assembly of k basis rings has 2 ^ k - 1 sums that are not empty, and every ring is one of an assembly's.
-- Where each assembly has at most ten basis rings, each basis ring counts for at most 1023 / 10 of them. Assumes nothing.
use mathlib.Core.Path.{◌≡◌, refl, sym, ap, ◌∙◌}
use mathlib.Core.Logic.{◌≢◌}
use mathlib.Core.Bool.{true, false}
use mathlib.Core.List.Memᴰ
use mathlib.Core.List.Memᴰ.{head as here}
use mathlib.Core.List.Memᴰ.{tail as there}
use mathlib.Core.List.{List, [], ◌∷◌, ◌++◌, map, Memᴰ as In}
use Prim.Native.Nat.{ℕ, zero, suc, ◌+◌, ◌-◌, ◌*◌, ◌/◌, ◌^◌, ◌≤◌, ◌<◌}
use native.Mathlib.Nat.{pow-suc}
use native.Mathlib.Omega.{arith}
use lib.Bits.{bit_xor}
use lib.Dec.{leb}
use lib.ListN.{length, length-append, length-map}
use borrow.Author.Tests.{leb-true}
use Rattle.definitions.specs.Search.{every, listed, gather, total}
use Rattle.definitions.specs.Table.{Table, max_bonds}
use Rattle.definitions.specs.Ring.{Ring}
use Rattle.definitions.specs.Basis.{basis_rings}
use Rattle.definitions.specs.Assembly.{assembly_count, rings_in, max_assembly, tangled?}
use Rattle.definitions.specs.AllRings.{all_rings}
use Rattle.definitions.proofs.Tests.{every-at}
use Rattle.definitions.proofs.Lists.{fresh_length, listed_ext, gather_in, total-append, length-gather}
use Rattle.definitions.proofs.Refusals.{Valid, tells_tangled}
use Rattle.definitions.proofs.Rings.{all_rings_are, all_rings_fresh}
use Rattle.definitions.proofs.Paths.{basis-at-most}
use Rattle.definitions.proofs.Linking.{rings-total}
use Rattle.spans.proofs.Spans.{xor_cancel, Span, none, skip, add}
use Rattle.spans.proofs.Choice.{sum→span}
use Rattle.cycles.proofs.Assemblies.{assembly_evens}
use Rattle.cycles.proofs.Groups.{ring_in_group, group-even}

-- all sums of the sets of a list
sums : List ℕ → List ℕ
sums [] = 0 ∷ []
sums (v ∷ vs) = sums vs ++ map (bit_xor v) (sums vs)

-- the sums that take some set
some_sums : List ℕ → List ℕ
some_sums [] = []
some_sums (v ∷ vs) = some_sums vs ++ map (bit_xor v) (sums vs)

-- there are 2 ^ k sums of k sets
length-sums : (vs : List ℕ) → length (sums vs) ≡ 2 ^ length vs
unfolding sums
length-sums [] = refl
length-sums (v ∷ vs) =
    length-append (sums vs) (map (bit_xor v) (sums vs)) ∙ omega (arith, length-map (sums vs) (bit_xor v), length-sums vs, pow-suc 2 (length vs))

-- and all but one of them take some
length_some_sums : (vs : List ℕ) → length (some_sums vs) ≡ 2 ^ length vs - 1
unfolding some_sums
length_some_sums [] = refl
length_some_sums (v ∷ vs) =
    length-append (some_sums vs) (map (bit_xor v) (sums vs))
    ∙ omega (arith, length-map (sums vs) (bit_xor v), length-sums vs, length_some_sums vs, pow-suc 2 (length vs))

-- x is v with what x and v sum to
in_shifted : (v : ℕ) {x y : ℕ} {l : List ℕ} → bit_xor v x ≡ y → In y l → In x (map (bit_xor v) l)
in_shifted v {x} e (here i) = here (sym (xor_cancel v x) ∙ ap (bit_xor v) (e ∙ i))
in_shifted v e (there i) = there (in_shifted v e i)

-- every sum is among them
span_in_sums : {vs : List ℕ} {x : ℕ} → Span vs x → In x (sums vs)
unfolding sums
span_in_sums (none e) = here e
span_in_sums (skip {vs = vs} s) = Memᴰ.append_left _ (span_in_sums s)
span_in_sums (add {v = v} {vs = vs} s) = Memᴰ.append_right (sums vs) (in_shifted v refl (span_in_sums s))

-- every sum that is not empty takes some
span_in_some_sums : {vs : List ℕ} {x : ℕ} → Span vs x → x ≢ 0 → In x (some_sums vs)
unfolding some_sums
span_in_some_sums (none e) z = absurd (z e)
span_in_some_sums (skip s) z = Memᴰ.append_left _ (span_in_some_sums s z)
span_in_some_sums (add {v = v} {vs = vs} s) z = Memᴰ.append_right (some_sums vs) (in_shifted v refl (span_in_sums s))

-- ---- every ring is such a sum of one assembly

module _ {M : Table} (valid : Valid M) where
  -- there are at most as many rings as sums that are not empty, in all assemblies
  pub all_rings_bound : length (all_rings M) ≤ total (listed (assembly_count (basis_rings M)) (λ a. true) (λ a. 2 ^ length (rings_in (basis_rings M) a) - 1))
  all_rings_bound =
      let each : (a : ℕ) → List ℕ = λ a. some_sums (rings_in (basis_rings M) a) in
      let n : ℕ = assembly_count (basis_rings M) in
      let long : length (gather n each) ≡ total (listed n (λ a. true) (λ a. 2 ^ length (rings_in (basis_rings M) a) - 1))
      = length-gather n each
      ∙ ap total (listed_ext n (λ a. true) (λ a. true) (λ a. length (each a)) _ (λ a l. refl) (λ a l t. length_some_sums (rings_in (basis_rings M) a))) in
      let short : length (all_rings M) ≤ length (gather n each)
      = fresh_length (all_rings_fresh M) (λ s i. (gather_in n each s).1 (found s ((all_rings_are M s).0 i))) in
      omega arith
    where
      found : (s : ℕ) → Ring M s → (a : ℕ) × (a < assembly_count (basis_rings M)) × In s (some_sums (rings_in (basis_rings M) a))
      found s r =
          let (a, l, i, g) = ring_in_group valid r in
          let (e, some) = group-even valid g in
          (a, l, span_in_some_sums (sum→span ((assembly_evens valid a s).0 e)) some)

-- ---- the number for tables that are not tangled

-- the most rings that a table can have whose assemblies have at most `max_assembly` basis rings: k basis rings have 2 ^ k - 1 sums that are
-- not empty, which is most for each of them where an assembly has as many as it may, and there are no more basis rings than bonds
abbrev pub most_rings : ℕ
most_rings = (2 ^ max_assembly - 1) * max_bonds / max_assembly

-- that is this many
pub most-rings : most_rings ≡ 6547
most-rings = refl

-- the last term apart
pub total-last : (n : ℕ) (g : ℕ → ℕ) → total (listed (suc n) (λ a. true) g) ≡ total (listed n (λ a. true) g) + g n
unfolding listed total
total-last n g = total-append (listed n (λ a. true) g) (g n ∷ []) ∙ omega arith

-- a share that holds of each term holds of the total
pub total_share : (c d n : ℕ) (g h : ℕ → ℕ) → ((a : ℕ) → a < n → g a * c ≤ d * h a) → total (listed n (λ a. true) g) * c ≤ d * total (listed n (λ a. true) h)
unfolding listed total
total_share c d zero g h f = omega arith
total_share c d (suc n) g h f =
    rw (total-last n g, total-last n h) (omega (arith, total_share c d n g h (λ a l. f a (omega arith)), f n (omega arith)))

-- an assembly that is not tangled has at most 1023 / 10 sums for each basis ring
pub sums_share : (k : ℕ) → k ≤ max_assembly → (2 ^ k - 1) * max_assembly ≤ (2 ^ max_assembly - 1) * k
unfolding every
sums_share k l =
    leb-true ((2 ^ k - 1) * max_assembly) ((2 ^ max_assembly - 1) * k)
    (every-at (max_assembly + 1) (λ k. leb ((2 ^ k - 1) * max_assembly) ((2 ^ max_assembly - 1) * k)) refl k (omega arith))

-- so a table that is not tangled has no more rings than that
pub all_rings-few : {M : Table} → Valid M → tangled? M ≡ false → length (all_rings M) ≤ most_rings
all_rings-few {M} valid t =
    let rs = basis_rings M in
    let small = (tells_tangled M).no_says t in
    omega (
      arith,
      all_rings_bound valid,
      total_share max_assembly (2 ^ max_assembly - 1) (assembly_count rs) (λ a. 2 ^ length (rings_in rs a) - 1) (λ a. length (rings_in rs a)) (λ a l. sums_share (length (rings_in rs a)) (small a l)),
      rings-total rs,
      basis-at-most M,
      valid.few-bonds,
    )
