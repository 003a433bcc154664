-- The reduced basis of 000: the basis rings of an assembly, shortened pair by pair. The sum X of an earlier set J and a later set I
-- changes places with I where it has fewer bonds; what is X then replaces J where it has fewer bonds than J. Sweeps go over all pairs,
-- J in the outer loop, until one leaves the list as it was. Assumes nothing.
use Rattle.std.specs.Prelude.{Bool, true, false, ◌&&◌, cond, List, [], ◌∷◌, map, ℕ, zero, suc, ◌+◌, length, get_or, set, eqb, ltb}
use Rattle.std.specs.Int.Bits.{bit_xor}
use Rattle.sets.specs.Bits.{size}
use Rattle.definitions.specs.Search.{total, gather}
use Rattle.definitions.specs.Table.{Table}
use Rattle.definitions.specs.Basis.{basis_rings}
use Rattle.definitions.specs.Assembly.{assembly_count, rings_in}

-- the exchange at the pair (J, I) of a list of sets
unfoldable pub exchange : List ℕ → ℕ → ℕ → List ℕ
exchange l J I =
    let j = get_or l J 0 in
    let i = get_or l I 0 in
    let x = bit_xor j i in
    let swap = ltb (size x) (size i) in
    let x' = cond swap i x in
    set (set l I (cond swap x i)) J (cond (ltb (size x') (size j)) x' j)

-- the pairs (J, I), (J, I + 1), .., n of them
unfoldable pub along : ℕ → ℕ → ℕ → List ℕ → List ℕ
along J I zero l = l
along J I (suc n) l = along J (I + 1) n (exchange l J I)

-- the pairs of J, of J + 1, .., n of them: the first has n - 1 after it
unfoldable pub across : ℕ → ℕ → List ℕ → List ℕ
across J zero l = l
across J (suc n) l = across (J + 1) n (along J (J + 1) n l)

-- one sweep over all pairs
abbrev pub sweep : List ℕ → List ℕ
sweep l = across 0 (length l) l

-- the two lists are the same
unfoldable pub same? : List ℕ → List ℕ → Bool
same? [] [] = true
same? [] (y ∷ m) = false
same? (x ∷ l) [] = false
same? (x ∷ l) (y ∷ m) = eqb x y && same? l m

-- sweeps until one changes nothing, n at most
unfoldable pub sweeps : ℕ → List ℕ → List ℕ
sweeps zero l = l
sweeps (suc n) l = let l' = sweep l in elim (same? l' l) [ true ↦ l | false ↦ sweeps n l' ]

-- the total size: each sweep that changes something lowers it, so that many sweeps are enough
unfoldable pub weight : List ℕ → ℕ
weight l = total (map size l)

-- a list of sets, swept until nothing changes
unfoldable pub reduced : List ℕ → List ℕ
reduced l = sweeps (weight l) l

-- the reduced sets of a table, assembly after assembly
unfoldable pub reduced_basis : Table → List ℕ
reduced_basis M = let rs = basis_rings M in gather (assembly_count rs) (λ a. reduced (rings_in rs a))
