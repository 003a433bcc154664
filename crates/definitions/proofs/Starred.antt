-- The starred examples S1 to S10, every value that is given for them, as one list: a test that is computed over the list, and the one
-- theorem that turns it into an equation for each claim. Assumes nothing.
use mathlib.Core.Path.{◌≡◌, refl, sym, ap, ◌∙◌}
use mathlib.Core.Bool.{Bool, true, ◌&&◌, and-eq-true_iff}
use mathlib.Core.List.Memᴰ.{head as here}
use mathlib.Core.List.Memᴰ.{tail as there}
use mathlib.Core.List.{List, [], ◌∷◌, Memᴰ as In}
use Prim.Native.Nat.{ℕ}
use lib.Count.{ones, ones_in}
use Rattle.sets.specs.Bits.{has, with, without}
use Rattle.definitions.specs.Search.{every, some?, count, listed, set_of, gather, keep, total, union_of, insert, sort}
use Rattle.definitions.specs.Table.{Table, table, seen_before?, first_of, refusal}
use Rattle.definitions.specs.Ring.{degree, even?, ring?}
use Rattle.definitions.specs.Basis.{merge, classes, ends_below, fragments, closure?, forest, basis_ring, basis_rings}
use Rattle.definitions.specs.Fragment.{fragment_of, fragment_count}
use Rattle.definitions.specs.Assembly.{sharing, leaders, rank, assemblies_of, assembly_count, rings_in, assemblies, tangled?}
use Rattle.definitions.specs.AllRings.{before, all_rings}
use Rattle.definitions.specs.Smallest.{chosen, sum?, taking, smallest_basis}
use Rattle.definitions.specs.Reduced.{exchange, along, across, same?, sweeps, weight, reduced, reduced_basis}
use Rattle.definitions.specs.Label.{bytes_of, bytes_of_all, field, occurs, histogram, frerejacque, pair_of, assembly_pairs, label_of}
use Rattle.definitions.specs.Answer.{refusal_of_rings}
use Rattle.definitions.proofs.Lists.{same_lists}

-- what is claimed of a table
pub data Claim : Type 0 where
  basis all smallest reduces together labelled : Table → List ℕ → Claim
  refused : Table → ℕ → Claim
  accepted : Table → Claim

-- the list that a claim is about, and the list that it says
abbrev pub found : Claim → List ℕ
found (basis M l) = basis_rings M
found (all M l) = all_rings M
found (smallest M l) = smallest_basis M
found (reduces M l) = reduced_basis M
found (together M l) = assemblies M
found (labelled M l) = label_of M
found (refused M n) = refusal_of_rings M ∷ []
found (accepted M) = refusal_of_rings M ∷ []

abbrev pub said : Claim → List ℕ
said (basis M l) = l
said (all M l) = l
said (smallest M l) = l
said (reduces M l) = l
said (together M l) = l
said (labelled M l) = l
said (refused M n) = n ∷ []
said (accepted M) = 0 ∷ []

-- ---- the tables

abbrev pub s1 : Table
s1 = table 1 []

abbrev pub s2 : Table
s2 = table 2 (0 ∷ 1 ∷ [])

abbrev pub triangle : List ℕ
triangle = 0 ∷ 1 ∷ 1 ∷ 2 ∷ 2 ∷ 0 ∷ []

abbrev pub s3 : Table
s3 = table 3 triangle

abbrev pub s4 : Table
s4 = table 4 (0 ∷ 1 ∷ 1 ∷ 2 ∷ 2 ∷ 3 ∷ 3 ∷ 0 ∷ 0 ∷ 2 ∷ [])

abbrev pub s5 : Table
s5 = table 5 (0 ∷ 1 ∷ 1 ∷ 2 ∷ 2 ∷ 0 ∷ 0 ∷ 3 ∷ 3 ∷ 4 ∷ 4 ∷ 0 ∷ [])

abbrev pub s6 : Table
s6 = table 7 (0 ∷ 1 ∷ 1 ∷ 2 ∷ 2 ∷ 3 ∷ 3 ∷ 4 ∷ 4 ∷ 5 ∷ 5 ∷ 0 ∷ 0 ∷ 6 ∷ 6 ∷ 3 ∷ [])

abbrev pub s7 : Table
s7 = table 4 (0 ∷ 1 ∷ 0 ∷ 2 ∷ 0 ∷ 3 ∷ 1 ∷ 2 ∷ 1 ∷ 3 ∷ 2 ∷ 3 ∷ [])

abbrev pub s8 : Table
s8 = table 4 triangle

abbrev pub s9 : Table
s9 = table 3 (0 ∷ 0 ∷ 0 ∷ 9 ∷ [])

abbrev pub s10 : Table
s10 = table 3 (0 ∷ 1 ∷ 1 ∷ 0 ∷ [])

-- the bytes of a label after its first field, for no rings and for the triangle
abbrev pub no_rings : List ℕ
no_rings = 0x02 ∷ 0x00 ∷ 0x00 ∷ 0x03 ∷ 0x00 ∷ 0x00 ∷ 0x04 ∷ 0x00 ∷ 0x00 ∷ []

abbrev pub one_triangle : List ℕ
one_triangle = 0x02 ∷ 0x00 ∷ 0x03 ∷ 0x03 ∷ 0x00 ∷ 0x01 ∷ 0x03 ∷ 0x00 ∷ 0x02 ∷ 0x03 ∷ 0x01 ∷ 0x04 ∷ 0x00 ∷ 0x02 ∷ 0x01 ∷ 0x03 ∷ []

-- every value that is given, S1 to S10 in order
abbrev pub claims : List Claim
claims =
    accepted s1
    ∷ all s1 []
    ∷ labelled s1 (0x01 ∷ 0x00 ∷ 0x01 ∷ 0x00 ∷ no_rings)
    ∷ accepted s2
    ∷ all s2 []
    ∷ labelled s2 (0x01 ∷ 0x00 ∷ 0x01 ∷ 0x00 ∷ no_rings)
    ∷ accepted s3
    ∷ basis s3 (7 ∷ [])
    ∷ labelled s3 (0x01 ∷ 0x00 ∷ 0x01 ∷ 0x01 ∷ one_triangle)
    ∷ accepted s4
    ∷ basis s4 (15 ∷ 19 ∷ [])
    ∷ all s4 (19 ∷ 28 ∷ 15 ∷ [])
    ∷ smallest s4 (19 ∷ 28 ∷ [])
    ∷ reduces s4 (28 ∷ 19 ∷ [])
    ∷ together s4 (0 ∷ 0 ∷ [])
    ∷ labelled s4 (0x01 ∷ 0x00 ∷ 0x01 ∷ 0x02 ∷ 0x02 ∷ 0x00 ∷ 0x06 ∷ 0x03 ∷ 0x00 ∷ 0x02 ∷ 0x04 ∷ 0x00 ∷ 0x01 ∷ 0x03 ∷ 0x00 ∷ 0x02 ∷ 0x03 ∷ 0x02 ∷ 0x04 ∷ 0x00 ∷ 0x02 ∷ 0x02 ∷ 0x05 ∷ [])
    ∷ accepted s5
    ∷ all s5 (7 ∷ 56 ∷ [])
    ∷ together s5 (0 ∷ 1 ∷ [])
    ∷ accepted s6
    ∷ basis s6 (63 ∷ 199 ∷ [])
    ∷ all s6 (199 ∷ 248 ∷ 63 ∷ [])
    ∷ smallest s6 (199 ∷ 248 ∷ [])
    ∷ reduces s6 (248 ∷ 199 ∷ [])
    ∷ accepted s7
    ∷ basis s7 (11 ∷ 21 ∷ 38 ∷ [])
    ∷ all s7 (11 ∷ 21 ∷ 38 ∷ 56 ∷ 30 ∷ 45 ∷ 51 ∷ [])
    ∷ smallest s7 (11 ∷ 21 ∷ 38 ∷ [])
    ∷ accepted s8
    ∷ labelled s8 (0x01 ∷ 0x00 ∷ 0x01 ∷ 0x01 ∷ one_triangle)
    ∷ refused s9 4
    ∷ refused s10 6
    ∷ []

-- ---- the test and the theorem

unfoldable agree : List Claim → Bool
agree [] = true
agree (c ∷ cs) = same? (found c) (said c) && agree cs

computed : agree claims ≡ true
unfolding agree every some? count listed set_of gather keep total union_of insert sort seen_before? first_of refusal degree even? ring? merge classes ends_below fragments closure? forest basis_ring basis_rings sharing leaders rank assemblies_of assembly_count rings_in assemblies tangled? before all_rings chosen sum? taking smallest_basis exchange along across same? sweeps weight reduced reduced_basis bytes_of bytes_of_all field occurs histogram fragment_of fragment_count frerejacque pair_of assembly_pairs label_of refusal_of_rings has with without ones ones_in
computed = refl

agreed : (cs : List Claim) → agree cs ≡ true → (c : Claim) → In c cs → found c ≡ said c
unfolding agree
agreed (d ∷ cs) e c (here i) = ap found i ∙ same_lists (found d) (said d) ((and-eq-true_iff (same? (found d) (said d)) (agree cs)).0 e).0 ∙ sym (ap said i)
agreed (d ∷ cs) e c (there i) = agreed cs ((and-eq-true_iff (same? (found d) (said d)) (agree cs)).0 e).1 c i
agreed [] e c x'' = elim x'' [ ]

-- each starred example holds of the definitions
pub starred_examples : (c : Claim) → In c claims → found c ≡ said c
starred_examples = agreed claims computed
