-- The list of basis rings: each closure bond has its place in it, the sums of its rings are the even sets, and no ring of it is a sum
-- of others, since each has a bond that no other has. Assumes nothing.
use mathlib.Core.Path.{◌≡◌, sym, ap, ◌∙◌}
use mathlib.Core.Logic.{◌↔◌}
use mathlib.Core.Bool.{Bool, false}
use mathlib.Core.List.{List, Memᴰ as In}
use Prim.Native.Nat.{ℕ, ◌<◌}
use native.Mathlib.Omega.{arith}
use lib.Dec.{ltb}
use lib.ListN.{length, get_or}
use lib.Seq.{ext_get_or}
use Rattle.sets.specs.Bits.{has}
use Rattle.sets.proofs.Laws.{has-zero}
use Rattle.definitions.specs.Search.{count, listed, those}
use Rattle.definitions.specs.Table.{Table, bonds}
use Rattle.definitions.specs.Ring.{Even, Ring}
use Rattle.definitions.specs.Basis.{Closure, closure?, BasisRing, basis_ring, basis_rings}
use Rattle.definitions.specs.Smallest.{chosen, SumOf}
use Rattle.definitions.proofs.Tests.{clashes, and_both, both_and}
use Rattle.definitions.proofs.Lists.{Sorted, in_get_or, count-lt, count_find, length-listed, listed_in, listed-place, those_in, those-rising}
use Rattle.definitions.proofs.Sorting.{ltb_order, sorted_unique}
use Rattle.definitions.proofs.Refusals.{Valid}
use Rattle.definitions.proofs.Paths.{closure_test}
use Rattle.spans.proofs.Choice.{Independent}
use Rattle.cycles.proofs.Sums.{picked, chosen-picked, sum-listed}
use Rattle.cycles.proofs.BasisRings.{basis-ring_reads, basis_is_ring}
use Rattle.cycles.proofs.EvenSums.{closes_in, Picks, closure_tested, ring-sum-even, ring-sum-at, even_sum}

-- the place in the list of the basis ring of closure bond k
abbrev pub place_of : Table → ℕ → ℕ
place_of M k = count k (closure? M)

-- the closure bonds, rising
abbrev pub closure_bonds : Table → List ℕ
closure_bonds M = those (bonds M) (closure? M)

-- they are as many as the basis rings
pub basis-rings-length : (M : Table) → length (basis_rings M) ≡ length (closure_bonds M)
unfolding basis_rings
basis-rings-length M = length-listed (bonds M) (closure? M) (basis_ring M) ∙ sym (length-listed (bonds M) (closure? M) (λ k. k))

module _ {M : Table} (valid : Valid M) where
  -- ---- places

  -- the place is in the list
  pub place-lt : {k : ℕ} → Closure M k → place_of M k < length (basis_rings M)
  unfolding basis_rings
  place-lt {k} c = rw (length-listed (bonds M) (closure? M) (basis_ring M)) (count-lt (closure? M) (bonds M) k c.bond (closure_tested valid c))

  -- the basis ring stands at its place
  pub place-ring : {k : ℕ} → Closure M k → get_or (basis_rings M) (place_of M k) 0 ≡ basis_ring M k
  unfolding basis_rings
  place-ring {k} c = listed-place (bonds M) (closure? M) (basis_ring M) k 0 c.bond (closure_tested valid c)

  -- each place is one of a closure bond
  pub place_find : (i : ℕ) → i < length (basis_rings M) → (k : ℕ) × Closure M k × (place_of M k ≡ i)
  unfolding basis_rings
  place_find i l =
      let (k, h, t, e) = count_find (closure? M) (bonds M) i (omega (arith, length-listed (bonds M) (closure? M) (basis_ring M))) in
      (k, (closure_test valid k h).0 t, e)

  -- ---- the list of closure bonds

  -- it has the closure bonds, and nothing else
  pub closures_are : (k : ℕ) → In k (closure_bonds M) ↔ Closure M k
  closures_are k = (
    λ i. let (l, t) = (those_in (bonds M) (closure? M) k).0 i in (closure_test valid k l).0 t,
    λ c. (those_in (bonds M) (closure? M) k).1 (c.bond, closure_tested valid c),
  )

  -- at each place stand a closure bond and its basis ring
  pub basis-ring-at : (i : ℕ) → i < length (closure_bonds M) → BasisRing M (get_or (closure_bonds M) i 0) (get_or (basis_rings M) i 0)
  basis-ring-at i l =
      let (k, c, e) = place_find i (omega (arith, basis-rings-length M)) in
      let here : get_or (closure_bonds M) i 0 ≡ k
      = ap (λ (p : ℕ). get_or (closure_bonds M) p 0) (sym e) ∙ listed-place (bonds M) (closure? M) (λ j. j) k 0 c.bond (closure_tested valid c) in
      rw here ((basis-ring_reads valid c (get_or (basis_rings M) i 0)).1 (ap (λ (p : ℕ). get_or (basis_rings M) p 0) (sym e) ∙ place-ring c))

  -- there is one list of the basis rings of closure bonds, one at each place
  pub basis-rings_unique : (ks bs : List ℕ) → Sorted ltb ks → ((k : ℕ) → In k ks ↔ Closure M k) → length bs ≡ length ks
      → ((i : ℕ) → i < length ks → BasisRing M (get_or ks i 0) (get_or bs i 0)) → bs ≡ basis_rings M
  basis-rings_unique ks bs rising are size each =
      ext_get_or 0 bs (basis_rings M) (size ∙ ap length same ∙ sym (basis-rings-length M))
      (λ i l. one (each i (omega arith)) (basis-ring-at i (omega (arith, ap length same))) (ap (λ js. get_or js i 0) same))
    where
      same : ks ≡ closure_bonds M
      same = sorted_unique ltb_order rising (those-rising (bonds M) (closure? M))
          (λ k. (λ i. (closures_are k).1 ((are k).0 i), λ i. (are k).1 ((closures_are k).0 i)))

      one : {k j s t : ℕ} → BasisRing M k s → BasisRing M j t → k ≡ j → s ≡ t
      one b c e =
          (basis-ring_reads valid b.closure _).0 b ∙ ap (basis_ring M) e ∙ sym ((basis-ring_reads valid c.closure _).0 c)

  -- ---- each member

  -- each basis ring in the list is a ring
  pub basis-rings_are_rings : (i : ℕ) → i < length (basis_rings M) → Ring M (get_or (basis_rings M) i 0)
  basis-rings_are_rings i l =
      let (k, c, e) = place_find i l in
      rw (← e, place-ring c) (basis_is_ring valid c)

  -- so is every member
  pub basis-ring_in : (s : ℕ) → In s (basis_rings M) → Ring M s
  unfolding basis_rings
  basis-ring_in s i =
      let (k, l, t, e) = (listed_in (bonds M) (closure? M) (basis_ring M) s).0 i in
      rw e at (basis_is_ring valid ((closure_test valid k l).0 t))

  -- ---- sums

  -- the sums of basis rings are the even sets
  pub even-sums : (s : ℕ) → SumOf (basis_rings M) s ↔ Even M s
  unfolding basis_rings
  even-sums s =
      let listed = sum-listed (bonds M) (closure? M) (basis_ring M) s in (
        λ r. let (q, picks, e) = listed.0 r in rw e at (ring-sum-even valid q picks),
        λ e. listed.1 (closes_in M s, λ k l h. (and_both (closure? M k) (has s k) h).0, even_sum valid e),
      )

  -- a sum holds a closure bond where its basis ring is chosen
  pub chosen_at : (p : ℕ → Bool) → Picks M p → (cs : List Bool) → length cs ≡ length (listed (bonds M) p (basis_ring M))
      → {k : ℕ} → Closure M k → has (chosen cs (listed (bonds M) p (basis_ring M))) k ≡ picked p cs k
  chosen_at p picks cs l {k} c =
      ap (λ (x : ℕ). has x k) (chosen-picked (bonds M) p (basis_ring M) cs l)
      ∙ ring-sum-at valid (picked p cs) (λ j m t. picks j m (and_both (p j) _ t).0) c

  -- so no choice of basis rings but none sums to the empty set
  pub rings_independent : (p : ℕ → Bool) → Picks M p → Independent (listed (bonds M) p (basis_ring M))
  rings_independent p picks cs l e i =
      let (j, m, t) = in_get_or false i in
      let (k, b, u, q) = count_find p (bonds M) j (omega (arith, length-listed (bonds M) p (basis_ring M))) in
      let c = (closure_test valid k b).0 (picks k b u) in
      clashes (chosen_at p picks cs l c ∙ both_and u (ap (λ (x : ℕ). get_or cs x false) q ∙ t)) (ap (λ (x : ℕ). has x k) e ∙ has-zero k)

  -- in particular none of the whole list
  pub basis-rings_independent : Independent (basis_rings M)
  unfolding basis_rings
  basis-rings_independent = rings_independent (closure? M) (λ k l t. t)

  -- two choices of basis rings with one sum are one choice
  pub choices_unique : (cs ds : List Bool) → length cs ≡ length (basis_rings M) → length ds ≡ length (basis_rings M)
      → chosen cs (basis_rings M) ≡ chosen ds (basis_rings M) → cs ≡ ds
  unfolding basis_rings
  choices_unique cs ds l m e = ext_get_or false cs ds (l ∙ sym m) (λ i h. same i (place_find i (omega arith)))
    where
      own : {k : ℕ} → Closure M k → picked (closure? M) cs k ≡ picked (closure? M) ds k
      own {k} c =
          sym (chosen_at (closure? M) (λ j b t. t) cs l c) ∙ ap (λ (x : ℕ). has x k) e ∙ chosen_at (closure? M) (λ j b t. t) ds m c

      same : (i : ℕ) → ((k : ℕ) × Closure M k × (place_of M k ≡ i)) → get_or cs i false ≡ get_or ds i false
      same i (k, c, q) = rw (← q) (rw (closure_tested valid c) at (own c))
