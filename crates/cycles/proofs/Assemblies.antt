-- Assemblies. Basis rings that share a bond are of one assembly, so the bonds of different assemblies are different, and the part of
-- a ring's sum that falls to one assembly is an even set inside the ring: it is the ring. So a ring is a sum of basis rings of one
-- assembly, the even sets inside an assembly's bonds are the sums of its basis rings, and its bonds are those that a chain of rings
-- joins to one of them. Assumes nothing.
use mathlib.Core.Path.{◌≡◌, refl, sym, ap, ◌∙◌}
use mathlib.Core.Logic.{◌↔◌, ◌≢◌}
use mathlib.Core.Bool.{Bool, true, false, ◌&&◌}
use mathlib.Core.List.{List, Memᴰ as In}
use Prim.Native.Nat.{ℕ, ◌<◌}
use lib.Dec.{eqb}
use lib.ListN.{length, get_or}
use borrow.Author.Tests.{eqb-true, eq-eqb}
use Rattle.sets.specs.Bits.{has, Sub}
use Rattle.sets.proofs.Members.{common, meet_of}
use Rattle.definitions.specs.Search.{listed, union_of}
use Rattle.definitions.specs.Table.{Table, bonds}
use Rattle.definitions.specs.Ring.{Even, Ring}
use Rattle.definitions.specs.Basis.{Closure, closure?, basis_ring, basis_rings}
use Rattle.definitions.specs.Assembly.{Linked, Linked.same, Linked.by as linked-by, assemblies_of, rings_in, assemblies}
use Rattle.definitions.specs.Smallest.{chosen, SumOf}
use Rattle.definitions.proofs.Tests.{eqb_self, and_both, both_and}
use Rattle.definitions.proofs.Lists.{length-listed, listed_in, has-union_of}
use Rattle.definitions.proofs.Refusals.{Valid}
use Rattle.definitions.proofs.Paths.{closure_test}
use Rattle.definitions.proofs.Linking.{linked_test}
use Rattle.spans.proofs.Choice.{Independent}
use Rattle.cycles.proofs.Parity.{parity_ext, parity_some}
use Rattle.cycles.proofs.Sums.{has-sum, sum-listed, listed-listed}
use Rattle.cycles.proofs.Evens.{member-some}
use Rattle.cycles.proofs.Closures.{even_top}
use Rattle.cycles.proofs.BasisRings.{basis-at}
use Rattle.cycles.proofs.EvenSums.{closes_in, Picks, ring_sum, closure_tested, ring-sum-even, ring-sum-at, even_sum}
use Rattle.cycles.proofs.BasisList.{place_of, place-lt, place-ring, place_find, basis-rings_are_rings, chosen_at, rings_independent}
use Rattle.cycles.proofs.Together.{Together, alone, held}

-- a condition that follows may be added
guard : (a c d : Bool) → (a ≡ true → d ≡ true → c ≡ true) → a && d ≡ (a && c) && d
guard true true d h = refl
guard true false true h = sym (h refl refl)
guard true false false h = refl
guard false c d h = refl

-- ---- the assemblies of the basis rings, by closure bonds

-- the assembly of the basis ring of closure bond k
abbrev pub assembly_of : Table → ℕ → ℕ
assembly_of M k = get_or (assemblies M) (place_of M k) 0

-- the bonds of assembly a
abbrev pub assembly_bonds : Table → ℕ → ℕ
assembly_bonds M a = union_of (rings_in (basis_rings M) a)

-- bond k is a closure bond, and its basis ring is of assembly a
abbrev pub closes_assembly : Table → ℕ → ℕ → Bool
closes_assembly M a k = closure? M k && eqb (assembly_of M k) a

-- the basis rings of an assembly, by their closure bonds
pub assembly_listed : (M : Table) (a : ℕ) → rings_in (basis_rings M) a ≡ listed (bonds M) (closes_assembly M a) (basis_ring M)
unfolding rings_in basis_rings assemblies
assembly_listed M a =
    ap (λ (n : ℕ). listed n (λ i. eqb (get_or (assemblies_of (basis_rings M)) i 0) a) (λ i. get_or (basis_rings M) i 0))
    (length-listed (bonds M) (closure? M) (basis_ring M))
    ∙ listed-listed (bonds M) (closure? M) (λ i. eqb (get_or (assemblies_of (basis_rings M)) i 0) a) (basis_ring M) 0

module _ {M : Table} (valid : Valid M) where
  -- ---- the bonds of an assembly

  -- basis rings are of one assembly where they are linked
  pub assembly_linked : {k l : ℕ} → Closure M k → Closure M l → (assembly_of M k ≡ assembly_of M l) ↔ Linked (basis_rings M) (place_of M k) (place_of M l)
  unfolding assemblies
  assembly_linked {k} {l} c d = linked_test (basis_rings M) (place_of M k) (place_of M l) (place-lt valid c) (place-lt valid d)

  -- so those that share a bond are
  pub sharing_assembly : {k l : ℕ} (b : ℕ) → Closure M k → Closure M l → has (basis_ring M k) b ≡ true → has (basis_ring M l) b ≡ true
      → assembly_of M k ≡ assembly_of M l
  sharing_assembly {k} {l} b c d u v =
      (assembly_linked c d).1
      (linked-by (place-lt valid c) (place-lt valid d) (rw (place-ring valid c, place-ring valid d) (meet_of (basis_ring M k) (basis_ring M l) b u v)) same)

  -- the basis rings of an assembly
  pub assembly_ring : (a s : ℕ) → In s (rings_in (basis_rings M) a) ↔ ((k : ℕ) × Closure M k × (assembly_of M k ≡ a) × (basis_ring M k ≡ s))
  assembly_ring a s =
      rw (assembly_listed M a) (
        λ i. let (k, l, t, e) = (listed_in (bonds M) (closes_assembly M a) (basis_ring M) s).0 i in
            let (c, o) = and_both (closure? M k) _ t in
            (k, (closure_test valid k l).0 c, eqb-true _ a o, e),
        λ r. let (k, c, o, e) = r in
            (listed_in (bonds M) (closes_assembly M a) (basis_ring M) s).1 (k, c.bond, both_and (closure_tested valid c) (eq-eqb _ a o), e),
      )

  -- a bond of an assembly is one of a basis ring of it
  pub assembly_bond : (a b : ℕ)
      → (has (assembly_bonds M a) b ≡ true) ↔ ((k : ℕ) × Closure M k × (assembly_of M k ≡ a) × (has (basis_ring M k) b ≡ true))
  assembly_bond a b = (
    λ h. let (s, i, u) = (has-union_of (rings_in (basis_rings M) a) b).0 h in
        let (k, c, o, e) = (assembly_ring a s).0 i in
        (k, c, o, ap (λ (x : ℕ). has x b) e ∙ u),
    λ r. let (k, c, o, u) = r in
        (has-union_of (rings_in (basis_rings M) a) b).1 (basis_ring M k, (assembly_ring a (basis_ring M k)).1 (k, c, o, refl), u),
  )

  -- different assemblies have different bonds
  pub assemblies_disjoint : {a a' : ℕ} (b : ℕ) → has (assembly_bonds M a) b ≡ true → has (assembly_bonds M a') b ≡ true → a ≡ a'
  assemblies_disjoint {a} {a'} b h g =
      let (k, c, o, u) = (assembly_bond a b).0 h in
      let (l, d, p, v) = (assembly_bond a' b).0 g in
      sym o ∙ sharing_assembly b c d u v ∙ p

  -- ---- the sums of the basis rings of an assembly

  -- a sum of basis rings of an assembly picks closure bonds of it
  pub assembly_sum : (a s : ℕ)
      → SumOf (rings_in (basis_rings M) a) s ↔ ((q : ℕ → Bool) × ((k : ℕ) → k < bonds M → q k ≡ true → closes_assembly M a k ≡ true) × (ring_sum M q ≡ s))
  assembly_sum a s = rw (assembly_listed M a) (sum-listed (bonds M) (closes_assembly M a) (basis_ring M) s)

  -- the even sets inside the bonds of an assembly are the sums of its basis rings
  pub assembly_evens : (a s : ℕ) → (Even M s × Sub s (assembly_bonds M a)) ↔ SumOf (rings_in (basis_rings M) a) s
  assembly_evens a s = (
    λ r. let (e, inside) = r in
        (assembly_sum a s).1 (
          closes_in M s,
          λ k l h.
              let (t, m) = and_both (closure? M k) (has s k) h in
              let c = (closure_test valid k l).0 t in
              let (j, d, o, u) = (assembly_bond a k).0 (inside k m) in
              let i : j ≡ k = eqb-true j k (sym (basis-at valid d c) ∙ u) in
              both_and t (eq-eqb _ a (ap (assembly_of M) (sym i) ∙ o)),
          even_sum valid e,
        ),
    λ r. let (q, picks, e) = (assembly_sum a s).0 r in (
      rw e at (ring-sum-even valid q (λ k l t. (and_both (closure? M k) _ (picks k l t)).0)),
      λ b h.
          let (k, l, t) = parity_some (bonds M) _ (sym (has-sum (bonds M) q (basis_ring M) b) ∙ ap (λ (x : ℕ). has x b) e ∙ h) in
          let (p, u) = and_both (q k) (has (basis_ring M k) b) t in
          let (c, o) = and_both (closure? M k) _ (picks k l p) in
          (assembly_bond a b).1 (k, (closure_test valid k l).0 c, eqb-true _ a o, u),
    ),
  )

  -- no choice of basis rings of an assembly but none sums to the empty set
  pub assembly_independent : (a : ℕ) → Independent (rings_in (basis_rings M) a)
  assembly_independent a =
      rw (assembly_listed M a) (rings_independent valid (closes_assembly M a) (λ k l t. (and_both (closure? M k) _ t).0))

  -- ---- rings

  -- the closure bonds of a ring are all of one assembly
  pub ring_assembly : {s i j : ℕ} → Ring M s → Closure M i → Closure M j → has s i ≡ true → has s j ≡ true → assembly_of M i ≡ assembly_of M j
  ring_assembly {s} {i} {j} r c d u v = sym (eqb-true _ _ (and_both (closes_in M s j) _ picked_j).1)
    where
      part : ℕ → Bool
      part k = closes_in M s k && eqb (assembly_of M k) (assembly_of M i)

      closes : (k : ℕ) → part k ≡ true → closure? M k ≡ true
      closes k t = (and_both (closure? M k) (has s k) (and_both (closes_in M s k) _ t).0).0

      picks : Picks M part
      picks k l = closes k

      inside : Sub (ring_sum M part) s
      inside b h =
          let (k, l, t) = parity_some (bonds M) _ (sym (has-sum (bonds M) part (basis_ring M) b) ∙ h) in
          let (p, w) = and_both (part k) (has (basis_ring M k) b) t in
          let ck = (closure_test valid k l).0 (closes k p) in
          let near = eqb-true (assembly_of M k) (assembly_of M i) (and_both (closes_in M s k) _ p).1 in
          ap (λ (x : ℕ). has x b) (sym (even_sum valid r.even)) ∙ has-sum (bonds M) (closes_in M s) (basis_ring M) b
          ∙ parity_ext (bonds M) _ _ (λ x m. guard (closes_in M s x) _ (has (basis_ring M x) b) (λ t' w'.
          let cx = (closure_test valid x m).0 (and_both (closure? M x) (has s x) t').0 in
          eq-eqb _ _ (sharing_assembly b cx ck w' w ∙ near)))
          ∙ sym (has-sum (bonds M) part (basis_ring M) b) ∙ h

      some : ring_sum M part ≢ 0
      some = member-some i (ring-sum-at valid part picks c ∙ both_and (both_and (closure_tested valid c) u) (eqb_self (assembly_of M i)))

      whole : ring_sum M part ≡ s
      whole = r.least (ring_sum M part) (ring-sum-even valid part picks) some inside

      picked_j : part j ≡ true
      picked_j = sym (ring-sum-at valid part picks d) ∙ ap (λ (x : ℕ). has x j) whole ∙ v

  -- a ring is a sum of basis rings of one assembly
  pub ring_in_one_assembly : {s : ℕ} → Ring M s → (a : ℕ) × SumOf (rings_in (basis_rings M) a) s
  ring_in_one_assembly {s} r =
      let (i, u, _, c) = even_top valid r.even r.some in (
        assembly_of M i,
        (assembly_sum (assembly_of M i) s).1 (
          closes_in M s,
          λ k l t.
              let (e, v) = and_both (closure? M k) (has s k) t in
              both_and e (eq-eqb _ _ (ring_assembly r ((closure_test valid k l).0 e) c v u)),
          even_sum valid r.even,
        ),
      )

  -- a sum of basis rings of two assemblies is no ring
  pub no_ring_of_two-assemblies : {s : ℕ} → Ring M s → (cs : List Bool) → length cs ≡ length (basis_rings M) → chosen cs (basis_rings M) ≡ s
      → (i j : ℕ) → i < length (basis_rings M) → j < length (basis_rings M) → get_or cs i false ≡ true → get_or cs j false ≡ true
      → get_or (assemblies M) i 0 ≡ get_or (assemblies M) j 0
  unfolding basis_rings
  no_ring_of_two-assemblies {s} r cs l e i j li lj ti tj =
      let (k, c, p) = place_find valid i li in
      let (m, d, q) = place_find valid j lj in
      let holds : (x : ℕ) → Closure M x → get_or cs (place_of M x) false ≡ true → has s x ≡ true
      = λ x cx t. ap (λ (y : ℕ). has y x) (sym e) ∙ chosen_at valid (closure? M) (λ y b u. u) cs l cx ∙ both_and (closure_tested valid cx) t in
      rw (← p, ← q) (ring_assembly r c d (holds k c (rw p ti)) (holds m d (rw q tj)))

  -- a ring lies in the bonds of an assembly exactly if it is a sum of that assembly's basis rings
  pub assembly_rings : (a s : ℕ) → (Ring M s × Sub s (assembly_bonds M a)) ↔ (Ring M s × SumOf (rings_in (basis_rings M) a) s)
  assembly_rings a s = (
    λ h. (h.0, (assembly_evens a s).0 (h.0.even, h.1)),
    λ h. (h.0, ((assembly_evens a s).1 h.1).1),
  )

-- ---- the bonds of an assembly as a class

module _ {M : Table} (valid : Valid M) where
  -- bonds of linked basis rings are together
  linked_together : {i j : ℕ} → Linked (basis_rings M) i j → i < length (basis_rings M) → {x y : ℕ} → has (get_or (basis_rings M) i 0) x ≡ true
      → has (get_or (basis_rings M) j 0) y ≡ true → Together M x y
  linked_together {i} same l u v = held (get_or (basis_rings M) i 0) (basis-rings_are_rings valid i l) u v alone
  linked_together (linked-by {i = i} {j = j} l m e r) _ u v =
      let (b, p, q) = common (get_or (basis_rings M) i 0) (get_or (basis_rings M) j 0) e in
      held (get_or (basis_rings M) i 0) (basis-rings_are_rings valid i l) u p (linked_together r m q v)

  -- bonds together with one of an assembly are of it: each ring on the way lies inside one assembly
  together_within : (a : ℕ) {x y : ℕ} → Together M x y → has (assembly_bonds M a) x ≡ true → has (assembly_bonds M a) y ≡ true
  together_within a alone h = h
  together_within a (held {a = x} {b = b} s r u v t) h =
      let (a', o) = ring_in_one_assembly valid r in
      let inside = ((assembly_evens valid a' s).1 o).1 in
      together_within a t (rw (assemblies_disjoint valid x h (inside x u)) (inside b v))

  -- the bonds of an assembly are a class of bonds under 'some ring holds both', taken through others
  pub assembly_class : (a x y : ℕ) → has (assembly_bonds M a) x ≡ true → (has (assembly_bonds M a) y ≡ true) ↔ Together M x y
  assembly_class a x y h = (
    λ g. let (k, c, o, u) = (assembly_bond valid a x).0 h in
        let (l, d, p, v) = (assembly_bond valid a y).0 g in
        linked_together ((assembly_linked valid c d).0 (o ∙ sym p)) (place-lt valid c)
        (ap (λ (z : ℕ). has z x) (place-ring valid c) ∙ u) (ap (λ (z : ℕ). has z y) (place-ring valid d) ∙ v),
    λ t. together_within a t h,
  )
