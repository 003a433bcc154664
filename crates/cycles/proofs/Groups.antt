-- Rings by groups. Of two even sets that make up a third one has not its highest bond, and inside that one lies a ring. So a sum whose
-- highest basis ring is i is a ring where no ring is inside it whose highest basis ring is one before i. Assumes nothing.
use mathlib.Core.Path.{◌≡◌, sym, ap, ap₂, ◌∙◌}
use mathlib.Core.Logic.{◌↔◌, ◌≢◌}
use mathlib.Core.Bool.{Bool, true, false, ◌&&◌, not, xor}
use mathlib.Core.List.{List, Memᴰ as In}
use Prim.Native.Nat.{ℕ, zero, suc, ◌+◌, ◌-◌, ◌^◌, ◌≤◌, ◌<◌}
use native.Mathlib.Nat.{lt_of_lt_of_le, pow-suc}
use native.Mathlib.Omega.{arith}
use lib.Bits.{bit_xor, xor_lt}
use lib.Dec.{eqb, ltb}
use lib.ListN.{length, get_or, take}
use lib.Pow.{pow_mono}
use borrow.Author.Tests.{eqb-true, eqb-false, eq-eqb, ne_eqb, ltb-true, ltb-false}
use Rattle.sets.specs.Bits.{has, Sub, sub}
use Rattle.sets.proofs.Laws.{below, member_below, has-xor, has_above}
use Rattle.sets.proofs.Members.{sub_refl, sub_trans}
use Rattle.sets.proofs.Size.{test_sub, xor-zero}
use Rattle.definitions.specs.Search.{every, count, listed}
use Rattle.definitions.specs.Table.{Table, bonds}
use Rattle.definitions.specs.Ring.{Even, Ring, even?, ring?}
use Rattle.definitions.specs.Basis.{Closure, closure?, basis_ring, basis_rings}
use Rattle.definitions.specs.Assembly.{assemblies, assembly_count, rings_in}
use Rattle.definitions.specs.Smallest.{SumOf}
use Rattle.definitions.proofs.Tests.{by, clashes, not_passed, not_failed, and_both, both_and, eqb_self, every_fails}
use Rattle.definitions.proofs.Lists.{count-lt, count_mono, count_find, length-listed, listed_in, listed-place}
use Rattle.definitions.proofs.Refusals.{Valid}
use Rattle.definitions.proofs.Rings.{even_test, ring_test}
use Rattle.definitions.proofs.Paths.{closure_test}
use Rattle.definitions.proofs.Linking.{number_below}
use Rattle.spans.proofs.Spans.{xor_undo, span_sub}
use Rattle.spans.proofs.Choice.{sum→span, span→sum}
use Rattle.cycles.proofs.Xor.{xor_self as xor_same, false-xor}
use Rattle.cycles.proofs.Sums.{sum-listed, sum_upto, sum_lt, take-listed}
use Rattle.cycles.proofs.Evens.{member-some, even-xor}
use Rattle.cycles.proofs.Closures.{even_top}
use Rattle.cycles.proofs.BasisRings.{basis-even, basis-has, basis_top}
use Rattle.cycles.proofs.EvenSums.{Picks, ring-sum-at}
use Rattle.cycles.proofs.BasisList.{place_of, place-lt}
use Rattle.cycles.proofs.Assemblies.{assembly_of, assembly_bonds, closes_assembly, assembly_listed, assembly_bond, assemblies_disjoint, assembly_sum, assembly_evens, ring_in_one_assembly}

-- a sum of two parts of a set is a part of it
sum_inside : (s t u : ℕ) → Sub s u → Sub t u → Sub (bit_xor s t) u
sum_inside s t u f g j h =
    by (has s j) (f j) (λ e. g j (sym (ap (λ (x : Bool). xor x (has t j)) e ∙ false-xor (has t j)) ∙ sym (has-xor s t j) ∙ h))

module _ (M : Table) where
  -- inside an even set that is not empty lies a ring
  pub ring-inside : (n s : ℕ) → s < n → Even M s → s ≢ 0 → (t : ℕ) × Ring M t × Sub t s
  unfolding ring?
  ring-inside zero s l e some = absurd (omega arith)
  ring-inside (suc n) s l e some =
      by (every (s - 1) (λ t. not (sub (t + 1) s && even? M (t + 1))))
      (λ h. (s, (ring_test M s).0 (both_and (ap not (ne_eqb s 0 some)) (both_and ((even_test M s).1 e) h)), sub_refl s))
      (λ h. let (k, b, q) = every_fails (s - 1) (λ t. not (sub (t + 1) s && even? M (t + 1))) h in
      let (i, v) = and_both (sub (k + 1) s) (even? M (k + 1)) (not_failed _ (λ f. clashes (ap not f) q)) in
      let (t, r, part) = ring-inside n (k + 1) (omega arith) ((even_test M (k + 1)).0 v) (λ z. omega arith) in
      (t, r, sub_trans t (k + 1) s part (test_sub (k + 1) s i)))

module _ {M : Table} (valid : Valid M) where
  -- the basis rings of an assembly whose closure bonds are below k
  abbrev lower : ℕ → ℕ → List ℕ
  lower a k = listed k (closes_assembly M a) (basis_ring M)

  -- their sums are the even sets of the assembly's bonds that have bonds below k alone
  pub lower_sums : (a k s : ℕ) → k ≤ bonds M → SumOf (lower a k) s ↔ ((Even M s × Sub s (assembly_bonds M a)) × (s < 2 ^ k))
  lower_sums a k s l = (
    λ r. (
      (assembly_evens valid a s).1 (rw (assembly_listed M a) (span→sum (span_sub more (sum→span r)))),
      small r,
    ),
    λ r. let (q, picks, e) = (assembly_sum valid a s).0 ((assembly_evens valid a s).0 r.0) in
        let closes : Picks M q = λ j h t. (and_both (closure? M j) _ (picks j h t)).0 in
        let none : (j : ℕ) → k ≤ j → j < bonds M → q j ≡ false
        = λ j h m. not_passed (q j) (λ t.
        clashes (ap (λ (x : ℕ). has x j) (sym e) ∙ ring-sum-at valid q closes ((closure_test valid j m).0 (closes j m t)) ∙ t) (has_above k j r.1 h)) in
        (sum-listed k (closes_assembly M a) (basis_ring M) s).1
        (q, λ j h. picks j (omega arith), sym (sum_upto k (bonds M) q (basis_ring M) l none) ∙ e),
  )
    where
      more : (v : ℕ) → In v (lower a k) → In v (listed (bonds M) (closes_assembly M a) (basis_ring M))
      more v i =
          let (j, h, t, e) = (listed_in k (closes_assembly M a) (basis_ring M) v).0 i in
          (listed_in (bonds M) (closes_assembly M a) (basis_ring M) v).1 (j, omega arith, t, e)

      small : SumOf (lower a k) s → s < 2 ^ k
      small r =
          let (q, picks, e) = (sum-listed k (closes_assembly M a) (basis_ring M) s).0 r in
          rw e at (sum_lt k k q (basis_ring M) (λ j h t.
          let c = (closure_test valid j (omega arith)).0 (and_both (closure? M j) _ (picks j h t)).0 in
          lt_of_lt_of_le (basis_top valid c) (pow_mono h)))

  -- ---- the group of a closure bond

  -- k is a closure bond, its basis ring is of assembly a, and s is the sum of it and lower ones of that assembly
  record Grouped (a k s : ℕ) : Type 0 where
    bond : k < bonds M
    closes : closes_assembly M a k ≡ true
    sum : SumOf (lower a k) (bit_xor s (basis_ring M k))

  -- so k is a closure bond
  grouped_closure : {a k s : ℕ} → Grouped a k s → Closure M k
  grouped_closure {a} {k} g = (closure_test valid k g.bond).0 (and_both (closure? M k) _ g.closes).0

  -- and its basis ring lies in the assembly's bonds
  basis-inside : (a k : ℕ) → Closure M k → closes_assembly M a k ≡ true → Sub (basis_ring M k) (assembly_bonds M a)
  basis-inside a k c t b u = (assembly_bond valid a b).1 (k, c, eqb-true (assembly_of M k) a (and_both (closure? M k) _ t).1, u)

  -- those are the even sets of the assembly's bonds whose highest bond is k
  grouped_sums : (a k s : ℕ) → Grouped a k s ↔ ((closes_assembly M a k ≡ true) × (Even M s × Sub s (assembly_bonds M a)) × (has s k ≡ true) × (s < 2 ^ suc k))
  grouped_sums a k s = (
    λ g. let c = grouped_closure g in
        let b = basis_ring M k in
        let ((e, inside), l) = (lower_sums a k (bit_xor s b) (omega (arith, g.bond))).0 g.sum in
        let back : bit_xor (bit_xor s b) b ≡ s = xor_undo s b in (
          g.closes,
          (
            rw back at (even-xor M e (basis-even valid c)),
            rw back at (sum_inside (bit_xor s b) b (assembly_bonds M a) inside (basis-inside a k c g.closes)),
          ),
          ap (λ (x : ℕ). has x k) (sym back) ∙ has-xor (bit_xor s b) b k ∙ ap₂ xor (has_above k k l (omega arith)) (basis-has valid c) ∙ false-xor true,
          rw back at (xor_lt (suc k) (bit_xor s b) b (omega (arith, pow-suc 2 k)) (basis_top valid c)),
        ),
    λ r. let (t, (e, inside), h, top) = r in
        let bond : k < bonds M = member_below (bonds M) k e.within h in
        let c = (closure_test valid k bond).0 (and_both (closure? M k) _ t).0 in
        let b = basis_ring M k in
        let lost : has (bit_xor s b) k ≡ false = has-xor s b k ∙ ap₂ xor h (basis-has valid c) ∙ xor_same true in
        record {
          bond = bond;
          closes = t;
          sum = (lower_sums a k (bit_xor s b) (omega arith)).1 (
            (even-xor M e (basis-even valid c), sum_inside s b (assembly_bonds M a) inside (basis-inside a k c t)),
            below (bit_xor s b) k (λ j m.
                by (eqb k j) (λ i. ap (has (bit_xor s b)) (sym (eqb-true k j i)) ∙ lost)
                (λ i. has_above (suc k) j (xor_lt (suc k) s b top (basis_top valid c)) (omega (arith, eqb-false k j i)))),
          );
        },
  )

  -- a ring of the assembly's bonds is such a sum for its highest bond
  ring_grouped : {a v : ℕ} → Ring M v → Sub v (assembly_bonds M a) → (m : ℕ) × (has v m ≡ true) × Grouped a m v
  ring_grouped {a} {v} r inside =
      let (m, h, top, c) = even_top valid r.even r.some in
      let closes = (closure_test valid m c.bond).1 c in
      let own : assembly_of M m ≡ a = assemblies_disjoint valid m (basis-inside (assembly_of M m) m c (both_and closes (eqb_self (assembly_of M m))) m (basis-has valid c)) (inside m h) in
      (m, h, (grouped_sums a m v).1 (both_and closes (eq-eqb (assembly_of M m) a own), (r.even, inside), h, top))

  -- such a sum is a ring where no ring of a lower closure bond is inside it: of two even sets that make it up one has not the bond k
  grouped_rings : {a k s : ℕ} → Grouped a k s → Ring M s ↔ ((m t : ℕ) → m < k → Grouped a m t → Ring M t → Sub t s → ⊥)
  grouped_rings {a} {k} {s} g =
      let (c, (e, inside), h, top) = (grouped_sums a k s).0 g in
      let nothing : (u : ℕ) → ((m t : ℕ) → m < k → Grouped a m t → Ring M t → Sub t s → ⊥) → Even M u → Sub u s → has u k ≡ false → u ≡ 0
      = λ u only f part lost. by (eqb u 0) (eqb-true u 0) (λ z.
      let (v, r, within) = ring-inside M (suc u) u (omega arith) f (eqb-false u 0 z) in
      let (m, held, low) = ring_grouped r (sub_trans v s (assembly_bonds M a) (sub_trans v u s within part) inside) in
      let other : m ≢ k = λ q. clashes (within m held) (rw (← q) at lost) in
      absurd (only m v (omega (arith, member_below (suc k) m top (part m (within m held)), other)) low r (sub_trans v u s within part))) in (
        λ r m t l f q part.
            let (_, _, _, low) = (grouped_sums a m t).0 f in
            let same : t ≡ s = r.least t q.even q.some part in
            omega (arith, member_below (suc m) k (rw same at low) h),
        λ only.
            record {
              even = e;
              some = member-some k h;
              least = λ t f some part.
                  by (has t k)
                  (λ u. sym (xor-zero s t (nothing (bit_xor s t) only (even-xor M e f) (sum_inside s t s (sub_refl s) part) (has-xor s t k ∙ ap₂ xor h u ∙ xor_same true))))
                  (λ u. absurd (some (nothing t only f part u)));
            },
      )

-- ---- the same over the list of an assembly's basis rings

-- s is a sum of basis rings of assembly a, the highest of which is the i-th
pub record InGroup (M : Table) (a i s : ℕ) : Type 0 where
  pub place : i < length (rings_in (basis_rings M) a)
  pub sum : SumOf (take i (rings_in (basis_rings M) a)) (bit_xor s (get_or (rings_in (basis_rings M) a) i 0))

module _ {M : Table} (valid : Valid M) where
  -- each place is one of a closure bond
  group-found : (a i : ℕ) → i < length (rings_in (basis_rings M) a)
      → (k : ℕ) × (k < bonds M) × (closes_assembly M a k ≡ true) × (count k (closes_assembly M a) ≡ i)
  group-found a i l =
      count_find (closes_assembly M a) (bonds M) i
      (omega (arith, ap length (assembly_listed M a), length-listed (bonds M) (closes_assembly M a) (basis_ring M)))

  -- the group of a place is that of its closure bond
  group_at : (a k s : ℕ) → k < bonds M → closes_assembly M a k ≡ true → InGroup M a (count k (closes_assembly M a)) s ↔ Grouped valid a k s
  group_at a k s l t =
      let p = closes_assembly M a in
      let rings = assembly_listed M a in
      let here = ap (λ (x : List ℕ). get_or x (count k p) 0) rings ∙ listed-place (bonds M) p (basis_ring M) k 0 l t in
      let before = ap (take (count k p)) rings ∙ take-listed k (bonds M) p (basis_ring M) (omega arith) in (
        λ g. record { bond = l; closes = t; sum = rw (here, before) at g.sum },
        λ g.
            record {
              place = omega (arith, ap length rings, length-listed (bonds M) p (basis_ring M), count-lt p (bonds M) k l t);
              sum = rw (here, before) g.sum;
            },
      )

  -- a sum whose highest basis ring is the i-th of an assembly is a ring where no ring is inside it whose highest is one before
  pub ring-by-earlier : {a i s : ℕ} → InGroup M a i s → Ring M s ↔ ((j t : ℕ) → j < i → InGroup M a j t → Ring M t → Sub t s → ⊥)
  ring-by-earlier {a} {i} {s} g =
      let (k, l, t, e) = group-found a i g.place in
      let rings = grouped_rings valid ((group_at a k s l t).0 (rw e g)) in (
        λ r j u b f q part.
            let (m, l', t', e') = group-found a j f.place in
            rings.0 r m u (before a k m (omega arith)) ((group_at a m u l' t').0 (rw e' f)) q part,
        λ only. rings.1 (λ m u b f q part. only (count m (closes_assembly M a)) u (omega (arith, e, count-lt (closes_assembly M a) k m b f.closes)) ((group_at a m u f.bond f.closes).1 f) q part),
      )
    where
      before : (a k m : ℕ) → count m (closes_assembly M a) < count k (closes_assembly M a) → m < k
      before a k m h = by (ltb m k) (ltb-true m k) (λ f. absurd (omega (arith, count_mono (closes_assembly M a) k m (ltb-false m k f))))

  -- it is an even set of the assembly's bonds, and not empty
  pub group-even : {a i s : ℕ} → InGroup M a i s → (Even M s × Sub s (assembly_bonds M a)) × (s ≢ 0)
  group-even {a} {i} {s} g =
      let (k, l, t, e) = group-found a i g.place in
      let (_, inside, h, _) = (grouped_sums valid a k s).0 ((group_at a k s l t).0 (rw e g)) in
      (inside, member-some k h)

  -- every ring is in a group
  pub ring_in_group : {s : ℕ} → Ring M s → (a : ℕ) × (a < assembly_count (basis_rings M)) × (i : ℕ) × InGroup M a i s
  unfolding assemblies
  ring_in_group {s} r =
      let (a, o) = ring_in_one_assembly valid r in
      let (_, inside) = (assembly_evens valid a s).1 o in
      let (k, _, g) = ring_grouped valid r inside in
      let own : assembly_of M k ≡ a = eqb-true (assembly_of M k) a (and_both (closure? M k) _ g.closes).1 in (
        a,
        rw own at (number_below (basis_rings M) (place_of M k) (place-lt valid (grouped_closure valid g))),
        count k (closes_assembly M a),
        (group_at a k s g.bond g.closes).1 g,
      )

  -- and no set is in two
  pub group_unique : {a b i j s : ℕ} → InGroup M a i s → InGroup M b j s → (a ≡ b) × (i ≡ j)
  group_unique {a} {b} {i} {j} {s} g f =
      let (k, l, t, e) = group-found a i g.place in
      let (m, l', t', e') = group-found b j f.place in
      let (_, (even, inside), h, top) = (grouped_sums valid a k s).0 ((group_at a k s l t).0 (rw e g)) in
      let (_, (even', inside'), h', top') = (grouped_sums valid b m s).0 ((group_at b m s l' t').0 (rw e' f)) in
      let same : a ≡ b = assemblies_disjoint valid k (inside k h) (inside' k h) in
      let high : k ≡ m = omega (arith, member_below (suc m) k top' h, member_below (suc k) m top h') in
      (same, sym e ∙ ap₂ (λ (x y : ℕ). count x (closes_assembly M y)) high same ∙ e')
