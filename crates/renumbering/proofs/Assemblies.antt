-- The assemblies of renumbered tables correspond. The bonds of an assembly are those that chains of rings join to one of them, which does
-- not speak of the forest, and chains are carried to chains. The basis rings of an assembly are independent and span the even sets
-- inside its bonds, so there are as many of them on both sides. Assumes nothing.
use mathlib.Core.Path.{◌≡◌, sym, ap, ap₂, subst, ◌∙◌}
use mathlib.Core.Bool.{true}
use mathlib.Core.List.{[], ◌∷◌, map, Memᴰ as In}
use Prim.Native.Nat.{ℕ, ◌+◌, ◌*◌, ◌^◌, ◌≤◌, ◌<◌}
use native.Mathlib.Nat.{le_antisymm, lt_irrefl, lt_of_lt_of_le, pos_of_ne-zero}
use lib.ListN.{length, get_or}
use lib.Dec.{eqb, ltb}
use Rattle.sets.specs.Bits.{has, Sub, size}
use Rattle.sets.proofs.Laws.{below, member_below, lowest}
use Rattle.sets.proofs.Members.{sub_antisym}
use Rattle.definitions.specs.Search.{count, gather, keep}
use Rattle.definitions.specs.Table.{Table, bonds}
use Rattle.definitions.specs.Ring.{Even, Ring}
use Rattle.definitions.specs.Basis.{basis_rings}
use Rattle.definitions.specs.Assembly.{assemblies, assembly_count, rings_in, max_assembly, tangled?}
use Rattle.definitions.specs.Label.{occurs, pair_of, assembly_pairs}
use Rattle.definitions.proofs.Tests.{same_test, not_passed, some_at, some_of}
use Rattle.definitions.proofs.Lists.{those_in, length-listed, gather_ones, keep-listed, has-union_of}
use Rattle.definitions.proofs.Sorting.{ltb_order, sort_equal}
use Rattle.definitions.proofs.Refusals.{Valid, accepted}
use Rattle.definitions.proofs.Linking.{number_below, number-occurs, ring_in_own}
use Rattle.spans.proofs.Spans.{Span, span_in, span_eq}
use Rattle.spans.proofs.Choice.{independent_iff_indep, sum→span, span→sum}
use Rattle.spans.proofs.Invariant.{map_span, image_length}
use Rattle.cycles.proofs.BasisRings.{basis-even}
use Rattle.cycles.proofs.BasisList.{place-lt, basis-rings_are_rings}
use Rattle.cycles.proofs.Together.{Together, alone, held}
use Rattle.cycles.proofs.Assemblies.{assembly_bonds, assembly_bond, assembly_evens, assembly_independent, assemblies_disjoint, ring_in_one_assembly, assembly_class}
use Rattle.renumbering.specs.Renumbered.{Renumbered}
use Rattle.renumbering.proofs.Matching.{matched_count}
use Rattle.renumbering.proofs.Images.{carried, image_xor, image_new, image_member, image_sub, image_one, image_none, size_image}
use Rattle.renumbering.proofs.Tables.{renumbered_back}
use Rattle.renumbering.proofs.Refusals.{refusals_of_renumbered}
use Rattle.renumbering.proofs.Sets.{carried_there, carried_here, even_carried, even-back, ring_carried}
use Rattle.renumbering.proofs.Rings.{span_even}

-- a table that an accepted one is renumbered to is accepted
pub valid_carried : {M N : Table} → Renumbered M N → Valid M → Valid N
valid_carried {M} {N} r v = (accepted N).0 (sym (refusals_of_renumbered r v.inside) ∙ (accepted M).1 v)

-- ---- of one table

module _ {M : Table} (valid : Valid M) where
  -- the bonds of an assembly are a bond set
  assembly_lt : (a : ℕ) → assembly_bonds M a < 2 ^ bonds M
  assembly_lt a =
      below (assembly_bonds M a) (bonds M) (λ b l. not_passed _ (λ h.
      let (k, c, o, u) = (assembly_bond valid a b).0 h in
      lt_irrefl b (lt_of_lt_of_le (member_below (bonds M) b (basis-even valid c).within u) l)))

  -- each assembly has a ring inside it
  assembly_some : (a : ℕ) → a < assembly_count (basis_rings M) → (s : ℕ) × Ring M s × Sub s (assembly_bonds M a)
  assembly_some a l =
      let rs = basis_rings M in
      let (i, h, t, e) = number-occurs rs a l in
      let own : In (get_or rs i 0) (rings_in rs a) = rw e at (ring_in_own rs i h) in
      (get_or rs i 0, basis-rings_are_rings valid i h, λ b u. (has-union_of (rings_in rs a) b).1 (get_or rs i 0, own, u))

  -- what has bonds is an assembly
  assembly_number : (a b : ℕ) → has (assembly_bonds M a) b ≡ true → a < assembly_count (basis_rings M)
  unfolding assemblies
  assembly_number a b h =
      let (k, c, o, u) = (assembly_bond valid a b).0 h in
      rw o at (number_below (basis_rings M) _ (place-lt valid c))

  -- the basis rings of an assembly are even sets inside it
  assembly_member : (a s : ℕ) → In s (rings_in (basis_rings M) a) → Even M s × Sub s (assembly_bonds M a)
  assembly_member a s i = (assembly_evens valid a s).1 (span→sum (span_in i))

  -- each assembly has a bond
  assembly_first : (a : ℕ) → a < assembly_count (basis_rings M) → (b : ℕ) × (has (assembly_bonds M a) b ≡ true)
  assembly_first a l =
      let (s, h, part) = assembly_some a l in
      let (b, u, _) = lowest s (pos_of_ne-zero h.some) in
      (b, part b u)

-- ---- bonds

module _ {M N : Table} (r : Renumbered M N) (v : Valid M) (w : Valid N) where
  -- chains of rings are carried to chains of rings
  together_carried : {x y : ℕ} → Together M x y → Together N (r.bond x) (r.bond y)
  together_carried alone = alone
  together_carried (held s h p q t) = held (carried r s) (ring_carried r v.inside h) (new _ p) (new _ q) (together_carried t)
    where
      new : (k : ℕ) → has s k ≡ true → has (carried r s) (r.bond k) ≡ true
      new k e = image_new r.bonds_renamed s k (member_below (bonds M) k h.even.within e) ∙ e

  -- assemblies with a common bond: all bonds of the one are bonds of the other
  assembly_part : (a b x : ℕ) → has (assembly_bonds M a) x ≡ true → has (assembly_bonds N b) (r.bond x) ≡ true
      → Sub (carried r (assembly_bonds M a)) (assembly_bonds N b)
  assembly_part a b x p q j h =
      let (l, m) = image_member r.bonds_renamed (assembly_bonds M a) j h in
      let chain = together_carried ((assembly_class v a x (r.bond⁻¹ j) p).0 m) in
      (assembly_class w b (r.bond x) j q).1 (rw (r.bonds_renamed.redone j l) at chain)

-- assembly a of M and assembly b of N have the same bonds, and as many basis rings
pub record Corresponds {M N : Table} (r : Renumbered M N) (a b : ℕ) : Type 0 where
  pub same-bond-set : carried r (assembly_bonds M a) ≡ assembly_bonds N b
  pub same_length : length (rings_in (basis_rings M) a) ≡ length (rings_in (basis_rings N) b)

module _ {M N : Table} (r : Renumbered M N) (v : Valid M) (w : Valid N) where
  -- the renumbering read the other way
  abbrev back : Renumbered N M
  back = renumbered_back r v.inside

  -- so assemblies with a common bond have the same bonds
  bonds_correspond : (a b x : ℕ) → has (assembly_bonds M a) x ≡ true → has (assembly_bonds N b) (r.bond x) ≡ true
      → carried r (assembly_bonds M a) ≡ assembly_bonds N b
  unfolding renumbered_back
  bonds_correspond a b x p q =
      let old : r.bond⁻¹ (r.bond x) ≡ x = r.bonds_renamed.undone x (member_below (bonds M) x (assembly_lt v a) p) in
      let part : Sub (carried back (assembly_bonds N b)) (assembly_bonds M a)
      = assembly_part back w v b a (r.bond x) q (ap (has (assembly_bonds M a)) old ∙ p) in
      sub_antisym (carried r (assembly_bonds M a)) (assembly_bonds N b) (assembly_part r v w a b x p q)
      (subst (λ (s : ℕ). Sub s (carried r (assembly_bonds M a))) (carried_here r v.inside (assembly_bonds N b) (assembly_lt w b))
      (image_sub r.bonds_renamed _ _ part))

  -- ---- basis rings

  -- and as many basis rings
  rings_correspond : (a b : ℕ) → carried r (assembly_bonds M a) ≡ assembly_bonds N b
      → length (rings_in (basis_rings M) a) ≡ length (rings_in (basis_rings N) b)
  rings_correspond a b e =
      image_length (carried r) (image_xor r.bonds_renamed) (rings_in (basis_rings M) a)
      (λ x s. image_none r.bonds_renamed x (span_even M (λ u i. (assembly_member v a u i).0) s).within)
      (rings_in (basis_rings N) b)
      ((independent_iff_indep _).0 (assembly_independent v a)) ((independent_iff_indep _).0 (assembly_independent w b)) up down
    where
      up : (s : ℕ) → In s (rings_in (basis_rings M) a) → Span (rings_in (basis_rings N) b) (carried r s)
      up s i =
          let (h, part) = assembly_member v a s i in
          sum→span ((assembly_evens w b (carried r s)).0
          (even_carried r v.inside h, subst (Sub (carried r s)) e (image_sub r.bonds_renamed s (assembly_bonds M a) part)))

      down : (t : ℕ) → In t (rings_in (basis_rings N) b) → Span (map (carried r) (rings_in (basis_rings M) a)) t
      down t i =
          let (h, part) = assembly_member w b t i in
          let old = carried back t in
          let whole : carried back (assembly_bonds N b) ≡ assembly_bonds M a
          = ap (carried back) (sym e) ∙ carried_there r v.inside (assembly_bonds M a) (assembly_lt v a) in
          let inner : Sub old (assembly_bonds M a) = subst (Sub old) whole (image_sub back.bonds_renamed t (assembly_bonds N b) part) in
          span_eq (carried_here r v.inside t h.within)
          (map_span (carried r) (image_xor r.bonds_renamed) (sum→span ((assembly_evens v a old).0 (even-back r v.inside h, inner))))

  -- ---- each assembly has one that corresponds

  -- whichever forests the bond orders of M and N choose, each assembly of M corresponds to one of N
  pub assemblies_of_renumbered : (a : ℕ) → a < assembly_count (basis_rings M) → (b : ℕ) × (b < assembly_count (basis_rings N)) × Corresponds r a b
  assemblies_of_renumbered a l =
      let (s, h, part) = assembly_some v a l in
      let (x, u, _) = lowest s (pos_of_ne-zero h.some) in
      let (b, sum) = ring_in_one_assembly w (ring_carried r v.inside h) in
      let new : has (carried r s) (r.bond x) ≡ true = image_new r.bonds_renamed s x (member_below (bonds M) x h.even.within u) ∙ u in
      let q = ((assembly_evens w b (carried r s)).1 sum).1 (r.bond x) new in
      let e = bonds_correspond a b x (part x u) q in
      (b, assembly_number w b (r.bond x) q, record { same-bond-set = e; same_length = rings_correspond a b e })

module _ {M N : Table} (r : Renumbered M N) (v : Valid M) (w : Valid N) where
  -- and each of N to one of M
  pub assemblies_onto : (b : ℕ) → b < assembly_count (basis_rings N) → (a : ℕ) × (a < assembly_count (basis_rings M)) × Corresponds r a b
  assemblies_onto b l =
      let (a, m, c) = assemblies_of_renumbered (renumbered_back r v.inside) w v b l in (
        a,
        m,
        record {
          same-bond-set = ap (carried r) (sym c.same-bond-set) ∙ carried_here r v.inside (assembly_bonds N b) (assembly_lt w b);
          same_length = sym c.same_length;
        },
      )

  -- different assemblies of M correspond to different ones of N
  pub corresponds_one : (a c b : ℕ) → a < assembly_count (basis_rings M) → Corresponds r a b → Corresponds r c b → a ≡ c
  corresponds_one a c b l p q =
      let (x, u) = assembly_first v a l in
      let e = image_one r.bonds_renamed (assembly_bonds M a) (assembly_bonds M c) (assembly_lt v a) (assembly_lt v c)
      (p.same-bond-set ∙ sym q.same-bond-set) in
      assemblies_disjoint v x u (ap (λ (s : ℕ). has s x) (sym e) ∙ u)

  -- the number of basis rings and that of bonds are the same
  pub corresponds_pair : (a b : ℕ) → Corresponds r a b → pair_of (rings_in (basis_rings M) a) ≡ pair_of (rings_in (basis_rings N) b)
  unfolding pair_of
  corresponds_pair a b c =
      ap₂ (λ (n s : ℕ). n * 256 + s) c.same_length (sym (size_image r.bonds_renamed (assembly_bonds M a) (assembly_lt v a)) ∙ ap size c.same-bond-set)

-- ---- the list of pairs

-- how often a number occurs in a list of values is how many values it is
occurs_ones : (z n : ℕ) (f : ℕ → ℕ) → occurs z (gather n (λ a. f a ∷ [])) ≡ count n (λ a. eqb (f a) z)
unfolding occurs
occurs_ones z n f =
    ap (λ l. length (keep (λ x. eqb x z) l)) (gather_ones n f)
    ∙ ap length (keep-listed (λ x. eqb x z) n (λ a. true) f) ∙ length-listed n (λ a. eqb (f a) z) f

-- the pair of each assembly
abbrev pair_at : Table → ℕ → ℕ
pair_at M a = pair_of (rings_in (basis_rings M) a)

module _ {M N : Table} (r : Renumbered M N) (v : Valid M) (w : Valid N) where
  -- no more assemblies have a given pair, since each has a partner with that pair
  pairs_matched : (z : ℕ) → count (assembly_count (basis_rings M)) (λ a. eqb (pair_at M a) z) ≤ count (assembly_count (basis_rings N)) (λ a. eqb (pair_at N a) z)
  pairs_matched z =
      matched_count (Corresponds r) _ _ _ _
      (record {
        partner = λ a i.
            let (l, t) = (those_in _ (λ a. eqb (pair_at M a) z) a).0 i in
            let (b, m, c) = assemblies_of_renumbered r v w a l in
            (b, (those_in _ (λ a. eqb (pair_at N a) z) b).1 (m, ap (λ (x : ℕ). eqb x z) (sym (corresponds_pair r v w a b c)) ∙ t), c);
        one = λ a c b i j. corresponds_one r v w a c b ((those_in _ (λ a. eqb (pair_at M a) z) a).0 i).0;
      })

  -- an assembly with too many basis rings corresponds to one with too many
  tangled_carried : tangled? M ≡ true → tangled? N ≡ true
  unfolding tangled?
  tangled_carried e =
      let (a, l, t) = some_at _ _ e in
      let (b, m, c) = assemblies_of_renumbered r v w a l in
      some_of _ _ b m (ap (ltb max_assembly) (sym c.same_length) ∙ t)

module _ {M N : Table} (r : Renumbered M N) (v : Valid M) where
  -- the sorted pairs agree
  pub pairs_of_renumbered : assembly_pairs M ≡ assembly_pairs N
  unfolding assembly_pairs
  pairs_of_renumbered =
      let w = valid_carried r v in
      sort_equal ltb_order _ _ (λ z.
      occurs_ones z (assembly_count (basis_rings M)) (pair_at M)
      ∙ le_antisymm (pairs_matched r v w z) (pairs_matched (renumbered_back r v.inside) w v z)
      ∙ sym (occurs_ones z (assembly_count (basis_rings N)) (pair_at N)))

  -- and so does whether an assembly has too many basis rings
  pub tangled_of_renumbered : tangled? M ≡ tangled? N
  tangled_of_renumbered =
      let w = valid_carried r v in
      same_test _ _ (tangled_carried r v w) (tangled_carried (renumbered_back r v.inside) w v)
