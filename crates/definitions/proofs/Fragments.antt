-- Fragments: two atoms are of one exactly if a path joins them, and there are as many as atoms in a list that has one of each. Each bond in
-- order closes a ring or makes two fragments one, so that the Frerejacque number is the number of basis rings. Assumes nothing.
use mathlib.Core.Path.{◌≡◌, refl, sym, ap, ◌∙◌, subst}
use mathlib.Core.Bool.{Bool}
use mathlib.Core.List.Memᴰ
use mathlib.Core.List.{List, map, Memᴰ as In}
use mathlib.Core.Logic.Iff
use mathlib.Core.Logic.{◌↔◌, ◌≢◌}
use Prim.Native.Nat.{ℕ, zero, suc, ◌+◌, ◌≤◌, ◌<◌, min, max}
use native.Mathlib.Numerals.{add-one}
use native.Mathlib.Nat.{le_refl, max-eq_left, max-eq_right}
use native.Mathlib.Omega.{arith}
use lib.ListN.{length, get_or, length-map}
use lib.Dec.{eqb, leb}
use borrow.Author.Tests.{eqb-true, eqb-false, eq-eqb, ne_eqb, leb-true, leb-false, lt-ltb}
use Rattle.definitions.specs.Search.{count, those}
use Rattle.definitions.specs.Table.{Table, bonds, tail, head}
use Rattle.definitions.specs.Basis.{ends_below, fragments, closure?, basis_ring, basis_rings}
use Rattle.definitions.specs.Fragment.{OneFragment, fragment_of, fragment_count}
use Rattle.definitions.specs.Label.{frerejacque}
use Rattle.definitions.proofs.Tests.{by, same_test}
use Rattle.definitions.proofs.Lists.{NoRepeats, fresh_length, fresh_map, count_skip, count-take, count_all, count_ext, count_differ, length-listed, those_in, those_fresh}
use Rattle.definitions.proofs.Refusals.{Valid}
use Rattle.definitions.proofs.Classes.{Least, merged, merged_max, merged_other, merged_same, label_none, classes-least}
use Rattle.definitions.proofs.Paths.{way_more, ends-within, fragments_more, fragments-way}

-- ---- one atom of each fragment

-- the number of an atom's fragment by the bonds below k
abbrev number : Table → ℕ → ℕ → ℕ
number M k a = get_or (fragments M k) a 0

-- a list has one atom of each fragment, and no more
pub record OneOfEach (M : Table) (l : List ℕ) : Type 0 where
  pub fresh : NoRepeats l
  pub atoms : (a : ℕ) → In a l → a < M.atoms
  pub each : (a : ℕ) → a < M.atoms → (b : ℕ) × In b l × OneFragment M a b
  pub one : (a b : ℕ) → In a l → In b l → OneFragment M a b → a ≡ b

-- the atoms that are the first of their fragments
abbrev pub firsts : Table → List ℕ
firsts M = those M.atoms (λ a. eqb (fragment_of M a) a)

module _ {M : Table} (v : Valid M) where
  -- two atoms are of one fragment exactly if a path joins them
  pub one_fragment : (a b : ℕ) → a < M.atoms → b < M.atoms → (fragment_of M a ≡ fragment_of M b) ↔ OneFragment M a b
  unfolding fragment_of
  one_fragment a b x y =
      Iff.trans (fragments-way v (bonds M) (le_refl (bonds M)) a b x y)
      (way_more (λ j l e. refl), way_more (λ j l e. lt-ltb j (bonds M) l))

  -- by the bonds below k too the number of an atom's fragment is the least atom in it
  number-least : (k a : ℕ) → k ≤ bonds M → a < M.atoms → Least M.atoms (ends_below M k) a (number M k a)
  unfolding fragments
  number-least k a h l = classes-least M.atoms (ends_below M k) (ends-within v k h) a l

  -- so each fragment has a first atom
  first-atom : (a : ℕ) → a < M.atoms → (fragment_of M a < M.atoms) × (fragment_of M (fragment_of M a) ≡ fragment_of M a)
  unfolding fragment_of fragments
  first-atom a l = let first = number-least (bonds M) a (le_refl (bonds M)) l in (omega (arith, first.low), first.own)

  -- the first atoms are the atoms that are their own number
  firsts_in : (a : ℕ) → In a (firsts M) ↔ ((a < M.atoms) × (fragment_of M a ≡ a))
  firsts_in a = let t = those_in M.atoms (λ a. eqb (fragment_of M a) a) a in
      (λ i. let (l, e) = t.0 i in (l, eqb-true _ _ e), λ h. t.1 (h.0, eq-eqb _ _ h.1))

  -- they are one of each fragment
  pub first_of-each : OneOfEach M (firsts M)
  first_of-each = record {
    fresh = those_fresh _ _;
    atoms = λ a i. ((firsts_in a).0 i).0;
    each = λ a l. let (low, own) = first-atom a l in
        (fragment_of M a, (firsts_in (fragment_of M a)).1 (low, own), (one_fragment a (fragment_of M a) l low).0 (sym own));
    one = λ a b i j path. let (l, e) = (firsts_in a).0 i in let (m, f) = (firsts_in b).0 j in sym e ∙ (one_fragment a b l m).1 path ∙ f;
  }

  -- so the number of fragments is the length of every list that has one atom of each
  pub fragments-counted : (l : List ℕ) → OneOfEach M l → length l ≡ fragment_count M
  unfolding fragment_count
  fragments-counted l o =
      let there : length (map (fragment_of M) l) ≤ length (firsts M)
      = fresh_length
      (fresh_map (fragment_of M) o.fresh (λ a b i j e. o.one a b i j ((one_fragment a b (o.atoms a i) (o.atoms b j)).0 e)))
      (λ x i. let (a, k, e) = Memᴰ.of_map (fragment_of M) l i in
      Memᴰ.cast (sym e) ((firsts_in (fragment_of M a)).1 (first-atom a (o.atoms a k)))) in
      let back : length (firsts M) ≤ length (map (fragment_of M) l)
      = fresh_length (those_fresh _ _) (λ x i.
      let (h, own) = (firsts_in x).0 i in
      let (b, k, path) = o.each x h in
      Memᴰ.cast (sym own ∙ (one_fragment x b h (o.atoms b k)).1 path) (Memᴰ.map (fragment_of M) k)) in
      omega (arith, there, back, length-map l (fragment_of M), length-listed M.atoms (λ a. eqb (fragment_of M a) a) (λ a. a))

-- ---- two fragments made one

-- an atom is the first of its fragment by the bonds below k
abbrev first_by? : Table → ℕ → ℕ → Bool
first_by? M k a = eqb (number M k a) a

-- how many fragments these bonds leave
abbrev fragments_by : Table → ℕ → ℕ
fragments_by M k = count M.atoms (first_by? M k)

-- an atom a of number z, not the higher of the first atoms x and y, is a first atom after as before
first-kept : (x y z a : ℕ) → (a ≡ x → z ≡ x) → (a ≡ y → z ≡ y) → a ≢ max x y → eqb z a ≡ eqb (merged x y z) a
first-kept x y z a hx hy other =
    same_test (eqb z a) (eqb (merged x y z) a)
    (λ e. let i = eqb-true z a e in eq-eqb (merged x y z) a (merged_other x y z (ne_eqb z (max x y) (λ q. other (sym i ∙ q))) ∙ i))
    (λ e.
    let i = eqb-true (merged x y z) a e in
    eq-eqb z a
    (by (eqb z (max x y))
    (λ t. let low : a ≡ min x y = sym i ∙ merged_max x y z (eqb-true z (max x y) t) in
    by (eqb a x) (λ u. hx (eqb-true a x u) ∙ sym (eqb-true a x u)) (λ u. let s : a ≡ y = omega (arith, eqb-false a x u) in hy s ∙ sym s))
    (λ t. sym (merged_other x y z t) ∙ i)))

-- what is its own number at x and at y is so at the higher of them
own_max : (f : ℕ → ℕ) (x y : ℕ) → f x ≡ x → f y ≡ y → f (max x y) ≡ max x y
own_max f x y p q =
    by (leb y x)
    (λ e. rw (max-eq_left (leb-true y x e)) p)
    (λ e. rw (max-eq_right (let h : x ≤ y = omega (arith, leb-false y x e) in h)) q)

-- ---- the bonds in order

module _ {M : Table} (v : Valid M) where
  module _ (k : ℕ) (l : k < bonds M) where
    -- the first atoms of the fragments of the two ends
    abbrev x : ℕ
    x = number M k (tail M k)

    abbrev y : ℕ
    y = number M k (head M k)

    -- a closure bond leaves the fragments as they are
    as_many : x ≡ y → fragments_by M (k + 1) ≡ fragments_by M k
    as_many e = count_ext M.atoms _ _ (λ a m. ap (λ z. eqb z a) (fragments_more M k a ∙ merged_same x y (number M k a) e))

    -- any other makes two of them one
    one_less : x ≢ y → fragments_by M k ≡ fragments_by M (k + 1) + 1
    unfolding fragments
    one_less h =
        let inside = v.inside k l in
        let first-x = number-least v k (tail M k) (omega arith) inside.0 in
        let first-y = number-least v k (head M k) (omega arith) inside.1 in
        let high = own_max (number M k) x y first-x.own first-y.own in
        count_differ M.atoms (max x y) (first_by? M k) (first_by? M (k + 1)) (omega (arith, inside, first-x.low, first-y.low))
        (eq-eqb (number M k (max x y)) (max x y) high)
        (ne_eqb (number M (k + 1) (max x y)) (max x y) (λ e. h (omega (arith, e, fragments_more M k (max x y) ∙ merged_max x y (number M k (max x y)) high))))
        (λ a m other. first-kept x y (number M k a) a (λ e. ap (number M k) e ∙ first-x.own) (λ e. ap (number M k) e ∙ first-y.own) other
        ∙ ap (λ z. eqb z a) (sym (fragments_more M k a)))

    -- so closure bonds and atoms are as many as bonds and fragments, with this bond where they are without
    one_more : count k (closure? M) + M.atoms ≡ k + fragments_by M k → count (k + 1) (closure? M) + M.atoms ≡ k + 1 + fragments_by M (k + 1)
    unfolding closure?
    one_more h =
        by (eqb x y)
        (λ e. omega (arith, count-take (closure? M) k refl e, as_many (eqb-true x y e)))
        (λ e. omega (arith, count_skip (closure? M) k refl e, one_less (eqb-false x y e)))

  -- closure bonds below k and atoms are as many as those bonds and the fragments that they leave
  balanced : (k : ℕ) → k ≤ bonds M → count k (closure? M) + M.atoms ≡ k + fragments_by M k
  unfolding count fragments ends_below
  balanced zero h = omega (arith, count_all (first_by? M 0) M.atoms (λ a l. eq-eqb _ a (label_none M.atoms a l)))
  balanced (suc k) h = subst (λ i. count i (closure? M) + M.atoms ≡ i + fragments_by M i) (add-one k) (one_more k h (balanced k (omega arith)))

  -- basis rings and atoms are as many as bonds and fragments
  pub ring-count : length (basis_rings M) + M.atoms ≡ bonds M + fragment_count M
  unfolding basis_rings fragment_count fragment_of
  ring-count = omega (arith, length-listed (bonds M) (closure? M) (basis_ring M), balanced (bonds M) (omega arith))

  -- so the Frerejacque number is the number of basis rings
  pub frerejacque_is_basis : frerejacque M ≡ length (basis_rings M)
  unfolding frerejacque
  frerejacque_is_basis = omega (arith, ring-count)
