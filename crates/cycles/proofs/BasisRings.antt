-- The basis ring of a closure bond. A closure bond and a path through the forest from one end of it to the other are an even set, since a
-- path meets every atom evenly but its two ends; it has one closure bond alone, so it is the only even set of that bond and forest bonds, and it
-- is a ring. Assumes nothing.
use mathlib.Core.Path.{◌≡◌, refl, sym, ap, ap₂, ◌∙◌}
use mathlib.Core.Logic.{◌≢◌, ◌↔◌, ⊎_elim}
use mathlib.Core.Bool.{Bool, true, false, not, ◌&&◌, ◌||◌, xor, and-false, or-false}
use mathlib.Core.List.Memᴰ
use mathlib.Core.List.{List, [], ◌∷◌, Memᴰ}
use Prim.Native.Nat.{ℕ, suc, ◌^◌, ◌<◌}
use native.Mathlib.Nat.{lt_irrefl, lt_of_lt_of_le}
use lib.Bits.{bit_xor, or_disjoint, xor_disjoint}
use lib.Dec.{eqb, ltb}
use lib.ListN.{get_or}
use borrow.Author.Tests.{eqb-true, eqb-false}
use Rattle.sets.specs.Bits.{has, with, Sub, sub}
use Rattle.sets.proofs.Laws.{ext, below, has-with}
use Rattle.sets.proofs.Size.{and-pow-none, sub_test, test_sub}
use Rattle.sets.proofs.Members.{with-lt}
use Rattle.definitions.specs.Search.{those}
use Rattle.definitions.specs.Table.{Table, bonds, tail, head, meets?}
use Rattle.definitions.specs.Ring.{Even, Ring, even?}
use Rattle.definitions.specs.Basis.{Joins, Joins.along, Joins.back, Path, Path.stay, Path.go, Closure, forest, BasisRing, basis_ring}
use Rattle.definitions.proofs.Tests.{by, clashes, not_passed, and_both, both_and}
use Rattle.definitions.proofs.Lists.{those_in}
use Rattle.definitions.proofs.Refusals.{Valid}
use Rattle.definitions.proofs.Paths.{with_new, with_old, with-other, path-bonds, closure_test, has-forest, forest-path}
use Rattle.definitions.proofs.Rings.{even_test}
use Rattle.cycles.proofs.Xor.{xor_self, xor_comm, sums}
use Rattle.cycles.proofs.Evens.{odd_at, odd_xor, odd_zero, odd_pow, even_of, member-some, meets_xor}
use Rattle.cycles.proofs.Closures.{even_top, even-eq}
use Rattle.cycles.proofs.Fundamental.{Fundamental}

-- one member more is a sum
pub with-xor : (s k : ℕ) → has s k ≡ false → with s k ≡ bit_xor s (2 ^ k)
unfolding with
with-xor s k h = let e = and-pow-none s k h in or_disjoint s (2 ^ k) e ∙ sym (xor_disjoint s (2 ^ k) e)

-- every other member was there before
with-before : (s k j : ℕ) → has (with s k) j ≡ true → j ≢ k → has s j ≡ true
with-before s k j h ne = ⊎_elim (λ e. e) (λ e. absurd (ne (sym e))) (with-other s k j h)

-- ---- the set of the bonds of a path

-- it is a set of bonds
pub path-within : {M : Table} {p : ℕ → Bool} {a b s : ℕ} → Path M p a b s → s < 2 ^ bonds M
path-within {M} {s = s} r = below s (bonds M) (λ j l. not_passed (has s j) (λ h. lt_irrefl j (lt_of_lt_of_le (path-bonds r j h).0 l)))

module _ {M : Table} (valid : Valid M) where
  -- a bond meets an atom where it is one of the two that it joins
  joins_meets : {j a b : ℕ} → Joins M j a b → (v : ℕ) → j < bonds M → meets? M v j ≡ xor (eqb a v) (eqb b v)
  joins_meets {j} along v l = meets_xor valid v j l
  joins_meets {j} back v l = meets_xor valid v j l ∙ xor_comm (eqb (tail M j) v) (eqb (head M j) v)

  -- an odd number of its bonds meet an atom where the atom is one of the ends and not both
  pub path_odd : {p : ℕ → Bool} {a b s : ℕ} → Path M p a b s → (v : ℕ) → odd_at M s v ≡ xor (eqb a v) (eqb b v)
  path_odd {a = a} stay v = odd_zero M v ∙ sym (xor_self (eqb a v))
  path_odd (go {j = j} {a = a} {b = b} {c = c} {s = s} l e fresh joins r) v =
      ap (λ (x : ℕ). odd_at M x v) (with-xor s j fresh) ∙ odd_xor M s (2 ^ j) v
      ∙ ap₂ xor (path_odd r v) (odd_pow M j v l ∙ joins_meets joins v l) ∙ simp sums

-- ---- the even set of a closure bond and forest bonds

-- the number that alone passes is the first that does
first_of-one : (n : ℕ) (p : ℕ → Bool) (x : ℕ) → x < n → p x ≡ true → ((y : ℕ) → p y ≡ true → y ≡ x) → get_or (those n p) 0 0 ≡ x
first_of-one n p x l e one =
    go (those n p) ((those_in n p x).1 (l, e)) (λ y i. one y ((those_in n p y).0 i).1)
  where
    go : (xs : List ℕ) → Memᴰ x xs → ((y : ℕ) → Memᴰ y xs → y ≡ x) → get_or xs 0 0 ≡ x
    go [] i h = absurd (Memᴰ.not-nil i)
    go (y ∷ xs) i h = h y (Memᴰ.head refl)

module _ (M : Table) (k : ℕ) where
  -- the test by which `basis_ring` searches
  fundamental? : ℕ → Bool
  fundamental? s = has s k && (sub s (with (forest M) k) && even? M s)

  -- the test says so
  fundamental_test : (s : ℕ) → (fundamental? s ≡ true) ↔ Fundamental M k s
  unfolding fundamental?
  fundamental_test s = (
    λ e. let (u, r) = and_both (has s k) _ e in
        let (v, w) = and_both (sub s (with (forest M) k)) _ r in
        record {
          even = (even_test M s).0 w;
          member = u;
          tree = λ j h. with-before (forest M) k j (test_sub s (with (forest M) k) v j h);
        },
    λ f. both_and f.member (both_and (sub_test s (with (forest M) k) (known f)) ((even_test M s).1 f.even)),
  )
    where
      known : Fundamental M k s → Sub s (with (forest M) k)
      known f j h =
          by (eqb k j) (λ e. ap (has (with (forest M) k)) (sym (eqb-true k j e)) ∙ with_new (forest M) k)
          (λ e. with_old (forest M) k j (f.tree j h (λ i. eqb-false k j e (sym i))))

module _ {M : Table} (valid : Valid M) where
  -- a closure bond is no forest bond
  pub closure_no_forest : {k : ℕ} → Closure M k → has (forest M) k ≡ false
  closure_no_forest {k} c =
      has-forest M k ∙ ap (λ (x : Bool). ltb k (bonds M) && not x) ((closure_test valid k c.bond).1 c) ∙ and-false (ltb k (bonds M))

  -- bond k is its only closure bond
  pub fundamental_at : {k s j : ℕ} → Fundamental M k s → Closure M j → has s j ≡ eqb k j
  fundamental_at {k} {s} {j} f c =
      by (eqb k j) (λ e. ap (has s) (sym (eqb-true k j e)) ∙ f.member ∙ sym e)
      (λ e. by (has s j) (λ h. clashes (f.tree j h (λ i. eqb-false k j e (sym i))) (closure_no_forest c)) (λ h. h ∙ sym e))

  -- there is one such set at most
  pub fundamental_unique : {k s t : ℕ} → Fundamental M k s → Fundamental M k t → s ≡ t
  fundamental_unique f g = even-eq valid f.even g.even (λ j c. fundamental_at f c ∙ sym (fundamental_at g c))

  -- and it is the basis ring
  pub basis-ring_is : {k s : ℕ} → Fundamental M k s → s ≡ basis_ring M k
  unfolding basis_ring fundamental?
  basis-ring_is {k} {s} f =
      sym (first_of-one (2 ^ bonds M) (fundamental? M k) s f.even.within ((fundamental_test M k s).1 f)
      (λ t e. fundamental_unique ((fundamental_test M k t).0 e) f))

  -- ---- the closure bond and a path through the forest from one end of it to the other

  -- such a path does not go over the closure bond
  pub way_fresh : {k a b w : ℕ} → Closure M k → Path M (has (forest M)) a b w → has w k ≡ false
  way_fresh {k} {w = w} c r =
      by (has w k) (λ h. clashes (path-bonds r k h).1 (closure_no_forest c)) (λ h. h)

  -- the closure bond with the bonds of such a path is an even set of it and forest bonds
  pub way_fundamental : {k w : ℕ} → Closure M k → Path M (has (forest M)) (tail M k) (head M k) w → Fundamental M k (with w k)
  way_fundamental {k} {w} c r =
      record {
        even = even_of M (with w k) (with-lt (bonds M) w k (path-within r) c.bond) flat;
        member = with_new w k;
        tree = λ j h ne. (path-bonds r j (with-before w k j h ne)).1;
      }
    where
      flat : (v : ℕ) → v < M.atoms → odd_at M (with w k) v ≡ false
      flat v l =
          ap (λ (x : ℕ). odd_at M x v) (with-xor w k (way_fresh c r)) ∙ odd_xor M w (2 ^ k) v
          ∙ ap₂ xor (path_odd valid r v) (odd_pow M k v c.bond ∙ meets_xor valid v k c.bond) ∙ xor_self _

  -- the basis ring of a closure bond is the even set of it and forest bonds
  pub basis_fundamental : {k : ℕ} → Closure M k → Fundamental M k (basis_ring M k)
  basis_fundamental {k} c =
      let (w, r, _) = forest-path valid c in
      let f = way_fundamental c r in
      rw (basis-ring_is f) at f

  -- the reading: it is the closure bond and the bonds of a path through the forest that joins its two ends
  pub basis-ring_reads : {k : ℕ} → Closure M k → (s : ℕ) → BasisRing M k s ↔ (s ≡ basis_ring M k)
  basis-ring_reads {k} c s = (
    λ b. b.whole ∙ basis-ring_is (way_fundamental c b.path),
    λ e. let (w, r, _) = forest-path valid c in
        record { closure = c; way = w; path = r; whole = e ∙ sym (basis-ring_is (way_fundamental c r)) },
  )

  -- two paths of forest bonds between the ends of a closure bond have the same bonds
  pub one-forest-path : {k v w : ℕ} → Closure M k → Path M (has (forest M)) (tail M k) (head M k) v
      → Path M (has (forest M)) (tail M k) (head M k) w → v ≡ w
  one-forest-path {k} {v} {w} c q r = ext v w (λ j. go j (eqb k j) refl)
    where
      same : with v k ≡ with w k
      same = fundamental_unique (way_fundamental c q) (way_fundamental c r)

      go : (j : ℕ) (b : Bool) → eqb k j ≡ b → has v j ≡ has w j
      go j true e = ap (has v) (sym (eqb-true k j e)) ∙ way_fresh c q ∙ sym (way_fresh c r) ∙ ap (has w) (eqb-true k j e)
      go j false e =
          let u : has v j || eqb k j ≡ has w j || eqb k j = sym (has-with v k j) ∙ ap (λ (x : ℕ). has x j) same ∙ has-with w k j in
          sym (or-false (has v j)) ∙ rw e at u ∙ or-false (has w j)

  -- ---- what a basis ring is

  -- it is an even set
  pub basis-even : {k : ℕ} → Closure M k → Even M (basis_ring M k)
  basis-even c = (basis_fundamental c).even

  -- it holds its closure bond and no other
  pub basis-at : {k j : ℕ} → Closure M k → Closure M j → has (basis_ring M k) j ≡ eqb k j
  basis-at c d = fundamental_at (basis_fundamental c) d

  -- it holds its closure bond
  pub basis-has : {k : ℕ} → Closure M k → has (basis_ring M k) k ≡ true
  basis-has c = (basis_fundamental c).member

  -- so it is not empty
  pub basis-some : {k : ℕ} → Closure M k → basis_ring M k ≢ 0
  basis-some {k} c = member-some k (basis-has c)

  -- its closure bond is its highest
  pub basis_top : {k : ℕ} → Closure M k → basis_ring M k < 2 ^ suc k
  basis_top {k} c =
      let (j, h, top, d) = even_top valid (basis-even c) (basis-some c) in
      rw (← (eqb-true k j (sym (basis-at c d) ∙ h))) at top

  -- it is a ring
  pub basis_is_ring : {k : ℕ} → Closure M k → Ring M (basis_ring M k)
  basis_is_ring {k} c = record { even = basis-even c; some = basis-some c; least = least }
    where
      least : (t : ℕ) → Even M t → t ≢ 0 → Sub t (basis_ring M k) → t ≡ basis_ring M k
      least t e some inside = even-eq valid e (basis-even c) (λ x d. agree x d (eqb k x) refl ∙ sym (basis-at c d))
        where
          holds : has t k ≡ true
          holds = let (j, h, top, d) = even_top valid e some in ap (has t) (eqb-true k j (sym (basis-at c d) ∙ inside j h)) ∙ h

          agree : (x : ℕ) → Closure M x → (b : Bool) → eqb k x ≡ b → has t x ≡ b
          agree x d true i = ap (has t) (sym (eqb-true k x i)) ∙ holds
          agree x d false i = by (has t x) (λ h. clashes (inside x h) (basis-at c d ∙ i)) (λ h. h)
