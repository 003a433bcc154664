-- The walk as a function, step by step: the first number that passes, the other bond at an atom, the places in order and the two lists of
-- them, and what the test `closes?` says. Assumes nothing.
use mathlib.Core.Path.{◌≡◌, refl, sym, ap, ◌∙◌}
use mathlib.Core.Logic.{◌≢◌, ◌↔◌}
use mathlib.Core.Bool.{Bool, true, false, ◌&&◌, not, false≢true}
use mathlib.Core.List.{map}
use Prim.Native.Nat.{ℕ, zero, suc, ◌%◌, ◌≤◌, ◌<◌, min}
use native.Mathlib.Omega.{arith}
use lib.Dec.{eqb, leb}
use lib.ListN.{length, get_or}
use borrow.Author.Tests.{eqb-true, eqb-false, eq-eqb, leb-true, leb-false, not-true}
use Rattle.sets.specs.Bits.{has, size}
use Rattle.definitions.specs.Search.{some?, those}
use Rattle.definitions.specs.Table.{Table, bonds, tail, head, meets?}
use Rattle.definitions.specs.Ring.{degree}
use Rattle.definitions.specs.Basis.{Joins, Joins.along, Joins.back}
use Rattle.definitions.specs.Walk.{At, first_that, other_atom, other_bond, onward, walk_from, walk_start, walk_of, walk_atoms, walk_bonds}
use Rattle.definitions.proofs.Tests.{by, not_passed, clashes, some_at, none-at, and_both, both_and}
use Rattle.definitions.proofs.Lists.{count_find, count-lt, listed-place}
use Rattle.definitions.proofs.Paths.{joins_turn}
use Rattle.walking.specs.Closing.{closes?}
use Rattle.walking.proofs.Bonds.{joins_meets, meets_joins, not_alone}
use Rattle.walking.proofs.Rounds.{Trail}

-- ---- the first number that passes

-- k passes, and no lower number does
pub record First (n : ℕ) (p : ℕ → Bool) (k : ℕ) : Type 0 where
  pub within : k < n
  pub passes : p k ≡ true
  pub none : (j : ℕ) → j < k → p j ≡ false

-- where one passes, the first is found
pub first_that_lem : (n : ℕ) (p : ℕ → Bool) → some? n p ≡ true → First n p (first_that n p)
first_that_lem n p t =
    let (j, b, e) = some_at n p t in
    let (k, l, h, c) = count_find p n 0 (omega (arith, count-lt p n j b e)) in
    let q : first_that n p ≡ k = ap (λ (x : ℕ). get_or (those n p) x 0) (sym c) ∙ listed-place n p (λ i. i) k 0 l h in
    rw q (record { within = l; passes = h; none = λ i m. not_passed (p i) (λ u. absurd (omega (arith, count-lt p k i m u))) })

-- and there is one first
pub first_unique : {n : ℕ} {p : ℕ → Bool} {j k : ℕ} → First n p j → First n p k → j ≡ k
first_unique {n} {p} {j} {k} a b =
    by (eqb j k) (λ e. eqb-true j k e)
    (λ e. by (leb j k) (λ t. clashes a.passes (b.none j (omega (arith, leb-true j k t, eqb-false j k e))))
    (λ t. clashes b.passes (a.none k (leb-false j k t))))

-- ---- one step

module _ (M : Table) (s : ℕ) where
  -- where the bonds of the set at an atom are even in number there is another than k
  other-bond : (a k : ℕ) → At M s a k → degree M s a % 2 ≡ 0 → At M s a (other_bond M s a k) × (other_bond M s a k ≢ k)
  unfolding other_bond
  other-bond a k p e =
      by (some? (bonds M) other?)
      (λ t. let f = first_that_lem (bonds M) other? t in
      let (u, v) = and_both _ _ f.passes in
      let (x, y) = and_both _ _ u in
      ((f.within, x, y), λ q. eqb-false k _ (not-true _ v) (sym q)))
      (λ t. absurd (not_alone M s a e p (λ j m. by (eqb k j) (λ q. sym (eqb-true k j q))
      (λ q. clashes (both_and (both_and m.1 m.2) (ap not q)) (none-at (bonds M) other? t j m.0)))))
    where
      other? : ℕ → Bool
      other? j = (has s j && meets? M a j) && not (eqb k j)

  -- the bond of a place leads to the next
  onward_joins : (p : ℕ × ℕ) → At M s p.0 p.1 → Joins M p.1 p.0 (onward M s p).0
  unfolding onward
  onward_joins p g = meets_joins M p.1 p.0 g.2

  -- where the bonds of the set are even in number there too, the walk goes on by another bond
  onward-at : (p : ℕ × ℕ) → At M s p.0 p.1 → degree M s (onward M s p).0 % 2 ≡ 0
      → At M s (onward M s p).0 (onward M s p).1 × ((onward M s p).1 ≢ p.1)
  unfolding onward
  onward-at p g e = other-bond (other_atom M p.1 p.0) p.1 (g.0, g.1, joins_meets (joins_turn (onward_joins p g))) e

  -- the start is an atom of the first bond
  pub start-at : some? (bonds M) (has s) ≡ true → At M s (walk_start M s).0 (walk_start M s).1
  unfolding walk_start
  start-at t = let f = first_that_lem (bonds M) (has s) t in (f.within, f.passes, lower (first_that (bonds M) (has s)))
    where
      lower : (k : ℕ) → meets? M (min (tail M k) (head M k)) k ≡ true
      lower k =
          by (leb (tail M k) (head M k))
          (λ e. let l = leb-true (tail M k) (head M k) e in
          let q : min (tail M k) (head M k) ≡ tail M k = omega arith in rw q (joins_meets {M = M} {k = k} along))
          (λ e. let l = leb-false (tail M k) (head M k) e in
          let q : min (tail M k) (head M k) ≡ head M k = omega arith in rw q (joins_meets {M = M} {k = k} back))

-- ---- the places in order

-- place i of the walk that is at p
unfoldable pub place : Table → ℕ → ℕ × ℕ → ℕ → ℕ × ℕ
place M s p zero = p
place M s p (suc i) = place M s (onward M s p) i

-- its atom, and its bond
abbrev pub atom_at : Table → ℕ → ℕ × ℕ → ℕ → ℕ
atom_at M s p i = (place M s p i).0

abbrev pub bond_at : Table → ℕ → ℕ × ℕ → ℕ → ℕ
bond_at M s p i = (place M s p i).1

module _ (M : Table) (s : ℕ) where
  -- the first place is where the walk is
  place-first : (p : ℕ × ℕ) → place M s p 0 ≡ p
  unfolding place
  place-first p = refl

  -- each place is one bond further than the one before
  place-onward : (p : ℕ × ℕ) (i : ℕ) → place M s p (suc i) ≡ onward M s (place M s p i)
  unfolding place
  place-onward p zero = refl
  place-onward p (suc i) = place-onward (onward M s p) i

  -- where the bonds of the set are even in number at each atom that is reached, the places are a trail
  pub places_trail : (p : ℕ × ℕ) → At M s p.0 p.1 → (n : ℕ)
      → ((i : ℕ) → i < n → Joins M (bond_at M s p i) (atom_at M s p i) (atom_at M s p (suc i)) → bond_at M s p i < bonds M → degree M s (atom_at M s p (suc i)) % 2 ≡ 0)
      → Trail M s (atom_at M s p) (bond_at M s p) n
  places_trail p g n even = record { at = at; joins = λ i l. joins i (at i (omega arith)); turns = λ i l. (next i l (at i (omega arith))).1 }
    where
      joins : (i : ℕ) → At M s (atom_at M s p i) (bond_at M s p i) → Joins M (bond_at M s p i) (atom_at M s p i) (atom_at M s p (suc i))
      joins i a = rw (atom_at, place-onward p i) (onward_joins M s (place M s p i) a)

      next : (i : ℕ) → i < n → At M s (atom_at M s p i) (bond_at M s p i)
          → At M s (atom_at M s p (suc i)) (bond_at M s p (suc i)) × (bond_at M s p (suc i) ≢ bond_at M s p i)
      next i l a = rw (atom_at, bond_at, place-onward p i) (onward-at M s (place M s p i) a (rw (atom_at, place-onward p i) at (even i l (joins i a) a.0)))

      at : (i : ℕ) → i ≤ n → At M s (atom_at M s p i) (bond_at M s p i)
      at zero l = rw (atom_at, bond_at, place-first p) g
      at (suc i) l = (next i (omega arith) (at i (omega arith))).0

-- ---- the two lists

module _ (M : Table) (s : ℕ) (f : ℕ × ℕ → ℕ) where
  -- a list of n places has n
  from_length : (n : ℕ) (p : ℕ × ℕ) → length (map f (walk_from M s n p)) ≡ n
  unfolding walk_from
  from_length zero p = refl
  from_length (suc n) p = ap suc (from_length n (onward M s p))

  -- in their order
  from_at : (n : ℕ) (p : ℕ × ℕ) (i : ℕ) → i < n → get_or (map f (walk_from M s n p)) i 0 ≡ f (place M s p i)
  unfolding walk_from place
  from_at zero p i l = absurd (omega arith)
  from_at (suc n) p zero l = refl
  from_at (suc n) p (suc i) l = from_at n (onward M s p) i (omega arith)

module _ (M : Table) (s : ℕ) where
  -- there are as many atoms as the set has bonds
  pub atoms-length : length (walk_atoms M s) ≡ size s
  unfolding walk_atoms walk_of
  atoms-length = from_length M s (λ p. p.0) (size s) (walk_start M s)

  -- and as many bonds
  pub bonds-length : length (walk_bonds M s) ≡ size s
  unfolding walk_bonds walk_of
  bonds-length = from_length M s (λ p. p.1) (size s) (walk_start M s)

  -- atom i is that of place i
  pub atoms-at : (i : ℕ) → i < size s → get_or (walk_atoms M s) i 0 ≡ atom_at M s (walk_start M s) i
  unfolding walk_atoms walk_of
  atoms-at i l = from_at M s (λ p. p.0) (size s) (walk_start M s) i l

  -- and so is bond i
  pub bonds-at : (i : ℕ) → i < size s → get_or (walk_bonds M s) i 0 ≡ bond_at M s (walk_start M s) i
  unfolding walk_bonds walk_of
  bonds-at i l = from_at M s (λ p. p.1) (size s) (walk_start M s) i l

-- ---- what the test says

-- the walk from p is back at atom a with bond n and not before, and each atom that it reaches has two bonds of the set
pub record Closing (M : Table) (s a n : ℕ) (p : ℕ × ℕ) : Type 0 where
  pub some : 0 < n
  pub twos : (i : ℕ) → i < n → degree M s (atom_at M s p (suc i)) ≡ 2
  pub closed : atom_at M s p n ≡ a
  pub not-before : (i : ℕ) → 0 < i → i < n → atom_at M s p i ≢ a

module _ (M : Table) (s a : ℕ) where
  -- back with the first bond
  closing_one : (p : ℕ × ℕ) → degree M s (onward M s p).0 ≡ 2 → (onward M s p).0 ≡ a → Closing M s a 1 p
  unfolding place
  closing_one p d e = record {
    some = omega arith;
    twos = λ i l. let z : i ≡ 0 = omega arith in rw z d;
    closed = e;
    not-before = λ i l m. absurd (omega arith);
  }

  -- not back with the first bond, and then back with bond n
  closing_more : (n : ℕ) (p : ℕ × ℕ) → degree M s (onward M s p).0 ≡ 2 → (onward M s p).0 ≢ a → Closing M s a n (onward M s p) → Closing M s a (suc n) p
  unfolding place
  closing_more n p d e c = record { some = omega arith; twos = twos; closed = c.closed; not-before = before }
    where
      twos : (i : ℕ) → i < suc n → degree M s (atom_at M s p (suc i)) ≡ 2
      twos zero l = d
      twos (suc i) l = c.twos i (omega arith)

      before : (i : ℕ) → 0 < i → i < suc n → atom_at M s p i ≢ a
      before zero l m = absurd (omega arith)
      before (suc zero) l m = e
      before (suc (suc i)) l m = c.not-before (suc i) (omega arith) (omega arith)

  -- and what is left of such a walk after its first bond
  closing_rest : (n : ℕ) (p : ℕ × ℕ) → Closing M s a (suc n) p → 0 < n → Closing M s a n (onward M s p)
  unfolding place
  closing_rest n p c l = record {
    some = l;
    twos = λ i m. c.twos (suc i) (omega arith);
    closed = c.closed;
    not-before = λ i m k. c.not-before (suc i) (omega arith) (omega arith);
  }

  -- the test says so
  pub closes_test : (n : ℕ) (p : ℕ × ℕ) → (closes? M s a n p ≡ true) ↔ Closing M s a n p
  unfolding closes? place
  closes_test zero p = (λ h. absurd (false≢true h), λ c. absurd (omega (arith, c.some)))
  closes_test (suc n) p = (
    λ h. let (d, r) = and_both (eqb (degree M s (onward M s p).0) 2) _ h in
        let two = eqb-true (degree M s (onward M s p).0) 2 d in
        by (eqb (onward M s p).0 a)
        (λ e. let z : n ≡ 0 = eqb-true n 0 (rw e at r) in rw z (closing_one p two (eqb-true (onward M s p).0 a e)))
        (λ e. closing_more n p two (eqb-false (onward M s p).0 a e) ((closes_test n (onward M s p)).0 (rw e at r))),
    λ c. both_and (eq-eqb (degree M s (onward M s p).0) 2 (c.twos 0 (omega arith)))
        (by (eqb (onward M s p).0 a)
        (λ e. rw e (by (eqb n 0) (λ z. z) (λ z. absurd (c.not-before 1 (omega arith) (omega (arith, eqb-false n 0 z)) (eqb-true (onward M s p).0 a e)))))
        (λ e. rw e ((closes_test n (onward M s p)).1 (closing_rest n p c
        (by (eqb n 0) (λ z. absurd (eqb-false (onward M s p).0 a e (rw (eqb-true n 0 z) at c.closed))) (λ z. omega (arith, eqb-false n 0 z))))))),
  )
