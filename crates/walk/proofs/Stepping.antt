-- One step of the walk: the other bond at an atom, what the test tells, what is noted. Assumes nothing.
use Rattle.std.proofs.Common.{Some, None}
use Rattle.std.proofs.lemmas.Option.{none-some, cond_some}
use mathlib.Core.Path.{◌≡◌, refl, sym, ap, ◌∙◌}
use mathlib.Core.Logic.{◌≢◌}
use mathlib.Core.Bool.{Bool, true, false, cond, ◌&&◌, not, and_assoc, and_comm}
use mathlib.Core.List.{◌∷◌}
use Prim.Native.Nat.{ℕ, suc, ◌+◌, ◌*◌, ◌-◌, ◌^◌, ◌≤◌, ◌<◌}
use native.Mathlib.Nat.{pos_of_ne-zero}
use native.Mathlib.Numerals.{add-one}
use native.Mathlib.Omega.{arith}
use lib.Bits.{bit_and}
use lib.Dec.{eqb, ltb}
use lib.ListN.{get_or, set}
use borrow.Author.Tests.{eqb-true, eq-eqb, ne_eqb, ltb-true, ltb-false, lt-ltb}
use Rattle.sets.specs.Bits.{has, size, without, IsNext}
use Rattle.sets.specs.Bond.{bits}
use Rattle.sets.specs.Lists.{sets_in}
use Rattle.sets.proofs.Laws.{ext, has-and, has-without, lowest}
use Rattle.sets.proofs.Size.{size-sub, size-pow, and-sub, xor-zero}
use Rattle.definitions.specs.Search.{set_of}
use Rattle.definitions.specs.Table.{Table, bonds, tail, meets?, max_atoms, max_bonds}
use Rattle.definitions.specs.Ring.{degree}
use Rattle.definitions.specs.Walk.{first_that, other_atom, other_bond, onward, walk_from}
use Rattle.definitions.proofs.Tests.{by, clashes, and_both, both_and, some_of}
use Rattle.definitions.proofs.Lists.{has-set_of, size-set_of}
use Rattle.walking.specs.Closing.{closes?}
use Rattle.walking.proofs.Steps.{First, first_that_lem}
use Rattle.walk.specs.Going.{table_of, Standing, noted}
use Rattle.walk.specs.declared.round.Place.{Place}
use Rattle.walk.specs.declared.round.Ring.{Ring}
use Rattle.walk.specs.declared.round.Walk.{Walk}

-- ---- the other of two

-- a set of two has one beside k
one_beside : (h k : ℕ) → size h ≡ 2 → without h k ≢ 0
unfolding without
one_beside h k e z = omega (arith, size-sub h (2 ^ k) (and-sub h (2 ^ k) (sym (xor-zero h (bit_and h (2 ^ k)) z))), size-pow k)

module _ (n : ℕ) (p : ℕ → Bool) where
  -- what a set shares with those that pass
  shared_those : (s : ℕ) → bit_and (set_of n p) s ≡ set_of n (λ j. has s j && p j)
  shared_those s =
      ext _ _ (λ j. has-and (set_of n p) s j ∙ ap (λ (x : Bool). x && has s j) (has-set_of n p j)
      ∙ and_assoc (ltb j n) (p j) (has s j) ∙ ap (λ (x : Bool). ltb j n && x) (and_comm (p j) (has s j)) ∙ sym (has-set_of n (λ i. has s i && p i) j))

  module _ (k : ℕ) where
    -- passes beside k
    abbrev beside? : ℕ → Bool
    beside? j = p j && not (eqb k j)

    -- those that pass beside k
    beside : (j : ℕ) → has (without (set_of n p) k) j ≡ ltb j n && beside? j
    beside j = has-without (set_of n p) k j ∙ ap (λ (x : Bool). x && not (eqb k j)) (has-set_of n p j) ∙ and_assoc (ltb j n) (p j) (not (eqb k j))

    module _ (two : size (set_of n p) ≡ 2) where
      -- where two pass, one passes beside k
      first_beside : First n beside? (first_that n beside?)
      first_beside =
          let (i, h, _) = lowest (without (set_of n p) k) (pos_of_ne-zero (one_beside (set_of n p) k two)) in
          let (w, q) = and_both _ _ (sym (beside i) ∙ h) in
          first_that_lem n beside? (some_of n beside? i (ltb-true i n w) q)

      -- and the next beside k is the first of them
      next_beside : {m r : ℕ} → n ≤ m → IsNext m (without (set_of n p) k) 0 r → r ≡ first_that n beside?
      next_beside {r = r} few next =
          let f = first_that n beside? in
          let h = beside f ∙ both_and (lt-ltb f n first_beside.within) first_beside.passes in
          let low : r ≤ f = by (ltb f r) (λ t. clashes h (next.none f (omega arith) (ltb-true f r t))) (λ t. ltb-false f r t) in
          let q : beside? r ≡ true = (and_both (ltb r n) (beside? r) (sym (beside r) ∙ next.member (omega (arith, first_beside.within)))).1 in
          by (ltb r f) (λ t. clashes q (first_beside.none r (ltb-true r f t))) (λ t. omega (arith, ltb-false r f t))

-- ---- the bonds of a ring at an atom

module _ (r : Ring) {a : ℕ} (inside : a < max_atoms) where
  -- bond j of the ring meets the atom
  abbrev here? : ℕ → Bool
  here? j = has (bits r.set) j && meets? (table_of r) a j

  -- where they are two, one of the table is beside k
  other-within : eqb (degree (table_of r) (bits r.set) a) 2 ≡ true → (k : ℕ) → other_bond (table_of r) (bits r.set) a k < bonds (table_of r)
  unfolding degree other_bond
  other-within e k = (first_beside (bonds (table_of r)) here? k (size-set_of _ here? ∙ eqb-true _ 2 e)).within

  -- h are those that the row shares with the ring, and are n
  module _ {row h n : ℕ} (is : row ≡ get_or (sets_in r.rows.now) a 0) (shared : h ≡ bit_and row (bits r.set)) (all : n ≡ size h) where
    here : h ≡ set_of (bonds (table_of r)) here?
    here = shared ∙ ap (λ (x : ℕ). bit_and x (bits r.set)) (is ∙ r.rowed.row a inside) ∙ shared_those (bonds (table_of r)) (meets? (table_of r) a) (bits r.set)

    -- so n is the degree of the atom
    degree_is : degree (table_of r) (bits r.set) a ≡ n
    unfolding degree
    degree_is = sym (all ∙ ap size here ∙ size-set_of _ here?)

    -- where they are not two, none is told
    pub other_none : (k : ℕ) → n ≢ 2 → None ≡ cond (eqb (degree (table_of r) (bits r.set) a) 2) (Some (other_bond (table_of r) (bits r.set) a k)) None
    other_none k e = rw (degree_is, ne_eqb n 2 e) refl

    -- and where they are, the next beside k
    pub other_some : (k : ℕ) {beside j : ℕ} → n ≡ 2 → beside ≡ without h k → IsNext max_bonds beside 0 j
        → Some j ≡ cond (eqb (degree (table_of r) (bits r.set) a) 2) (Some (other_bond (table_of r) (bits r.set) a k)) None
    unfolding other_bond
    other_some k e b next =
        rw (degree_is, eq-eqb n 2 e)
        (ap Some (next_beside (bonds (table_of r)) here? k (ap size (sym here) ∙ sym all ∙ e) r.fits.few (rw (b, here) at next)))

-- ---- one step of the definitions, where a bond is left

module _ (M : Table) (s : ℕ) {n : ℕ} (some : n ≢ 0) (p : ℕ × ℕ) where
  -- there is a bond less
  one_more : suc (n - 1) ≡ n
  one_more = omega (arith, pos_of_ne-zero some)

  -- of the test
  closes_step : (a : ℕ) → closes? M s a n p ≡ eqb (degree M s (onward M s p).0) 2 && cond (eqb (onward M s p).0 a) (eqb (n - 1) 0) (closes? M s a (n - 1) (onward M s p))
  unfolding closes?
  closes_step a = ap (λ (m : ℕ). closes? M s a m p) (sym one_more)

  -- and of the walk
  from_step : walk_from M s n p ≡ p ∷ walk_from M s (n - 1) (onward M s p)
  unfolding walk_from
  from_step = ap (λ (m : ℕ). walk_from M s m p) (sym one_more)

-- ---- a step of the code

-- the walk with a place noted
abbrev pub noted_here : Walk → Place → Walk
noted_here w at = record { atoms = set w.atoms at.gone at.atom; bonds = set w.bonds at.gone at.bond }

-- from a place with a bond left the walk comes to atom b
pub record Step (r : Ring) (at : Place) (b : ℕ) : Type 0 where
  pub from : Standing r at
  pub some : at.left ≢ 0
  pub atom : b ≡ other_atom (table_of r) at.bond at.atom

module _ {r : Ring} {at : Place} {b : ℕ} (p : Step r at b) where
  -- the table, the set, and the two bonds that there may be of it at the atom
  abbrev M : Table
  M = table_of r

  abbrev s : ℕ
  s = bits r.set

  abbrev two? : Bool
  two? = eqb (degree M s b) 2

  -- the atom is one that there may be
  pub atom-inside : b < max_atoms
  atom-inside =
      rw p.atom
      (by (eqb (tail M at.bond) at.atom)
      (λ t. rw t (r.fits.ends (2 * at.bond + 1) (omega (arith, p.from.bond))))
      (λ t. rw t (r.fits.ends (2 * at.bond) (omega (arith, p.from.bond)))))

  -- without two bonds there the test tells no
  pub told_none : (j : ℕ) → None ≡ cond two? (Some j) None → false ≡ closes? M s at.start at.left (at.atom, at.bond)
  unfolding onward
  told_none j e =
      by two? (λ t. absurd (none-some j (rw t at e)))
      (λ t. sym (closes_step M s p.some (at.atom, at.bond) at.start ∙ rw (← p.atom, t) refl))

  -- where the other of two is told
  module _ {next : ℕ} (e : Some next ≡ cond two? (Some (other_bond M s b at.bond)) None) where
    -- the next place is the one to which the definition comes
    onward_is : onward M s (at.atom, at.bond) ≡ (b, next)
    unfolding onward
    onward_is = rw (← p.atom) (ap (λ (j : ℕ). (b, j)) (cond_some _ _ _ (sym e)).1)

    -- the walk stands there with one bond less to go
    pub standing_next : Standing r (record { start = at.start; gone = at.gone + 1; left = at.left - 1; atom = b; bond = next })
    standing_next = record {
      atom = atom-inside;
      bond = let (two, is) = cond_some _ _ _ (sym e) in rw is at (other-within r atom-inside two at.bond);
      room = omega (arith, p.from.room, pos_of_ne-zero p.some);
    }

    -- the test tells what it tells there
    told_two : closes? M s at.start at.left (at.atom, at.bond) ≡ cond (eqb b at.start) (eqb (at.left - 1) 0) (closes? M s at.start (at.left - 1) (b, next))
    told_two = closes_step M s p.some (at.atom, at.bond) at.start ∙ rw (onward_is, (cond_some _ _ _ (sym e)).0) refl

    pub told_last : b ≡ at.start → eqb (at.left - 1) 0 ≡ closes? M s at.start at.left (at.atom, at.bond)
    told_last q = sym (told_two ∙ rw (eq-eqb b at.start q) refl)

    pub told_more : {t : Bool} → b ≢ at.start → t ≡ closes? M s at.start (at.left - 1) (b, next) → t ≡ closes? M s at.start at.left (at.atom, at.bond)
    told_more q h = h ∙ sym (told_two ∙ rw (ne_eqb b at.start q) refl)

    -- what is noted here and then of the rest is noted of all
    pub noted_more : (w : Walk) {w' : Walk} {t : Bool} → (t ≡ true → w' ≡ noted (noted_here w at) (at.gone + 1) (walk_from M s (at.left - 1) (b, next)))
        → t ≡ true → w' ≡ noted w at.gone (walk_from M s at.left (at.atom, at.bond))
    noted_more w h t = rw (from_step M s p.some (at.atom, at.bond), onward_is) (rw (add-one at.gone) at (h t))

    pub noted_last : (w : Walk) → eqb (at.left - 1) 0 ≡ true → noted_here w at ≡ noted w at.gone (walk_from M s at.left (at.atom, at.bond))
    unfolding walk_from
    noted_last w = noted_more w (λ t. rw (eqb-true (at.left - 1) 0 t) refl)
