-- The two atoms of a bond, and the bonds of a set at an atom: two of them, or an even number. Assumes nothing.
use mathlib.Core.Path.{◌≡◌, refl, sym, ap, ◌∙◌}
use mathlib.Core.Logic.{◌≢◌, ◌⊎◌, inl, inr, ⊎_elim}
use mathlib.Core.List.Memᴰ
use mathlib.Core.List.{List, [], ◌∷◌}
use mathlib.Core.List.Memᴰ.{cases_cons as in-cons}
use mathlib.Core.List.Memᴰ.{head as here}
use mathlib.Core.List.Memᴰ.{not-nil as not-in-nil}
use mathlib.Core.List.Memᴰ.{tail as there}
use mathlib.Core.List.{Memᴰ as In}
use mathlib.Core.Bool.{Bool, true, false, ◌&&◌, or-true}
use Prim.Native.Nat.{ℕ, ◌%◌, ◌<◌}
use native.Mathlib.Omega.{arith}
use lib.Dec.{eqb}
use lib.ListN.{length}
use borrow.Author.Tests.{eqb-true, eqb-false}
use Rattle.sets.specs.Bits.{has, Sub}
use Rattle.definitions.specs.Search.{those}
use Rattle.definitions.specs.Table.{Table, bonds, tail, head, meets?}
use Rattle.definitions.specs.Ring.{degree, Even}
use Rattle.definitions.specs.Basis.{Joins, Joins.along, Joins.back}
use Rattle.definitions.specs.Walk.{At, other_atom}
use Rattle.definitions.proofs.Tests.{by, clashes, and_both, both_and, eqb_self}
use Rattle.definitions.proofs.Lists.{count-lt, length-listed, those_in, those_fresh, NoRepeats, fresh_none, fresh_more, fresh_length}
use Rattle.definitions.proofs.Refusals.{Valid}
use Rattle.definitions.proofs.Paths.{joins_turn, joins_of, joins_either}

-- ---- the atoms of a bond

-- a bond meets the atoms that it joins
pub joins_meets : {M : Table} {k a b : ℕ} → Joins M k a b → meets? M a k ≡ true
joins_meets {M} {k} along = rw (eqb_self (tail M k))
joins_meets {M} {k} back = rw (eqb_self (head M k)) (or-true (eqb (tail M k) (head M k)))

-- and joins an atom that it meets to its other atom
pub meets_joins : (M : Table) (k a : ℕ) → meets? M a k ≡ true → Joins M k a (other_atom M k a)
meets_joins M k a h =
    by (eqb (tail M k) a)
    (λ e. rw e (joins_of (sym (eqb-true (tail M k) a e)) refl))
    (λ e. rw e (joins_turn (joins_of refl (sym (eqb-true (head M k) a (rw e at h))))))

module _ {M : Table} (valid : Valid M) where
  -- no atom is joined to itself
  pub joins_apart : {k a b : ℕ} → k < bonds M → Joins M k a b → a ≢ b
  joins_apart {k} l along e = valid.no_self k l e
  joins_apart {k} l back e = valid.no_self k l (sym e)

  -- so a bond joins an atom to one other
  pub joins_other : {k a b c : ℕ} → k < bonds M → Joins M k a b → Joins M k a c → b ≡ c
  joins_other l p q = ⊎_elim (λ e. absurd (joins_apart l p (sym e))) (λ e. e) (joins_either (joins_turn p) q)

  -- which is an atom of the table
  pub joins_inside : {k a b : ℕ} → k < bonds M → Joins M k a b → b < M.atoms
  joins_inside {k} l along = (valid.inside k l).1
  joins_inside {k} l back = (valid.inside k l).0

-- ---- two members of a list

module _ {l : List ℕ} {x y : ℕ} (inx : In x l) (iny : In y l) (ne : x ≢ y) where
  -- they are two
  pair_fresh : NoRepeats (x ∷ y ∷ [])
  pair_fresh = fresh_more (λ i. ⊎_elim ne not-in-nil (in-cons i)) (fresh_more not-in-nil fresh_none)

  -- and members
  pair_in : (z : ℕ) → In z (x ∷ y ∷ []) → In z l
  pair_in z i = ⊎_elim (λ e. Memᴰ.cast e inx) (λ j. ⊎_elim (λ e. Memᴰ.cast e iny) (λ k. absurd (not-in-nil k)) (in-cons j)) (in-cons i)

  -- a list of two has no third
  no_third : length l ≡ 2 → (z : ℕ) → In z l → (z ≡ x) ⊎ (z ≡ y)
  no_third e z i =
      by (eqb z x) (λ t. inl (eqb-true z x t))
      (λ t. by (eqb z y) (λ u. inr (eqb-true z y u)) (λ u. absurd (omega (arith, e, fresh_length (three t u) inside))))
    where
      three : eqb z x ≡ false → eqb z y ≡ false → NoRepeats (z ∷ x ∷ y ∷ [])
      three t u = fresh_more (λ j. ⊎_elim (eqb-false z x t) (λ k. ⊎_elim (eqb-false z y u) not-in-nil (in-cons k)) (in-cons j)) pair_fresh

      inside : (w : ℕ) → In w (z ∷ x ∷ y ∷ []) → In w l
      inside w j = ⊎_elim (λ q. Memᴰ.cast q i) (pair_in w) (in-cons j)

  -- and one with no third has two
  two_alone : NoRepeats l → ((z : ℕ) → In z l → (z ≡ x) ⊎ (z ≡ y)) → length l ≡ 2
  two_alone f only = omega (arith, fresh_length pair_fresh pair_in, fresh_length f back)
    where
      back : (z : ℕ) → In z l → In z (x ∷ y ∷ [])
      back z i = ⊎_elim here (λ e. there (here e)) (only z i)

-- ---- the bonds of a set at an atom

module _ (M : Table) (s a : ℕ) where
  -- bond j is one of them, as a test
  abbrev at? : ℕ → Bool
  at? j = has s j && meets? M a j

  -- the list that the degree counts has them
  listed : {k : ℕ} → At M s a k → In k (those (bonds M) at?)
  listed {k} r = (those_in (bonds M) at? k).1 (r.0, both_and r.1 r.2)

  -- and no others
  found : (k : ℕ) → In k (those (bonds M) at?) → At M s a k
  found k i = let (l, h) = (those_in (bonds M) at? k).0 i in let (u, v) = and_both (has s k) (meets? M a k) h in (l, u, v)

  -- where they are even in number none is there alone
  pub not_alone : {x : ℕ} → degree M s a % 2 ≡ 0 → At M s a x → ((k : ℕ) → At M s a k → k ≡ x) → ⊥
  unfolding degree
  not_alone {x} e p one =
      omega (
        arith,
        e,
        count-lt at? (bonds M) x p.0 (both_and p.1 p.2),
        length-listed (bonds M) at? (λ j. j),
        fresh_length {m = x ∷ []} (those_fresh (bonds M) at?) (λ k i. here (one k (found k i))),
      )

  module _ {x y : ℕ} (p : At M s a x) (q : At M s a y) (ne : x ≢ y) where
    -- where there are two, these are the two
    pub two-bonds : degree M s a ≡ 2 → (k : ℕ) → At M s a k → (k ≡ x) ⊎ (k ≡ y)
    unfolding degree
    two-bonds d k r = no_third (listed p) (listed q) ne (length-listed (bonds M) at? (λ j. j) ∙ d) k (listed r)

    -- and where there is no other, there are two
    pub bonds-two : ((k : ℕ) → At M s a k → (k ≡ x) ⊎ (k ≡ y)) → degree M s a ≡ 2
    unfolding degree
    bonds-two only =
        sym (length-listed (bonds M) at? (λ j. j))
        ∙ two_alone (listed p) (listed q) ne (those_fresh (bonds M) at?) (λ k i. only k (found k i))

-- where the set has at most two bonds at an atom, an even part of it that has the one has the other
pub even_both : (M : Table) (s a : ℕ) {t x y : ℕ} → Even M t → Sub t s → a < M.atoms → At M s a x → ((k : ℕ) → At M s a k → (k ≡ x) ⊎ (k ≡ y))
    → has t x ≡ true → has t y ≡ true
even_both M s a {t} {x} {y} e inside l p only h =
    by (has t y) (λ q. q)
    (λ q. absurd (not_alone M t a (e.evenly a l) (p.0, h, p.2)
    (λ k m. ⊎_elim (λ z. z) (λ z. clashes m.1 (ap (has t) z ∙ q)) (only k (m.0, inside k m.1, m.2)))))
