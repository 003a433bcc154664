-- The table refusals of renumbered tables agree: the counts are the same, and a bond that joins an atom to itself, or has the two atoms of
-- another, is carried to one that does. Assumes nothing.
use mathlib.Core.Path.{◌≡◌, refl, sym, ap, ap₂, ◌∙◌}
use mathlib.Core.Logic.{◌≢◌, ⊎_elim}
use mathlib.Core.Bool.{Bool, true, false, ◌||◌}
use mathlib.Core.List.{List, ◌∷◌}
use Prim.Native.Nat.{ℕ, ◌%◌, ◌<◌}
use native.Mathlib.Omega.{arith}
use lib.Dec.{eqb, ltb}
use borrow.Author.Tests.{eqb-true, eq-eqb, ltb-true, ltb-false, lt-leb}
use Rattle.definitions.specs.Search.{some?}
use Rattle.definitions.specs.Table.{Table, bonds, tail, head, bad_end?, self_bond?, alike?, seen_before?, max_atoms, max_bonds, ODD, ATOMS, BONDS, END, SELF, TWICE, table_tests, first_of, refusal}
use Rattle.definitions.specs.Basis.{Joins, Joins.along}
use Rattle.definitions.proofs.Tests.{by, same_test, some_at, some_of, none_of, true_of}
use Rattle.definitions.proofs.Refusals.{tells_alike}
use Rattle.renumbering.specs.Renumbered.{Renumbered, InRange}
use Rattle.renumbering.proofs.Images.{renames_one}
use Rattle.renumbering.proofs.Tables.{joins_ends, ends_join, joins_same, joins_carried, same-bonds, range_carried, renumbered_back}

-- no bond is refused for its ends
ends_pass : (M : Table) → InRange M → some? (bonds M) (bad_end? M) ≡ false
ends_pass M inside = none_of (bonds M) (bad_end? M) (λ k l. let (t, h) = inside k l in rw (lt-leb _ _ t, lt-leb _ _ h))

-- two bonds with the same two atoms, one before the other, are found
found_twice : (M : Table) (i j : ℕ) → i < bonds M → j < i → Joins M i (tail M j) (head M j) → some? (bonds M) (seen_before? M) ≡ true
unfolding seen_before?
found_twice M i j l m h = some_of (bonds M) (seen_before? M) i l (some_of i (alike? M i) j m (true_of (tells_alike M i j) (joins_ends h)))

module _ {M N : Table} (r : Renumbered M N) where
  -- the new number of a bond is one of a bond
  new_below : (k : ℕ) → k < bonds M → r.bond k < bonds N
  new_below k l = rw (same-bonds r) at (r.bonds_renamed.forth k l)

  -- a bond that joins an atom to itself is carried to one that does
  self_carried : some? (bonds M) (self_bond? M) ≡ true → some? (bonds N) (self_bond? N) ≡ true
  self_carried e =
      let (k, l, t) = some_at (bonds M) (self_bond? M) e in
      let q = ap r.atom (eqb-true (tail M k) (head M k) t) in
      some_of (bonds N) (self_bond? N) (r.bond k) (new_below k l)
      (eq-eqb _ _ (⊎_elim (λ h. h.0 ∙ q ∙ sym h.1) (λ h. h.0 ∙ sym q ∙ sym h.1) (joins_ends (r.ends k l))))

  -- a pair of atoms that is bonded twice is carried to one that is
  twice_carried : some? (bonds M) (seen_before? M) ≡ true → some? (bonds N) (seen_before? N) ≡ true
  unfolding seen_before?
  twice_carried e =
      let (k, l, t) = some_at (bonds M) (seen_before? M) e in
      let (j, m, u) = some_at k (alike? M k) t in
      let h : j < bonds M = omega arith in
      let x = r.bond k in
      let y = r.bond j in
      let new : Joins N x (tail N y) (head N y) = joins_same (joins_carried r l (ends_join ((tells_alike M k j).yes_says u))) (r.ends j h) in
      let apart : y ≢ x = λ q. omega (arith, renames_one r.bonds_renamed j k h l q) in
      by (ltb y x)
      (λ i. found_twice N x y (new_below k l) (ltb-true y x i) new)
      (λ i. found_twice N y x (new_below j h) (omega (arith, ltb-false y x i)) (joins_same along new))

-- two lists of numbered tests whose first tests agree, and whose others do
tests_more : (n : ℕ) {b c : Bool} {ts us : List (ℕ × Bool)} → b ≡ c → ts ≡ us → (n, b) ∷ ts ≡ (n, c) ∷ us
tests_more n p q = ap₂ ◌∷◌ (ap (λ (b : Bool). (n, b)) p) q

module _ {M N : Table} (r : Renumbered M N) (inside : InRange M) where
  -- each test of the table gives the same
  tests_agree : table_tests M ≡ table_tests N
  tests_agree =
      let back = renumbered_back r inside in
      tests_more ODD (ap (λ (n : ℕ). eqb (n % 2) 1) r.bytes)
      (tests_more ATOMS (ap (λ (n : ℕ). eqb n 0 || ltb max_atoms n) r.atoms)
      (tests_more BONDS (ap (ltb max_bonds) (same-bonds r))
      (tests_more END (ends_pass M inside ∙ sym (ends_pass N (range_carried r inside)))
      (tests_more SELF (same_test _ _ (self_carried r) (self_carried back))
      (tests_more TWICE (same_test _ _ (twice_carried r) (twice_carried back))
      refl)))))

  -- the table refusals agree
  pub refusals_of_renumbered : refusal M ≡ refusal N
  unfolding refusal
  refusals_of_renumbered = ap first_of tests_agree
