-- A renumbering is found by a test, and there is one that changes all three: the numbers of the atoms, the order of the bonds and which
-- end comes first. Assumes nothing.
use mathlib.Core.Path.{◌≡◌, refl}
use mathlib.Core.Logic.{inl, inr, ⊎_elim}
use mathlib.Core.Bool.{Bool, true, ◌&&◌, ◌||◌}
use mathlib.Core.List.{List, [], ◌∷◌}
use Prim.Native.Nat.{ℕ, ◌<◌}
use lib.ListN.{get_or}
use lib.Dec.{eqb, ltb}
use borrow.Author.Tests.{eqb-true, ltb-true}
use Rattle.definitions.specs.Search.{every}
use Rattle.definitions.specs.Table.{Table, table, tail, head}
use Rattle.definitions.specs.Basis.{Joins}
use Rattle.definitions.proofs.Tests.{and_both, or-one, every-at}
use Rattle.definitions.proofs.Starred.{s4}
use Rattle.renumbering.specs.Renumbered.{Renames, Renumbered}
use Rattle.renumbering.proofs.Tables.{ends_join}

-- f and g rename the numbers below n, as a test
unfoldable renames? : ℕ → (ℕ → ℕ) → (ℕ → ℕ) → Bool
renames? n f g = every n (λ k. (ltb (f k) n && ltb (g k) n) && (eqb (g (f k)) k && eqb (f (g k)) k))

-- what passes renames
renames_test : (n : ℕ) (f g : ℕ → ℕ) → renames? n f g ≡ true → Renames n f g
unfolding renames?
renames_test n f g e =
    record {
      forth = λ k l. ltb-true (f k) n (at k l).0.0;
      back = λ k l. ltb-true (g k) n (at k l).0.1;
      undone = λ k l. eqb-true (g (f k)) k (at k l).1.0;
      redone = λ k l. eqb-true (f (g k)) k (at k l).1.1;
    }
  where
    at : (k : ℕ) → k < n → ((ltb (f k) n ≡ true) × (ltb (g k) n ≡ true)) × ((eqb (g (f k)) k ≡ true) × (eqb (f (g k)) k ≡ true))
    at k l =
        let (p, q) = and_both (ltb (f k) n && ltb (g k) n) (eqb (g (f k)) k && eqb (f (g k)) k) (every-at n _ e k l) in
        (and_both (ltb (f k) n) (ltb (g k) n) p, and_both (eqb (g (f k)) k) (eqb (f (g k)) k) q)

-- bond j joins a and b, as a test
abbrev joins? : Table → ℕ → ℕ → ℕ → Bool
joins? M j a b = (eqb (tail M j) a && eqb (head M j) b) || (eqb (tail M j) b && eqb (head M j) a)

-- what passes joins them
joins_test : (M : Table) (j a b : ℕ) → joins? M j a b ≡ true → Joins M j a b
joins_test M j a b e = ends_join (⊎_elim (λ h. inl (both a b h)) (λ h. inr (both b a h)) (or-one _ _ e))
  where
    both : (a b : ℕ) → eqb (tail M j) a && eqb (head M j) b ≡ true → (tail M j ≡ a) × (head M j ≡ b)
    both a b h = let (p, q) = and_both (eqb (tail M j) a) (eqb (head M j) b) h in (eqb-true (tail M j) a p, eqb-true (head M j) b q)

-- ---- S4, and the same bonds in another order, over other atoms, some the other way round

abbrev pub s4_other : Table
s4_other = table 4 (3 ∷ 0 ∷ 2 ∷ 3 ∷ 2 ∷ 1 ∷ 2 ∷ 0 ∷ 3 ∷ 1 ∷ [])

-- the number at a place of a list
abbrev numbered : List ℕ → ℕ → ℕ
numbered l k = get_or l k 0

-- they differ only in numbering
pub s4_renumbered : Renumbered s4 s4_other
unfolding renames? every
s4_renumbered =
    let atom = numbered (2 ∷ 0 ∷ 3 ∷ 1 ∷ []) in
    let atom⁻¹ = numbered (1 ∷ 3 ∷ 0 ∷ 2 ∷ []) in
    let bond = numbered (3 ∷ 0 ∷ 4 ∷ 2 ∷ 1 ∷ []) in
    let bond⁻¹ = numbered (1 ∷ 4 ∷ 3 ∷ 0 ∷ 2 ∷ []) in
    record {
      atoms = refl;
      bytes = refl;
      atom = atom;
      atom⁻¹ = atom⁻¹;
      bond = bond;
      bond⁻¹ = bond⁻¹;
      atoms_renamed = renames_test 4 atom atom⁻¹ refl;
      bonds_renamed = renames_test 5 bond bond⁻¹ refl;
      ends = λ k l. joins_test s4_other (bond k) _ _ (every-at 5 (λ k. joins? s4_other (bond k) (atom (tail s4 k)) (atom (head s4 k))) refl k l);
    }
