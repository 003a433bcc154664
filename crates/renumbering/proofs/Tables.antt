-- A renumbering of tables can be read the other way, and carries what is said of bonds and atoms: range, ends, which bonds meet an atom
-- and which have the same two atoms. Assumes nothing.
use mathlib.Core.Path.{◌≡◌, refl, sym, ap, ap₂, subst, ◌∙◌}
use mathlib.Core.Logic.{◌⊎◌, inl, inr, ⊎_elim}
use mathlib.Core.Bool.{◌||◌, or_comm}
use Prim.Native.Nat.{ℕ, ◌/◌, ◌<◌}
use lib.Dec.{eqb}
use borrow.Author.Tests.{eqb-true, eq-eqb}
use Rattle.definitions.specs.Table.{Table, bonds, tail, head, meets?}
use Rattle.definitions.specs.Basis.{Joins, Joins.along, Joins.back}
use Rattle.definitions.proofs.Tests.{same_test}
use Rattle.renumbering.specs.Renumbered.{Renames, Renumbered, InRange}
use Rattle.renumbering.proofs.Images.{renames_back, renames_one}

-- ---- what a bond joins

module _ {M : Table} where
  -- a bond joins its two ends, either way round, and nothing else
  pub joins_ends : {j a b : ℕ} → Joins M j a b → ((tail M j ≡ a) × (head M j ≡ b)) ⊎ ((tail M j ≡ b) × (head M j ≡ a))
  joins_ends along = inl (refl, refl)
  joins_ends back = inr (refl, refl)

  -- what its two ends are, it joins
  pub ends_join : {j a b : ℕ} → ((tail M j ≡ a) × (head M j ≡ b)) ⊎ ((tail M j ≡ b) × (head M j ≡ a)) → Joins M j a b
  ends_join {j} (inl (p, q)) = rw (← p, ← q) along
  ends_join {j} (inr (p, q)) = rw (← p, ← q) back

  -- what it joins, it joins the other way
  pub joins_flip : {j a b : ℕ} → Joins M j a b → Joins M j b a
  joins_flip along = back
  joins_flip back = along

  -- bonds that join the same two atoms have the same two ends
  pub joins_same : {i j a b : ℕ} → Joins M i a b → Joins M j a b → Joins M i (tail M j) (head M j)
  joins_same h along = h
  joins_same h back = joins_flip h

-- ---- new numbers are equal where the old ones are

pub eqb_renamed : {n : ℕ} {f g : ℕ → ℕ} → Renames n f g → (x y : ℕ) → x < n → y < n → eqb (f x) (f y) ≡ eqb x y
eqb_renamed {f = f} r x y l m =
    same_test (eqb (f x) (f y)) (eqb x y)
    (λ e. eq-eqb x y (renames_one r x y l m (eqb-true (f x) (f y) e)))
    (λ e. eq-eqb (f x) (f y) (ap f (eqb-true x y e)))

-- ---- renumbered tables

module _ {M N : Table} (r : Renumbered M N) where
  -- they have as many bonds
  pub same-bonds : bonds M ≡ bonds N
  same-bonds = ap (λ (n : ℕ). n / 2) r.bytes

  -- a bond joins the new numbers of what it joined
  pub joins_carried : {k a b : ℕ} → k < bonds M → Joins M k a b → Joins N (r.bond k) (r.atom a) (r.atom b)
  joins_carried {k} l along = r.ends k l
  joins_carried {k} l back = joins_flip (r.ends k l)

  -- each bond of N joins the new numbers of the ends that its bond of M has
  pub joins_old : (j : ℕ) → j < bonds N → Joins N j (r.atom (tail M (r.bond⁻¹ j))) (r.atom (head M (r.bond⁻¹ j)))
  joins_old j l =
      let h : j < bonds M = rw same-bonds l in
      rw (r.bonds_renamed.redone j h) at (r.ends (r.bond⁻¹ j) (r.bonds_renamed.back j h))

  module _ (inside : InRange M) where
    -- the ends of N are in range
    pub range_carried : InRange N
    range_carried j l =
        let k = r.bond⁻¹ j in
        let within : k < bonds M = r.bonds_renamed.back j (rw same-bonds l) in
        let below : (a : ℕ) → a < M.atoms → r.atom a < N.atoms = λ a h. rw r.atoms at (r.atoms_renamed.forth a h) in
        let (t, h) = inside k within in
        ⊎_elim (λ e. rw (e.0, e.1) (below (tail M k) t, below (head M k) h)) (λ e. rw (e.0, e.1) (below (head M k) h, below (tail M k) t))
        (joins_ends (joins_old j l))

    -- M is N renumbered
    unfoldable pub renumbered_back : Renumbered N M
    renumbered_back =
        record {
          atoms = sym r.atoms;
          bytes = sym r.bytes;
          atom = r.atom⁻¹;
          atom⁻¹ = r.atom;
          bond = r.bond⁻¹;
          bond⁻¹ = r.bond;
          atoms_renamed = subst (λ (n : ℕ). Renames n r.atom⁻¹ r.atom) r.atoms (renames_back r.atoms_renamed);
          bonds_renamed = subst (λ (n : ℕ). Renames n r.bond⁻¹ r.bond) same-bonds (renames_back r.bonds_renamed);
          ends = λ j l.
              let (t, h) = inside (r.bond⁻¹ j) (r.bonds_renamed.back j (rw same-bonds l)) in
              let old = r.atoms_renamed.undone in
              ends_join (⊎_elim (λ e. inl (sym (ap r.atom⁻¹ e.0 ∙ old _ t), sym (ap r.atom⁻¹ e.1 ∙ old _ h)))
              (λ e. inr (sym (ap r.atom⁻¹ e.1 ∙ old _ t), sym (ap r.atom⁻¹ e.0 ∙ old _ h)))
              (joins_ends (joins_old j l)));
        }

    -- a bond meets the new number of an atom where it met the atom
    pub meets_carried : (a j : ℕ) → a < M.atoms → j < bonds N → meets? N (r.atom a) j ≡ meets? M a (r.bond⁻¹ j)
    meets_carried a j l m =
        let k = r.bond⁻¹ j in
        let (t, h) = inside k (r.bonds_renamed.back j (rw same-bonds m)) in
        let same : (x : ℕ) → x < M.atoms → eqb (r.atom x) (r.atom a) ≡ eqb x a = λ x i. eqb_renamed r.atoms_renamed x a i l in
        let at : (x y : ℕ) → y < M.atoms → x ≡ r.atom y → eqb x (r.atom a) ≡ eqb y a
        = λ x y i e. ap (λ (z : ℕ). eqb z (r.atom a)) e ∙ same y i in
        ⊎_elim (λ e. ap₂ ◌||◌ (at _ _ t e.0) (at _ _ h e.1))
        (λ e. ap₂ ◌||◌ (at _ _ h e.0) (at _ _ t e.1) ∙ or_comm (eqb (head M k) a) (eqb (tail M k) a))
        (joins_ends (joins_old j m))
