-- Even sets are carried to even sets and rings to rings, since as many bonds of the carried set meet the new number of an atom as met
-- the atom, and the way back gives each set back. Assumes nothing.
use mathlib.Core.Path.{◌≡◌, sym, ap, ap₂, subst, ◌∙◌}
use mathlib.Core.Bool.{◌&&◌}
use Prim.Native.Nat.{ℕ, ◌%◌, ◌^◌, ◌<◌}
use Rattle.sets.specs.Bits.{has, Sub}
use Rattle.definitions.specs.Search.{count}
use Rattle.definitions.specs.Table.{Table, bonds, meets?}
use Rattle.definitions.specs.Ring.{degree, Even, Ring}
use Rattle.definitions.proofs.Lists.{count_ext}
use Rattle.renumbering.specs.Renumbered.{Renumbered, InRange}
use Rattle.renumbering.proofs.Images.{image, carried, count_renamed, image_lt, image_at, image_sub, image_back, image_none}
use Rattle.renumbering.proofs.Tables.{same-bonds, range_carried, renumbered_back, meets_carried}

-- ---- a set is carried and comes back

module _ {M N : Table} (r : Renumbered M N) (inside : InRange M) where
  -- what is carried comes back
  pub carried_there : (s : ℕ) → s < 2 ^ bonds M → carried (renumbered_back r inside) (carried r s) ≡ s
  unfolding renumbered_back
  carried_there s l = subst (λ (n : ℕ). image n r.bond (carried r s) ≡ s) (same-bonds r) (image_back r.bonds_renamed s l)

  -- and what is carried back is carried there again
  pub carried_here : (t : ℕ) → t < 2 ^ bonds N → carried r (carried (renumbered_back r inside) t) ≡ t
  unfolding renumbered_back
  carried_here t l =
      subst (λ (n : ℕ). image n r.bond⁻¹ (image (bonds N) r.bond t) ≡ t) (sym (same-bonds r))
      (image_back (renumbered_back r inside).bonds_renamed t l)

  -- ---- even sets

  -- as many bonds meet the new number of an atom
  pub degree_carried : (s a : ℕ) → a < M.atoms → degree N (carried r s) (r.atom a) ≡ degree M s a
  unfolding degree
  degree_carried s a l =
      count_ext (bonds N) _ (λ j. has s (r.bond⁻¹ j) && meets? M a (r.bond⁻¹ j))
      (λ j m. ap₂ ◌&&◌ (image_at r.bonds_renamed s j (rw (same-bonds r) m)) (meets_carried r inside a j l m))
      ∙ ap (λ (n : ℕ). count n (λ j. has s (r.bond⁻¹ j) && meets? M a (r.bond⁻¹ j))) (sym (same-bonds r))
      ∙ count_renamed r.bonds_renamed (λ k. has s k && meets? M a k)

  -- an even set is carried to an even set
  pub even_carried : {s : ℕ} → Even M s → Even N (carried r s)
  even_carried {s} e =
      record {
        within = subst (λ (n : ℕ). carried r s < 2 ^ n) (same-bonds r) (image_lt r.bonds_renamed s);
        evenly = λ b l.
            let h : b < M.atoms = rw r.atoms l in
            let a = r.atom⁻¹ b in
            let low = r.atoms_renamed.back b h in
            ap (λ (x : ℕ). degree N (carried r s) x % 2) (sym (r.atoms_renamed.redone b h))
            ∙ ap (λ (x : ℕ). x % 2) (degree_carried s a low) ∙ e.evenly a low;
      }

-- ---- rings

module _ {M N : Table} (r : Renumbered M N) (inside : InRange M) where
  -- an even set of N comes back as an even set
  pub even-back : {t : ℕ} → Even N t → Even M (carried (renumbered_back r inside) t)
  even-back = even_carried (renumbered_back r inside) (range_carried r inside)

  -- a ring is carried to a ring
  pub ring_carried : {s : ℕ} → Ring M s → Ring N (carried r s)
  ring_carried {s} h =
      let back = renumbered_back r inside in
      record {
        even = even_carried r inside h.even;
        some = λ z. h.some (image_none r.bonds_renamed s h.even.within z);
        least = λ t e some part.
            let old = carried back t in
            let whole : old ≡ s
            = h.least old (even-back e) (λ z. some (image_none back.bonds_renamed t e.within z))
            (subst (Sub old) (carried_there r inside s h.even.within) (image_sub back.bonds_renamed t (carried r s) part)) in
            sym (carried_here r inside t e.within) ∙ ap (carried r) whole;
      }
